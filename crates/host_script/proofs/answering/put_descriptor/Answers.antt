use Rattle.std.proofs.lemmas.List.{append_assoc}
use Rattle.host_script.proofs.answering.put_descriptor.Goals as goal

pub returns : goal.returns
returns c = simp (c.in_ok-writeln.ensures.bytes, c.in_ok-put_offset.ensures, c.in_ok-write-2.ensures.bytes, c.window_in-window.ensures, c.in_ok-put_state.ensures, c.in_ok-write.ensures.bytes, c.first.ensures, c.pointer_in.ensures, append_assoc)
