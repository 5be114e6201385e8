use Rattle.std.proofs.lemmas.List.{append_assoc}
use Rattle.zns_program.proofs.showing.put_act.Goals as goal

pub returns : goal.returns
returns c = simp (c.in_ok-writeln.ensures.bytes, c.name_of-name.ensures, c.read.ensures.command, c.cid.ensures, c.in_ok-entry.ensures, c.as_slice.ensures, append_assoc)
