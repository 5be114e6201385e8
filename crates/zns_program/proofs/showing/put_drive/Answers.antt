use Rattle.std.proofs.lemmas.List.{append_assoc}
use Rattle.zns_program.proofs.showing.put_drive.Goals as goal

pub returns : goal.returns
returns c = simp (c.in_ok-writeln.ensures.bytes, c.in_ok-write-2.ensures.bytes, c.in_ok-write.ensures.bytes, c.fields-fields.ensures, c.block_len.ensures.exact, append_assoc)
