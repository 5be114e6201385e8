use Rattle.std.proofs.Common.{take}
use Rattle.zns_program.specs.Differences.{StandAt}
use Rattle.zns_program.proofs.comparing.compare.Given as goal

abbrev pub invariant-loop-byte : goal.invariant-loop-byte
invariant-loop-byte l = StandAt l.input l.fn.at (take l.byte-index l.made) l.at
