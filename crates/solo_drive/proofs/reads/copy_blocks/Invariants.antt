use Rattle.std.proofs.Common.{◌≡◌, ◌*◌, ◌++◌, drop}
use Rattle.solo_drive.specs.Reading.{blocks_from}
use Rattle.solo_drive.proofs.reads.copy_blocks.Given as goal

abbrev pub invariant-loop-i : goal.invariant-loop-i
invariant-loop-i l = l.out ≡ blocks_from l.g.fields l.first l.cells l.slba l.i ++ drop (l.i * l.len) l.initial.out
