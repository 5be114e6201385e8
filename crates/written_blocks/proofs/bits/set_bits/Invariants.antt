use Rattle.std.proofs.Common.{◌-◌}
use Rattle.written_blocks.proofs.Loops.{SetsTo}
use Rattle.written_blocks.proofs.bits.set_bits.Given as goal

abbrev pub invariant-loop-at : goal.invariant-loop-at
invariant-loop-at l = SetsTo l.initial.words l.words l.from l.to l.at

abbrev pub decreases-loop-at : goal.decreases-loop-at
decreases-loop-at l = l.to - l.at
