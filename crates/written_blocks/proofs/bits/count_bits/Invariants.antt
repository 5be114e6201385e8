use Rattle.std.proofs.Common.{◌-◌}
use Rattle.written_blocks.proofs.Loops.{CountsTo}
use Rattle.written_blocks.proofs.bits.count_bits.Given as goal

abbrev pub invariant-loop-at : goal.invariant-loop-at
invariant-loop-at l = CountsTo l.words l.from l.to l.at l.set

abbrev pub decreases-loop-at : goal.decreases-loop-at
decreases-loop-at l = l.to - l.at
