use Rattle.std.proofs.Common.{arith}
use Rattle.written_blocks.proofs.Counts.{CountsTo-more, CountsTo-bound}
use Rattle.written_blocks.proofs.bits.count_bits.Goals as goal

pub overflow_add-set : goal.overflow_add-set
overflow_add-set c =
    let next = CountsTo-more _ _ _ _ _ _ _ c.loop-at.invariant c.loop-at-test.true c.min-high.ensures c.mask.ensures in
    omega (arith, CountsTo-bound _ _ _ _ _ next)

pub loop-at-preserved : goal.loop-at-preserved
loop-at-preserved c = CountsTo-more _ _ _ _ _ _ _ c.loop-at.invariant c.loop-at-test.true c.min-high.ensures c.mask.ensures

pub returns-clause-bound : goal.returns-clause-bound
returns-clause-bound c = CountsTo-bound _ _ _ _ _ c.loop-at.invariant
