use Rattle.std.proofs.Common.{arith}
use Rattle.written_blocks.proofs.Words.{SetsTo-more}
use Rattle.written_blocks.proofs.bits.set_bits.Goals as goal

pub loop-at-preserved : goal.loop-at-preserved
loop-at-preserved c = SetsTo-more _ _ _ _ _ _ _ c.loop-at.invariant c.loop-at-test.true (omega (arith, c.requires.within, c.loop-at.auto.words)) c.min-high.ensures c.mask.ensures
