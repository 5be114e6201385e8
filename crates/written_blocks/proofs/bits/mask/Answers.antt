use Rattle.written_blocks.proofs.Words.{mask-is}
use Rattle.written_blocks.proofs.bits.mask.Goals as goal

pub returns : goal.returns
returns c = mask-is c.args.low c.args.high c.requires.some c.requires.within
