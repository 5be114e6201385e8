use Rattle.std.proofs.Common.{sym}
use Rattle.written_blocks.proofs.MarkLists.{length-marks_of}
use Rattle.written_blocks.proofs.written.Written.len.Goals as goal

pub returns : goal.returns
returns c = rw (← c.self.view_is) (sym (length-marks_of c.self.inside.blocks c.self.inside.words.items))
