use Rattle.std.proofs.Common.{refl, length}
use Rattle.zone_cell.proofs.Blocks.{length-kept, kept-none}
use Rattle.zone_cell.proofs.cell.ZoneCell.clear.Goals as goal

pub returns-clause-reset : goal.returns-clause-reset
returns-clause-reset c =
    let a = c.self.inside in
    rw (← c.self.view_is, c.clear.ensures, length-kept a.block_len a.bytes.items a.written, kept-none a.block_len (length a.written) a.bytes.items) refl
