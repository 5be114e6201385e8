use Rattle.std.proofs.Common.{◌≡◌, length, ap, ◌∙◌, arith, rules}
use Rattle.zone_cell.specs.Cells.{Cell, after_write}
use Rattle.zone_cell.proofs.Blocks.{length-with_blocks}
use Rattle.zone_cell.proofs.Cells.{IsOf-after_write}
use Rattle.zone_cell.proofs.cell.ZoneCell.put.Goals as goal

pub lead-requires : goal.lead-requires
lead-requires c =
    omega (arith, ap (λ (z : Cell). length z.blocks) c.store.ensures ∙ length-with_blocks c.args.self.now.block_len c.args.from c.args.payload.now c.args.self.now.blocks)

pub returns-clause-kept : goal.returns-clause-kept
returns-clause-kept c =
    let g = c.args.g.now.fields in
    let same : c.lead.new.self ≡ after_write g c.args.from c.args.payload.now c.args.self.now = search rules in
    rw same (IsOf-after_write g c.args.from c.args.payload.now c.args.self.now c.requires.kept)
