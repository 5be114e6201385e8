use Rattle.std.proofs.Common.{◌+◌, ◌-◌, ◌∙◌, arith}
use Rattle.zone_cell.proofs.Laid.{laid_by}
use Rattle.zone_cell.proofs.laying.lay.Goals as goal

pub returns-clause-laid : goal.returns-clause-laid
returns-clause-laid c =
    let now = c.pad.new.bytes in
    let over = c.min-over.result in
    (rw c.unwrap.ensures at c.extend_from_slice.ensures.items)
    ∙ laid_by c.args.place over now.len (c.args.place + over - c.args.place) c.args.bytes.now.items c.args.payload.now now.items c.deref_mut.result.now c.copy_from_slice.new.self c.pad.ensures.padded (omega (arith, now.ok.0)) now.ok.0 (omega arith)
    c.deref_mut.ensures.value c.copy_from_slice.ensures.after
