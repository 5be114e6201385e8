use Rattle.std.proofs.Common.{◌+◌, [], ◌∷◌, Option, sym, ap}
use Rattle.std.specs.Prelude.{nat_lt}
use Rattle.std.proofs.lemmas.Result.{err_from_is_err_and}
use Rattle.zns_types.specs.Rows.{when}
use Rattle.zns_types.specs.Statuses.{Status, invalid_zone_operation, zone_boundary_error}
use Rattle.zone_cell.specs.Cells.{sight}
use Rattle.zone_cell.specs.Deeds.{need_or_refusal}
use Rattle.drive_rules.specs.Deeds.{need_for}
use Rattle.drive_rules.specs.declared.deed.Deed.TheVariants as deed
use Rattle.zone_cell.proofs.cell.ZoneCell.check_append.Goals as goal

pub returns-in_err-open_to_writes : goal.returns-in_err-open_to_writes
returns-in_err-open_to_writes c =
    let p = err_from_is_err_and c.from_residual.result c.from_residual.ensures.1 in
    let cell = c.args.self.now in
    let rows = when cell.window invalid_zone_operation ∷ when (nat_lt c.args.g.now.fields.capacity (cell.pointer + c.args.count)) zone_boundary_error ∷ [] in
    let refused = rw c.state.ensures at (c.in_err-open_to_writes.ensures.closed rows) in
    rw (p.1, p.2) (sym (ap (λ (o : Option Status). need_or_refusal o (need_for (deed.Append c.args.count) (sight cell))) refused))
