use Rattle.std.proofs.Common.{arith}
use Rattle.zone_cell.proofs.Views.{bytes_before}
use Rattle.zone_cell.proofs.cell.ZoneCell.place.Goals as goal

pub overflow_mul-result : goal.overflow_mul-result
overflow_mul-result c =
    let e = bytes_before c.self.inside c.args.self.now c.args.block c.self.view_is c.requires in
    omega (arith, e, c.self.invariant.few_bytes)

pub returns-clause-small : goal.returns-clause-small
returns-clause-small c =
    let e = bytes_before c.self.inside c.args.self.now c.args.block c.self.view_is c.requires in
    omega (arith, e, c.self.invariant.few_bytes)
