use Rattle.std.proofs.Common.{false, refl, arith}
use Rattle.std.proofs.lemmas.List.Elements.{All-set}
use Rattle.zone_cell.specs.Cells.{IsOf}
use Rattle.sqe_codec.specs.declared.cmd.Cmd.TheVariants as cmd
use Rattle.mgmt_send.proofs.Underway.{counted}
use Rattle.mgmt_send.proofs.Lent.{all_lent}
use Rattle.mgmt_send.proofs.tests.status_of.Goals as goal

pub excurse-requires-clause-counted : goal.excurse-requires-clause-counted
excurse-requires-clause-counted c =
    counted c.args.g.now.fields c.args.cells.now c.args.limits.now c.in-Excursion.place c.index-cells-place.result (c.are_all_zones.ensures c.if-not-are_all_zones.false) (omega arith)

pub act-requires-clause-lent : goal.act-requires-clause-lent
act-requires-clause-lent c =
    all_lent c.args.g.now.fields c.args.cells.now c.args.limits.now (cmd.Send 1 c.match-step.slba.0 c.match-step.slba.1 c.match-step.slba.2 false) refl c.args.g.now.valid.zones.zone_size (c.are_all_zones.ensures c.if-not-are_all_zones.false)
    (c.are_rising.ensures.rising c.if-not-are_rising.false) (c.are_rising.ensures.first c.if-not-are_rising.false)

pub returns-in-Excursion : goal.returns-in-Excursion
returns-in-Excursion c = All-set (IsOf c.args.g.now.fields) c.args.cells.now c.in-Excursion.place c.excurse.new.cell c.excurse.ensures.of c.requires
