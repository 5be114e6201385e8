use Rattle.std.proofs.Common.{rules}
use Rattle.std.proofs.lemmas.List.Elements.{All-push}
use Rattle.zone_cell.specs.Cells.{IsOf}
use Rattle.mgmt_receive.proofs.tests.zones_after.Goals as goal

pub loop-zone-preserved : goal.loop-zone-preserved
loop-zone-preserved c =
    (search rules, rw c.in_ok-push.ensures.items (All-push (IsOf c.args.g.now.fields) c.loop-zone.cells.items c.in_ok-cell.cell c.loop-zone.invariant.1 c.in_ok-cell.ensures))
