use Rattle.std.proofs.Common.{All}
use Rattle.zone_cell.specs.Cells.{IsOf}
use Rattle.mgmt_send.proofs.tests.sends_go_to_one_zone_and_to_all.Given as goal

abbrev pub invariant-loop-step : goal.invariant-loop-step
invariant-loop-step g l = All (IsOf l.g.fields) l.cells
