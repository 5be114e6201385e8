use Rattle.zone_cell.specs.Cells.{IsOf}
use Rattle.zone_cell.proofs.tests.first_wrong.Given as goal

abbrev pub invariant-loop-i : goal.invariant-loop-i
invariant-loop-i l = IsOf l.g.fields l.cell
