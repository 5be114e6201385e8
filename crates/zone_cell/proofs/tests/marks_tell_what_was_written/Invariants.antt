use Rattle.zone_cell.specs.Cells.{IsOf}
use Rattle.zone_cell.proofs.tests.marks_tell_what_was_written.Given as goal

abbrev pub invariant-loop-step : goal.invariant-loop-step
invariant-loop-step g l = IsOf l.g.fields l.cell
