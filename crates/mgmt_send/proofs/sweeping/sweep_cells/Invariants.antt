use Rattle.mgmt_send.proofs.Underway.{IsUnderway}
use Rattle.mgmt_send.proofs.sweeping.sweep_cells.Given as goal

abbrev pub invariant-loop-i : goal.invariant-loop-i
invariant-loop-i l = IsUnderway l.g.fields l.deed l.initial.cells l.i l.cells l.limits
