use Rattle.std.proofs.Common.{◌≡◌, ◌≤◌, take}
use Rattle.mgmt_send.specs.Sweeping.{closed_in}
use Rattle.mgmt_send.proofs.taking.count_closed.Given as goal

abbrev pub invariant-loop-i : goal.invariant-loop-i
invariant-loop-i l = (l.count ≡ closed_in (take l.i l.cells)) × (l.count ≤ l.i)
