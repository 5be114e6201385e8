use Rattle.std.proofs.Common.{◌≡◌, ◌≤◌, take}
use Rattle.mgmt_receive.specs.Receiving.{count_wanted}
use Rattle.mgmt_receive.proofs.counts.count_wanted.Given as goal

abbrev pub invariant-loop-i : goal.invariant-loop-i
invariant-loop-i l = (l.count ≡ count_wanted l.wanted (take l.i l.cells)) × (l.count ≤ l.i)
