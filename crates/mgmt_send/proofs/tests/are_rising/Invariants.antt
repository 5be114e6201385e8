use Rattle.std.proofs.Common.{◌≡◌, ℕ, ◌<◌}
use Rattle.zone_room.specs.Rooms.{cell_in}
use Rattle.mgmt_send.proofs.tests.are_rising.Given as goal

abbrev pub invariant-loop-i : goal.invariant-loop-i
invariant-loop-i l = (k : ℕ) → k < l.i → (cell_in l.cells k).zone ≡ k
