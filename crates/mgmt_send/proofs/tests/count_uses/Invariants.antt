use Rattle.std.proofs.Common.{◌≡◌, ◌≤◌, take}
use Rattle.std.specs.List.{count_by}
use Rattle.zone_room.specs.Rooms.{cell_use}
use Rattle.mgmt_send.proofs.tests.count_uses.Given as goal

abbrev pub invariant-loop-i : goal.invariant-loop-i
invariant-loop-i l = record {
  active : l.active ≡ count_by (λ c. (cell_use c).active) (take l.i l.cells);
  opened : l.opened ≡ count_by (λ c. (cell_use c).opened) (take l.i l.cells);
  windows : l.windows ≡ count_by (λ c. (cell_use c).window) (take l.i l.cells);
  few_active : l.active ≤ l.i;
  few_opened : l.opened ≤ l.i;
  few_windows : l.windows ≤ l.i;
}
