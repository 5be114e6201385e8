use Rattle.std.proofs.Common.{◌≡◌, None, vec_len, vec_capacity}
use Rattle.zone_desk.specs.Sights.{in_order, with_cells}
use Rattle.zone_desk.specs.Passes.{emptied, AreWithin}
use Rattle.zone_desk.proofs.freeing.free_zones.Given as goal

abbrev pub invariant-loop-cell : goal.invariant-loop-cell
invariant-loop-cell l = record {
  table : l.seat.table_id ≡ l.initial.seat.table_id;
  sight : l.seat.me.0 ≡ with_cells l.initial.seat.me.0 l.seat.me.0.cells;
  items : l.cells.items ≡ in_order l.seat.me.0.cells;
  places : l.seat.me.1 ≡ emptied None l.seat.me.0.cells;
  within : AreWithin l.board.table_id.words l.seat.me.0.cells;
  room : vec_capacity l.cells ≡ vec_capacity l.initial.cells;
}

abbrev pub decreases-loop-cell : goal.decreases-loop-cell
decreases-loop-cell l = vec_len l.cells
