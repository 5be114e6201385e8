use Rattle.std.proofs.Common.{ℕ, ◌<◌, get_or}
use Rattle.zone_cell.specs.Cells.{Cell}
use Rattle.zone_room.specs.Using.{AreCounted}
use Rattle.zone_room.specs.Rooms.{cell_use}
use Rattle.zone_room.proofs.tests.are_counted.Given as goal

abbrev pub invariant-loop-cell : goal.invariant-loop-cell
invariant-loop-cell l = (k : ℕ) (d : Cell) → k < l.cell-index → AreCounted l.g.fields l.limits (cell_use (get_or l.cells k d))
