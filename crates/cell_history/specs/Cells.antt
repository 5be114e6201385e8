-- The cell of a zone after its deeds.
use Rattle.std.specs.Prelude.{◌≡◌, ℕ, ◌*◌, ◌<◌, true, ◌&&◌, List, ◌∷◌, length, map}
use Rattle.std.specs.List.{range_with_len}
use Rattle.zns_types.specs.declared.fields.GeometryFields.{GeometryFields}
use Rattle.zns_types.specs.States.{is_active, is_writable}
use Rattle.zns_types.specs.Geometry.{IsGeometry, block_len}
use Rattle.drive_rules.specs.Deeds.{blocks_of}
use Rattle.zone_history.specs.Histories.{Done, state_of, pointer_of, window_of, block_of, had}
use Rattle.zone_history.specs.Admitted.{is_write, AreAdmitted}
use Rattle.zone_cell.specs.Cells.{Cell, IsOf}
use Rattle.zone_cell.specs.Deeds.{after_deed}

-- the cell of a zone after these deeds
unfoldable pub cell_of : GeometryFields → ℕ → List Done → Cell
cell_of g z ds = record {
  zone = z;
  block_len = block_len g;
  state = state_of g ds;
  pointer = pointer_of g ds;
  window = window_of g ds;
  finished = had ds 1 && is_writable (state_of g ds);
  finish_recommended = had ds 2 && is_active (state_of g ds);
  reset_recommended = had ds 3 && is_writable (state_of g ds);
  blocks = map (block_of g ds) (range_with_len 0 g.capacity);
}

-- a write came with the bytes of its blocks
abbrev pub IsWhole : GeometryFields → Done → Type 0
IsWhole g d = is_write d.deed ≡ true → length d.payload ≡ blocks_of d.deed * block_len g

-- A deed turns a zone's cell into the cell of its deeds followed by this one.
abbrev pub CellFollows : Type 0
CellFollows = (g : GeometryFields) (z : ℕ) (ds : List Done) (d : Done) → IsGeometry g → AreAdmitted g (d ∷ ds) → IsWhole g d → after_deed g d.deed d.payload (cell_of g z ds) ≡ cell_of g z (d ∷ ds)

-- The cell of a zone of the drive is a cell of that drive.
abbrev pub CellIsOfDrive : Type 0
CellIsOfDrive = (g : GeometryFields) (z : ℕ) (ds : List Done) → IsGeometry g → z < g.zones → AreAdmitted g ds → IsOf g (cell_of g z ds)
