-- Room for a zone that needs resources: if no open resource is left, another zone is closed for it. Zoned Namespace Command Set
-- Specification 1.1, 2.1.1.2 (implicit close by the controller); which zone is closed is this project's choice.
use Rattle.std.specs.Prelude.{◌≡◌, ℕ, ◌<◌, true, false, not, ◌&&◌, ◌==◌, if◌then◌else◌, List, [], length, slice_set, slice_index_or, Option, Some, None, find}
use Rattle.std.specs.List.{range_with_len}
use Rattle.zns_types.specs.declared.fields.GeometryFields.{GeometryFields}
use Rattle.zns_types.specs.declared.state.State.TheVariants.{Empty}
use Rattle.zns_types.specs.States.{is_implicitly_opened}
use Rattle.zns_types.specs.Statuses.{Status}
use Rattle.zns_types.specs.Rows.{Row}
use Rattle.zone_state.specs.declared.action.Action.TheVariants as action
use Rattle.zone_limits.specs.declared.limits.Limits.{Limits}
use Rattle.zone_limits.specs.declared.limits.Need.{Need}
use Rattle.zone_limits.specs.Resources.{recounted}
use Rattle.drive_rules.specs.Deeds.{use_of, closed_use}
use Rattle.drive_rules.specs.Tables.{wants_room}
use Rattle.zone_cell.specs.Cells.{Cell, sight, after_action}

-- the default cell, for a place without one
abbrev pub no_cell : Cell
no_cell = record {
  zone = 0;
  block_len = 0;
  state = Empty;
  pointer = 0;
  window = false;
  finished = false;
  finish_recommended = false;
  reset_recommended = false;
  blocks = [];
}

-- the cell at a place
abbrev pub cell_in : List Cell → ℕ → Cell
cell_in cells place = slice_index_or cells place no_cell

-- an Implicitly Opened zone is at the place
pub record IsOpenedAt (cells : List Cell) (place : ℕ) : Type 0 where
  pub below : place < length cells
  pub opened : is_implicitly_opened (cell_in cells place).state ≡ true

-- the place of the first Implicitly Opened zone other than the one at a given place
abbrev pub evictable_in : List Cell → ℕ → Option ℕ
evictable_in cells but = find (λ at. is_implicitly_opened (cell_in cells at).state && not (at == but)) (range_with_len 0 (length cells))

-- the place of the zone that gives way to one with these rows and this need
abbrev pub victim_in : GeometryFields → List Cell → Limits → List (Row Status) → Need → ℕ → Option ℕ
victim_in g cells n rows need place = if wants_room g n rows need then evictable_in cells place else None

-- a zone after a Close
abbrev pub after_close : GeometryFields → Cell → Cell
after_close g c = after_action g action.Close false c

-- the cells after one of them, or none, was closed
abbrev pub with_closed : GeometryFields → Option ℕ → List Cell → List Cell
with_closed g None cells = cells
with_closed g (Some at) cells = slice_set cells at (after_close g (cell_in cells at))

-- what a cell's zone uses
abbrev pub cell_use : Cell → Need
cell_use c = use_of (sight c)

-- the counts after a zone has changed
abbrev pub counts_changed : Cell → Cell → Limits → Limits
counts_changed old new n = recounted (cell_use old) (cell_use new) n

-- the counts after an opened zone was closed
abbrev pub counts_closed : Cell → Limits → Limits
counts_closed c n = recounted (cell_use c) (closed_use (cell_use c)) n

-- the counts after one cell, or none, was closed
abbrev pub counts_after_close : Option ℕ → List Cell → Limits → Limits
counts_after_close None cells n = n
counts_after_close (Some at) cells n = counts_closed (cell_in cells at) n
