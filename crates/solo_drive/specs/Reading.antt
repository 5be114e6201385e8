-- What a Read from lent cells returns.
use Rattle.std.specs.Prelude.{◌≡◌, ℕ, ◌+◌, ◌-◌, ◌*◌, ◌<◌, ◌≤◌, Bool, true, false, List, ◌++◌, length, drop}
use Rattle.std.specs.List.{flat_map, list_any, range_with_len}
use Rattle.zns_types.specs.declared.fields.GeometryFields.{GeometryFields}
use Rattle.zns_types.specs.declared.state.State.{State}
use Rattle.zns_types.specs.States.{is_offline}
use Rattle.zns_types.specs.Geometry.{block_len, zone_of, offset_of}
use Rattle.zns_types.specs.Statuses.{zone_offline}
use Rattle.drive_rules.specs.Tables.{zones_between, last_zone}
use Rattle.drive_book.specs.declared.outcome.Outcome.{Outcome}
use Rattle.drive_book.specs.Outcomes.{refusal_with, plain_success}
use Rattle.zone_descriptor.specs.Descriptors.{descriptor_bytes}
use Rattle.zone_cell.specs.Cells.{Cell, bytes_at, descriptor_of}
use Rattle.zone_room.specs.Rooms.{cell_in}

-- the cell of a zone, among cells that start with that of the zone `first`
abbrev pub cell_from : ℕ → List Cell → ℕ → Cell
cell_from first cells z = cell_in cells (z - first)

abbrev pub state_from : ℕ → List Cell → ℕ → State
state_from first cells z = (cell_from first cells z).state

-- one of `count` cells, starting at `from`, is that of an Offline zone
abbrev pub has_offline : List Cell → ℕ → ℕ → Bool
has_offline cells from count = list_any (λ i. is_offline (cell_in cells i).state) (range_with_len from count)

-- the bytes of a block
abbrev pub block_from : GeometryFields → ℕ → List Cell → ℕ → List ℕ
block_from g first cells lba = bytes_at (cell_from first cells (zone_of g lba)) (offset_of g lba) 1

-- the bytes of blocks in order
abbrev pub blocks_from : GeometryFields → ℕ → List Cell → ℕ → ℕ → List ℕ
blocks_from g first cells slba blocks = flat_map (block_from g first cells) (range_with_len slba blocks)

-- the cells, which start with that of the zone `first`, include all zones of these blocks
pub record CellsReach (g : GeometryFields) (first : ℕ) (cells : List Cell) (slba blocks : ℕ) : Type 0 where
  pub from : first ≤ zone_of g slba
  pub to : last_zone g slba blocks < first + length cells
  pub order : zone_of g slba ≤ last_zone g slba blocks

-- A Read of these blocks was refused and read nothing, or was done: the blocks come first, and what was after them is unchanged.
pub record ReadServed (g : GeometryFields) (first : ℕ) (cells : List Cell) (slba blocks : ℕ) (old new : List ℕ) (o : Outcome) : Type 0 where
  pub refused : list_any (λ z. is_offline (state_from first cells z)) (zones_between (zone_of g slba) (last_zone g slba blocks)) ≡ true → (o ≡ refusal_with zone_offline) × (new ≡ old)
  pub done : list_any (λ z. is_offline (state_from first cells z)) (zones_between (zone_of g slba) (last_zone g slba blocks)) ≡ false
      → (o ≡ record plain_success { len = blocks * block_len g }) × (new ≡ blocks_from g first cells slba blocks ++ drop (blocks * block_len g) old)

-- the descriptor of a zone's cell
abbrev pub descriptor_in : GeometryFields → List Cell → ℕ → List ℕ
descriptor_in g cells z = descriptor_bytes (descriptor_of g (cell_in cells z))
