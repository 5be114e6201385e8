-- A zone as its cell keeps it, and the effect of each action on it.
use Rattle.std.specs.Prelude.{◌≡◌, ℕ, ◌+◌, ◌-◌, ◌*◌, ◌/◌, ◌%◌, ◌<◌, ◌≤◌, Bool, IsTrue, false, ◌&&◌, ◌||◌, ◌==◌, nat_le, nat_lt, if◌then◌else◌, max, List, length, map, replicate, slice_index_or, Option, Some, None, is_some}
use Rattle.std.specs.List.{flat_map, range_with_len}
use Rattle.zns_types.specs.declared.fields.GeometryFields.{GeometryFields}
use Rattle.zns_types.specs.declared.state.State.{State}
use Rattle.zns_types.specs.declared.state.State.TheVariants.{Empty}
use Rattle.zns_types.specs.States.{is_active, is_full, is_read_only, is_offline, is_writable}
use Rattle.zns_types.specs.Geometry.{block_len, first}
use Rattle.zone_state.specs.declared.action.Action.{Action}
use Rattle.zone_state.specs.declared.action.Action.TheVariants as action
use Rattle.zone_state.specs.Transitions.{after, state_after}
use Rattle.zrwa_commit.specs.Least.{least_multiple}
use Rattle.drive_rules.specs.ZoneRows.{Zone}
use Rattle.drive_rules.specs.Blocks.{block_at, seen_block}
use Rattle.drive_rules.specs.Shown.{shown_pointer, attribute_bits}
use Rattle.written_blocks.specs.Marks.{holes}
use Rattle.zone_descriptor.specs.declared.descriptor.Descriptor.{Descriptor}
use Rattle.zone_cell.specs.Kept.{kept_blocks}

-- One zone: its number, the length of its blocks in bytes, its state, the offset of its write pointer, whether it has a random write area,
-- what the controller recommends, and for each block the bytes written since the last reset.
pub record Cell : Type 0 where
  pub zone : ℕ
  pub block_len : ℕ
  pub state : State
  pub pointer : ℕ
  pub window : Bool
  pub finished : Bool
  pub finish_recommended : Bool
  pub reset_recommended : Bool
  pub blocks : List (Option (List ℕ))

-- A cell of a drive. It has a random write area only if zones of the drive may have one and while it is active, and its pointer is then on
-- a granule.
pub record IsOf (g : GeometryFields) (c : Cell) : Type 0 where
  pub zone : c.zone < g.zones
  pub len : c.block_len ≡ block_len g
  pub blocks : length c.blocks ≡ g.capacity
  pub windows : IsTrue c.window → 1 ≤ g.windows
  pub granular : IsTrue c.window → c.pointer % g.granule ≡ 0
  pub active : IsTrue c.window → IsTrue (is_active c.state)

-- what the rows of a refusal see of a cell
abbrev pub sight : Cell → Zone
sight c = record { state = c.state; window = c.window; pointer = c.pointer }

-- a new zone
abbrev pub fresh : GeometryFields → ℕ → Cell
fresh g z = record {
  zone = z;
  block_len = block_len g;
  state = Empty;
  pointer = 0;
  window = false;
  finished = false;
  finish_recommended = false;
  reset_recommended = false;
  blocks = replicate g.capacity None;
}

-- the zone after a reset
abbrev pub after_reset : Cell → Cell
after_reset c = record c {
  state = Empty;
  pointer = 0;
  window = false;
  finished = false;
  finish_recommended = false;
  reset_recommended = false;
  blocks = replicate (length c.blocks) None;
}

-- a zone keeps a random write area and a recommendation only while its state has a use for them
abbrev pub with_fitting_marks : Cell → Cell
with_fitting_marks c = record c {
  window = c.window && is_active c.state;
  finished = c.finished && is_writable c.state;
  finish_recommended = c.finish_recommended && is_active c.state;
  reset_recommended = c.reset_recommended && is_writable c.state;
}

-- the zone in a state, with its pointer there
abbrev pub in_state : State → ℕ → Cell → Cell
in_state state pointer c = with_fitting_marks (record c { state = state; pointer = pointer })

-- the zone with what an excursion of a kind recommends, or that it finished the zone
abbrev pub with_note : ℕ → Cell → Cell
with_note kind c = record c {
  finished = c.finished || (kind == 1);
  finish_recommended = c.finish_recommended || (kind == 2);
  reset_recommended = c.reset_recommended || (kind == 3);
}

-- the zone after an excursion
abbrev pub after_excursion : GeometryFields → ℕ → Cell → Cell
after_excursion g kind c = in_state (after (action.Excursion kind) c.state) (if kind == 1 then g.capacity else c.pointer) (with_note kind c)

-- the zone after an Open, which may ask for a random write area
abbrev pub after_open : Bool → Cell → Cell
after_open asks c = in_state (after action.Open c.state) c.pointer (record c { window = c.window || asks })

-- The zone after an action that its state allows; an Open may ask for a random write area. For a write or a commit this changes the state
-- alone.
abbrev pub after_action : GeometryFields → Action → Bool → Cell → Cell
after_action g action.Reset asks c = after_reset c
after_action g action.Finish asks c = in_state (after action.Finish c.state) g.capacity c
after_action g (action.Excursion kind) asks c = after_excursion g kind c
after_action g action.Open asks c = after_open asks c
after_action g a asks c = in_state (after a c.state) c.pointer c

-- ---- writes and commits

-- a state that doesn't refuse every write
pub record TakesWrites (s : State) : Type 0 where
  pub full : is_full s ≡ false
  pub read_only : is_read_only s ≡ false
  pub offline : is_offline s ≡ false

-- the number of blocks of host data
abbrev pub count_of : Cell → List ℕ → ℕ
count_of c payload = length payload / c.block_len

-- the blocks with host data written from an offset on
abbrev pub with_blocks : ℕ → ℕ → List ℕ → List (Option (List ℕ)) → List (Option (List ℕ))
with_blocks len from payload blocks = map (λ b. if nat_le from b && nat_lt b (from + length payload / len) then Some (block_at len payload (b - from)) else slice_index_or blocks b None) (range_with_len 0 (length blocks))

-- the zone with host data in its blocks from an offset on
abbrev pub with_data : ℕ → List ℕ → Cell → Cell
with_data from payload c = record c { blocks = with_blocks c.block_len from payload c.blocks }

-- The pointer after a write that ends at an offset: it moves by the number of blocks written; with a random write area, to the lowest
-- granule from which the area includes the end of the write.
abbrev pub pointer_after : GeometryFields → Cell → ℕ → ℕ → ℕ
pointer_after g c count end = if c.window then least_multiple g.granule (max c.pointer (end - g.window)) else c.pointer + count

-- the zone after host data was written from an offset on
abbrev pub after_write : GeometryFields → ℕ → List ℕ → Cell → Cell
after_write g from payload c = in_state (state_after g.capacity action.Write pointer c.state) pointer (with_data from payload c)
  where
    pointer : ℕ
    pointer = pointer_after g c (count_of c payload) (from + count_of c payload)

-- the zone after a commit of the blocks up to and including `last`
abbrev pub after_commit : GeometryFields → ℕ → Cell → Cell
after_commit g last c = in_state (state_after g.capacity action.Commit (last + 1) c.state) (last + 1) c

-- host data of one or more whole blocks
pub record IsBlocks (len : ℕ) (payload : List ℕ) : Type 0 where
  pub some : 1 ≤ length payload / len
  pub whole : length payload / len * len ≡ length payload

-- An action may ask for a random write area where it is an Open, zones of the drive may have one, and the pointer is on
-- a granule.
pub record MayAsk (g : GeometryFields) (a : Action) (c : Cell) : Type 0 where
  pub opens : a ≡ action.Open
  pub windows : 1 ≤ g.windows
  pub whole : c.pointer % g.granule ≡ 0

-- ---- what is read

-- a block's bytes, or zeros if none were written
abbrev pub seen_at : Cell → ℕ → List ℕ
seen_at c b = seen_block c.block_len (slice_index_or c.blocks b None)

-- the bytes of `count` blocks from an offset on, including those between the capacity and the zone's size
abbrev pub bytes_at : Cell → ℕ → ℕ → List ℕ
bytes_at c from count = flat_map (λ b. seen_at c b) (range_with_len from count)

-- all of these blocks were written
pub record AreWritten (c : Cell) (from count : ℕ) : Type 0 where
  pub within : from + count ≤ length c.blocks
  pub no_hole : holes (map is_some c.blocks) from (from + count) ≡ 0

-- bytes that hold every block that was written, one block after another
abbrev pub HoldsBlocks : Cell → List ℕ → Type 0
HoldsBlocks c bytes = c.blocks ≡ kept_blocks c.block_len bytes (map is_some c.blocks)

-- the bits of the zone's attributes
abbrev pub attributes_of : Cell → ℕ
attributes_of c = attribute_bits c.finished c.finish_recommended c.reset_recommended c.window

abbrev pub descriptor_of : GeometryFields → Cell → Descriptor
descriptor_of g c = record {
  state = c.state;
  attributes = attributes_of c;
  capacity = g.capacity;
  first = first g c.zone;
  pointer = shown_pointer c.state (first g c.zone) c.pointer;
}
