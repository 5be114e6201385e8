-- The deeds done to one zone, the newest first, and what they make of it. Everything is found by looking back over the deeds.
use Rattle.std.specs.Prelude.{ℕ, ◌+◌, ◌-◌, max, Bool, ◌&&◌, ◌||◌, nat_lt, nat_le, if◌then◌else◌, List, [], ◌∷◌, Option, Some, None}
use Rattle.std.specs.List.{list_any}
use Rattle.zns_types.specs.declared.fields.GeometryFields.{GeometryFields}
use Rattle.zns_types.specs.declared.state.State.{State}
use Rattle.zns_types.specs.declared.state.State.TheVariants.{Empty}
use Rattle.zns_types.specs.States.{is_active, is_read_only, is_writable}
use Rattle.zns_types.specs.Geometry.{block_len}
use Rattle.zone_state.specs.Transitions.{state_after}
use Rattle.zrwa_commit.specs.Least.{least_multiple}
use Rattle.drive_rules.specs.declared.deed.Deed.{Deed}
use Rattle.drive_rules.specs.Deeds.{action_of, is_reset, is_finish, is_excursion, asks_window, blocks_of, start_of, bound_of}
use Rattle.drive_rules.specs.ZoneRows.{Zone}
use Rattle.drive_rules.specs.Blocks.{block_at, seen_block}
use Rattle.drive_rules.specs.Shown.{attribute_bits}

-- a deed that was done to the zone, and the host data that came with its command
pub record Done : Type 0 where
  pub deed : Deed
  pub payload : List ℕ

-- ---- looking back

-- the deeds after the last reset
abbrev pub since : List Done → List Done
since [] = []
since (d ∷ ds) = if is_reset d.deed then [] else d ∷ since ds

-- the deeds before the oldest that passes the test, or all deeds if none does
abbrev pub before_first_in : (Done → Bool) → List Done → List Done
before_first_in test [] = []
before_first_in test (d ∷ ds) = if list_any test ds then before_first_in test ds else if test d then ds else d ∷ ds

-- the deeds after the oldest that passes the test
abbrev pub after_first_in : (Done → Bool) → List Done → List Done
after_first_in test [] = []
after_first_in test (d ∷ ds) = if list_any test ds then d ∷ after_first_in test ds else []

abbrev pub greatest : (Done → ℕ) → List Done → ℕ
greatest f [] = 0
greatest f (d ∷ ds) = max (f d) (greatest f ds)

abbrev pub total : (Done → ℕ) → List Done → ℕ
total f [] = 0
total f (d ∷ ds) = f d + total f ds

abbrev pub finishes : Done → Bool
finishes d = is_finish d.deed

abbrev pub opens_window : Done → Bool
opens_window d = asks_window d.deed

abbrev pub count_of : Done → ℕ
count_of d = blocks_of d.deed

abbrev pub asked_by : GeometryFields → Done → ℕ
asked_by g d = bound_of g d.deed

-- ---- the write pointer

-- The pointer, as an offset, after deeds that all came after the last reset. If the zone was finished, it is the capacity. If the zone was
-- opened with a random write area, it is the least multiple of the granule that covers what was written before, every commit, and every
-- Write except its last window. Otherwise it is the number of blocks written. (Zoned Namespace Command Set Specification 1.1, 2.1.1.2.1 and
-- 2.1.1.5.)
unfoldable pub pointer_since : GeometryFields → List Done → ℕ
pointer_since g ds =
    if list_any finishes ds then g.capacity
    else if list_any opens_window ds then least_multiple g.granule (max written_before asked_after)
    else total count_of ds
  where
    written_before : ℕ
    written_before = total count_of (before_first_in opens_window ds)

    asked_after : ℕ
    asked_after = greatest (asked_by g) (after_first_in opens_window ds)

abbrev pub pointer_of : GeometryFields → List Done → ℕ
pointer_of g ds = pointer_since g (since ds)

-- ---- the state and the random write area

-- Empty at first, and then where the last deed led.
unfoldable pub state_of : GeometryFields → List Done → State
state_of g [] = Empty
state_of g (d ∷ ds) = state_after g.capacity (action_of d.deed) (pointer_of g (d ∷ ds)) (state_of g ds)

-- a random write area was asked for since the last reset
abbrev pub was_windowed : List Done → Bool
was_windowed ds = list_any opens_window (since ds)

-- the zone was finished since the last reset
abbrev pub was_finished : List Done → Bool
was_finished ds = list_any finishes (since ds)

-- Whether the zone has a random write area: it does if it is active and was opened with one since its last reset.
unfoldable pub window_of : GeometryFields → List Done → Bool
window_of g ds = is_active (state_of g ds) && was_windowed ds

-- what refusal rows see of the zone
abbrev pub sight_of : GeometryFields → List Done → Zone
sight_of g ds = record { state = state_of g ds; window = window_of g ds; pointer = pointer_of g ds }

-- ---- blocks

-- The bytes that were last written to a block since the last reset.
unfoldable pub block_of : GeometryFields → List Done → ℕ → Option (List ℕ)
block_of g [] b = None
block_of g (d ∷ ds) b =
    if is_reset d.deed then None
    else if nat_le start b && nat_lt b (start + blocks_of d.deed) then Some (block_at (block_len g) d.payload (b - start))
    else block_of g ds b
  where
    start : ℕ
    start = start_of (pointer_of g ds) d.deed

-- a block as a Read returns it
abbrev pub seen_of : GeometryFields → List Done → ℕ → List ℕ
seen_of g ds b = seen_block (block_len g) (block_of g ds b)

-- A block below the pointer is committed, and so is every block of a Read Only zone below the capacity.
abbrev pub is_committed : GeometryFields → List Done → ℕ → Bool
is_committed g ds b = nat_lt b (pointer_of g ds) || (nat_lt b g.capacity && is_read_only (state_of g ds))

-- ---- what the controller recommends

-- the zone had an excursion of this kind since the last reset
abbrev pub had : List Done → ℕ → Bool
had ds kind = list_any (λ d. is_excursion kind d.deed) (since ds)

-- Zone Finished by Controller, Finish Zone Recommended, Reset Zone Recommended, and the random write area: Zoned
-- Namespace Command Set Specification 1.1, 3.4.2.2.1 (Zone Attributes).
unfoldable pub attributes_of : GeometryFields → List Done → ℕ
attributes_of g ds = attribute_bits (had ds 1 && is_writable (state_of g ds)) (had ds 2 && is_active (state_of g ds)) (had ds 3 && is_writable (state_of g ds)) (window_of g ds)
