-- How the deeds of a zone fit its state.
use Rattle.std.proofs.Common.{◌≡◌, ℕ, ◌%◌, ◌<◌, ◌≤◌, true, false, List, None, arith, inl, inr}
use Rattle.std.proofs.lemmas.Bool.{cases_Bool}
use Rattle.zns_types.specs.declared.fields.GeometryFields.{GeometryFields}
use Rattle.zns_types.specs.States.{is_empty, is_active, is_full}
use Rattle.zns_types.specs.Geometry.{IsGeometry, HasGranules}
use Rattle.zrwa_commit.proofs.LeastLemmas.{least_multiple-mod}
use Rattle.zone_history.specs.Histories.{Done, pointer_since, pointer_of, state_of, window_of, was_windowed, was_finished, block_of, had}
use Rattle.zone_history.proofs.Transitions.{is_live, active_live, live_empty}
use Rattle.zone_history.proofs.Ways.{window-parts, no_window-parts}

-- the deeds of an Empty zone have left nothing
pub record IsBare (g : GeometryFields) (ds : List Done) : Type 0 where
  pub pointer : pointer_of g ds ≡ 0
  pub unopened : was_windowed ds ≡ false
  pub blocks : (b : ℕ) → block_of g ds b ≡ None
  pub excursions : (kind : ℕ) → had ds kind ≡ false

pub record Stands (g : GeometryFields) (ds : List Done) : Type 0 where
  pub unfinished : is_live (state_of g ds) ≡ true → was_finished ds ≡ false
  pub bare : is_empty (state_of g ds) ≡ true → IsBare g ds
  pub below : is_active (state_of g ds) ≡ true → pointer_of g ds < g.capacity
  pub full : is_full (state_of g ds) ≡ true → pointer_of g ds ≡ g.capacity
  pub within : pointer_of g ds ≤ g.capacity
  pub windows : was_windowed ds ≡ true → 1 ≤ g.windows

-- the pointer of a zone that asked for a random write area is on a granule
granular : (g : GeometryFields) (ds : List Done) → was_finished ds ≡ false → was_windowed ds ≡ true → pointer_of g ds % g.granule ≡ 0
unfolding pointer_since
granular g ds unfinished opened = rw (unfinished, opened) (least_multiple-mod g.granule _)

-- what holds of a zone with a random write area
pub record HasWindow (g : GeometryFields) (ds : List Done) : Type 0 where
  pub active : is_active (state_of g ds) ≡ true
  pub opened : was_windowed ds ≡ true
  pub unfinished : was_finished ds ≡ false
  pub below : pointer_of g ds < g.capacity
  pub granular : pointer_of g ds % g.granule ≡ 0
  pub granules : HasGranules g

pub window-facts : (g : GeometryFields) (ds : List Done) → IsGeometry g → Stands g ds → window_of g ds ≡ true → HasWindow g ds
window-facts g ds is s there =
    let parts = window-parts g ds there in
    let unfinished = s.unfinished (active_live (state_of g ds) parts.0) in
    record {
      active = parts.0;
      opened = parts.1;
      unfinished = unfinished;
      below = s.below parts.0;
      granular = granular g ds unfinished parts.1;
      granules = is.windows.granules (s.windows parts.1);
    }

-- a zone that is Empty or active, and has no random write area, asked for none
pub unopened : (g : GeometryFields) (ds : List Done) → Stands g ds → is_live (state_of g ds) ≡ true → window_of g ds ≡ false → was_windowed ds ≡ false
unopened g ds s live none = elim (cases_Bool (is_active (state_of g ds))) [
  | inl active ↦ no_window-parts g ds active none
  | inr other ↦ (s.bare (live_empty (state_of g ds) live other)).unopened
]

-- the pointer of a zone that is Empty or active is below the capacity
pub live_below : (g : GeometryFields) (ds : List Done) → IsGeometry g → Stands g ds → is_live (state_of g ds) ≡ true → pointer_of g ds < g.capacity
live_below g ds is s live = elim (cases_Bool (is_active (state_of g ds))) [
  | inl active ↦ s.below active
  | inr other ↦ let some = is.zones.some_capacity in let none = (s.bare (live_empty (state_of g ds) live other)).pointer in omega arith
]
