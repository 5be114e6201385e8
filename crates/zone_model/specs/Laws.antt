-- Laws of every history. Each is the contract of a function.
use Rattle.std.specs.Prelude.{◌≡◌, ◌≢◌, ℕ, ◌<◌, Bool, true, false, ◌==◌, List, ◌∷◌, ◌++◌, Option, Some, None, is_ok}
use Rattle.std.specs.List.{list_any}
use Rattle.zns_types.specs.declared.fields.GeometryFields.{GeometryFields}
use Rattle.zns_types.specs.Statuses.{Status, is_success}
use Rattle.zns_types.specs.Rows.{Row}
use Rattle.zns_types.specs.declared.state.State.{State}
use Rattle.zns_types.specs.States.{is_offline}
use Rattle.zns_types.specs.Geometry.{IsGeometry}
use Rattle.zone_state.specs.declared.action.Action.{Action}
use Rattle.zone_state.specs.declared.action.Action.TheVariants as action
use Rattle.zone_state.specs.Transitions.{after, go}
use Rattle.zone_limits.specs.Resources.{AreWithin}
use Rattle.zrwa_commit.specs.Least.{IsLeast}
use Rattle.drive_rules.specs.declared.deed.Deed.{Deed}
use Rattle.zone_history.specs.Histories.{since}
use Rattle.zone_history.specs.Moves.{HowMoved, IsBoundary}
use Rattle.zone_model.specs.declared.act.Act.{Act}
use Rattle.zone_model.specs.Places.{Place, command_of, deeds}
use Rattle.zone_model.specs.Zones.{state, window, pointer, block, seen, committed, attributes, active, opened, windows, counts}
use Rattle.zone_model.specs.Notices.{changed, enabled, masked, pending, waiting}
use Rattle.zone_model.specs.Answers.{status, table_of, all_rows, evicted, is_zone, zone_deed, zone_move, and_then, answered}
use Rattle.zone_model.specs.Reach.{reach}

-- ---- refusals

-- the zone is the same after the new places as after the old ones
pub record IsUnchanged (g : GeometryFields) (old new : List Place) (z : ℕ) : Type 0 where
  pub state : state g new z ≡ state g old z
  pub window : window g new z ≡ window g old z
  pub pointer : pointer g new z ≡ pointer g old z
  pub blocks : (b : ℕ) → block g new z b ≡ block g old z b
  pub attributes : attributes g new z ≡ attributes g old z

-- the whole drive is the same after the new places as after the old ones
pub record IsAsBefore (g : GeometryFields) (old new : List Place) : Type 0 where
  pub zones : (z : ℕ) → IsUnchanged g old new z
  pub active : active g new ≡ active g old
  pub opened : opened g new ≡ opened g old
  pub windows : windows g new ≡ windows g old
  pub changed : changed g new ≡ changed g old
  pub enabled : enabled new ≡ enabled old
  pub masked : masked new ≡ masked old
  pub pending : pending new ≡ pending old
  pub waiting : waiting new ≡ waiting old

-- A refused act changes nothing.
abbrev pub RefusedChangesNothing : Type 0
RefusedChangesNothing = (g : GeometryFields) (h : List Place) (a : Act) → is_success (status g h a) ≡ false → IsAsBefore g h (and_then g h a)

-- a row with this code holds, and no earlier row does
pub record FirstHolds (rows : List (Row Status)) (code : Status) : Type 0 where
  pub earlier : List (Row Status)
  pub row : Row Status
  pub later : List (Row Status)
  pub order : rows ≡ earlier ++ row ∷ later
  pub none_earlier : list_any (λ r. r.holds) earlier ≡ false
  pub holds : row.holds ≡ true
  pub answers : row.answer ≡ code

-- The status of a refused act is the code of the first row of its command that holds.
abbrev pub FirstRefusal : Type 0
FirstRefusal = (g : GeometryFields) (h : List Place) (a : Act) → is_success (status g h a) ≡ false → FirstHolds (all_rows g h (table_of g h (command_of a))) (status g h a)

-- ---- zones out of reach

abbrev pub is_reached : GeometryFields → Act → ℕ → Bool
is_reached g a z = list_any (λ y. y == z) (reach g a)

-- An act does nothing to a zone outside its reach, unless it closes the zone for another.
abbrev pub UntouchedIsIdle : Type 0
UntouchedIsIdle = (g : GeometryFields) (h : List Place) (a : Act) (z : ℕ) → z < g.zones → is_reached g a z ≡ false → is_zone z (evicted g h a) ≡ false → zone_deed g h a z ≡ None

-- So such a zone stays as it was.
abbrev pub UntouchedStays : Type 0
UntouchedStays = (g : GeometryFields) (h : List Place) (a : Act) (z : ℕ) → z < g.zones → is_reached g a z ≡ false → is_zone z (evicted g h a) ≡ false → IsUnchanged g h (and_then g h a) z

-- ---- committed blocks

-- the action takes the zone Offline
abbrev pub goes_offline : State → Option Action → Bool
goes_offline s None = false
goes_offline s (Some a) = is_offline (after a s)

-- the action is a reset
abbrev pub is_reset : Option Action → Bool
is_reset (Some action.Reset) = true
is_reset _ = false

-- a block is still committed, and reads the same
pub record IsKeptBlock (g : GeometryFields) (old new : List Place) (z b : ℕ) : Type 0 where
  pub committed : committed g new z b ≡ true
  pub seen : seen g new z b ≡ seen g old z b

abbrev pub KeepsCommitted : GeometryFields → List Place → Act → Type 0
KeepsCommitted g h a = (z b : ℕ) → committed g h z b ≡ true → is_reset (zone_move g h a z) ≡ false → goes_offline (state g h z) (zone_move g h a z) ≡ false → IsKeptBlock g h (and_then g h a) z b

-- A committed block stays committed and reads the same until its zone is reset or goes Offline.
abbrev pub CommittedStays : Type 0
CommittedStays = (g : GeometryFields) → IsGeometry g → (acts : List Act) (a : Act) → KeepsCommitted g (answered g acts) a

-- ---- pointers

-- a deed was done to the zone, and moved its pointer in one of the allowed ways
pub record HasMoved (g : GeometryFields) (h : List Place) (a : Act) (z : ℕ) : Type 0 where
  pub deed : Deed
  pub done : zone_deed g h a z ≡ Some deed
  pub how : HowMoved g deed (pointer g h z) (pointer g (and_then g h a) z)

abbrev pub MovesPointers : GeometryFields → List Place → Act → Type 0
MovesPointers g h a = (z : ℕ) → window g h z ≡ true → pointer g (and_then g h a) z ≢ pointer g h z → HasMoved g h a z

-- The pointer of a zone with a random write area moves in no other way: a commit moves it past its last block, a Write by the fewest
-- granules that let the Write end inside the area, a reset to the start and a finish to the capacity.
abbrev pub PointerMoves : Type 0
PointerMoves = (g : GeometryFields) → IsGeometry g → (acts : List Act) (a : Act) → MovesPointers g (answered g acts) a

-- The pointer of a zone with a random write area is the least multiple of the granule that is at or after what was written before the area
-- was asked for, is past the last block of each commit, and lets each Write end inside the area.
abbrev pub PointerIsLeast : Type 0
PointerIsLeast = (g : GeometryFields) → IsGeometry g → (acts : List Act) (z : ℕ) → window g (answered g acts) z ≡ true
    → IsLeast (IsBoundary g (since (deeds (answered g acts) z))) (pointer g (answered g acts) z)

-- ---- transitions

-- What an act does to a zone, also to one that it closes for another, is allowed there by the table of transitions.
abbrev pub MovesAreAllowed : Type 0
MovesAreAllowed = (g : GeometryFields) (h : List Place) (a : Act) (z : ℕ) (m : Action) → zone_move g h a z ≡ Some m → is_ok (go m (state g h z)) ≡ true

-- ---- limits

-- After every history the numbers of active zones, open zones and random write areas are within their limits.
abbrev pub WithinLimits : Type 0
WithinLimits = (g : GeometryFields) → IsGeometry g → (acts : List Act) → AreWithin g (counts g (answered g acts))

-- ---- all three

-- At each place of a history, for each zone and block: the limits hold, pointers move only as allowed, and committed blocks stay.
pub record IsKept (g : GeometryFields) (acts : List Act) : Type 0 where
  pub limits : (before after : List Act) → acts ≡ before ++ after → AreWithin g (counts g (answered g before))
  pub pointers : (before after : List Act) (a : Act) → acts ≡ before ++ a ∷ after → MovesPointers g (answered g before) a
  pub blocks : (before after : List Act) (a : Act) → acts ≡ before ++ a ∷ after → KeepsCommitted g (answered g before) a

abbrev pub HistoriesAreKept : Type 0
HistoriesAreKept = (g : GeometryFields) → IsGeometry g → (acts : List Act) → IsKept g acts
