-- How a deed moves the pointer of a zone with a random write area, that committed blocks stay, and that the table of transitions allows
-- each deed.
use Rattle.std.specs.Prelude.{◌≡◌, ◌≢◌, ℕ, ◌+◌, ◌<◌, ◌≤◌, true, false, List, [], ◌∷◌, is_ok}
use Rattle.zns_types.specs.declared.fields.GeometryFields.{GeometryFields}
use Rattle.zns_types.specs.States.{is_offline}
use Rattle.zns_types.specs.Geometry.{IsGeometry}
use Rattle.zone_state.specs.Transitions.{go, after}
use Rattle.zrwa_commit.specs.Least.{IsLeast, IsMultipleFrom}
use Rattle.zrwa_commit.specs.Windows.{FewestGranules}
use Rattle.drive_rules.specs.declared.deed.Deed.{Deed}
use Rattle.drive_rules.specs.declared.deed.Deed.TheVariants as deed
use Rattle.drive_rules.specs.Deeds.{action_of, is_reset, is_finish}
use Rattle.zone_history.specs.Histories.{Done, since, before_first_in, after_first_in, total, opens_window, count_of, pointer_of, state_of, window_of, seen_of, is_committed}
use Rattle.zone_history.specs.Admitted.{AreAdmitted}

-- How a deed moves the pointer of a zone with a random write area from p to q: a commit moves it past its last block; a Write that ends
-- past the area moves it by the fewest granules that let it end inside, and never to the capacity; a reset moves it to the start, and a
-- finish, also by the controller, to the capacity.
pub data HowMoved (g : GeometryFields) (d : Deed) (p q : ℕ) : Type 0 where
  committed : (last : ℕ) → d ≡ deed.Commit last → q ≡ last + 1 → HowMoved g d p q
  overrun : (from blocks : ℕ) → d ≡ deed.Write from blocks → p + g.window < from + blocks → FewestGranules g p (from + blocks) q → q < g.capacity → HowMoved g d p q
  reset : is_reset d ≡ true → q ≡ 0 → HowMoved g d p q
  finished : is_finish d ≡ true → q ≡ g.capacity → HowMoved g d p q

abbrev pub DeedMovesPointer : Type 0
DeedMovesPointer = (g : GeometryFields) (ds : List Done) (d : Done) → IsGeometry g → AreAdmitted g (d ∷ ds) → window_of g ds ≡ true → pointer_of g (d ∷ ds) ≢ pointer_of g ds
    → HowMoved g d.deed (pointer_of g ds) (pointer_of g (d ∷ ds))

-- ---- where the pointer stands

-- at or after what was written before the random write area was asked for
abbrev pub CoversWritten : List Done → ℕ → Type 0
CoversWritten ds q = total count_of (before_first_in opens_window ds) ≤ q

-- after the last block of each commit
abbrev pub CoversCommits : List Done → ℕ → Type 0
CoversCommits [] q = Unit {0}
CoversCommits (d ∷ ds) q = ((last : ℕ) → d.deed ≡ deed.Commit last → last + 1 ≤ q) × CoversCommits ds q

-- at a place that lets each Write end inside the random write area
abbrev pub HoldsWrites : GeometryFields → List Done → ℕ → Type 0
HoldsWrites g [] q = Unit {0}
HoldsWrites g (d ∷ ds) q = ((from blocks : ℕ) → d.deed ≡ deed.Write from blocks → from + blocks ≤ q + g.window) × HoldsWrites g ds q

-- a multiple of the granule that satisfies all three
pub record IsBoundary (g : GeometryFields) (ds : List Done) (q : ℕ) : Type 0 where
  pub multiple : IsMultipleFrom g.granule 0 q
  pub written : CoversWritten ds q
  pub commits : CoversCommits (after_first_in opens_window ds) q
  pub writes : HoldsWrites g (after_first_in opens_window ds) q

-- The pointer of a zone with a random write area is the least boundary of the deeds since its last reset.
abbrev pub PointerIsLeast : Type 0
PointerIsLeast = (g : GeometryFields) (ds : List Done) → IsGeometry g → AreAdmitted g ds → window_of g ds ≡ true → IsLeast (IsBoundary g (since ds)) (pointer_of g ds)

-- ---- committed blocks

-- a block is still committed, and reads the same
pub record IsKeptBlock (g : GeometryFields) (old new : List Done) (b : ℕ) : Type 0 where
  pub committed : is_committed g new b ≡ true
  pub seen : seen_of g new b ≡ seen_of g old b

-- A committed block stays committed and reads the same until its zone is reset or goes Offline.
abbrev pub DeedKeepsCommitted : Type 0
DeedKeepsCommitted = (g : GeometryFields) (ds : List Done) (d : Done) (b : ℕ) → IsGeometry g → AreAdmitted g (d ∷ ds) → is_committed g ds b ≡ true → is_reset d.deed ≡ false
    → is_offline (after (action_of d.deed) (state_of g ds)) ≡ false → IsKeptBlock g ds (d ∷ ds) b

-- ---- transitions

-- The table of transitions allows each deed that the zone itself didn't refuse.
abbrev pub DeedIsAllowed : Type 0
DeedIsAllowed = (g : GeometryFields) (ds : List Done) (d : Done) → IsGeometry g → AreAdmitted g (d ∷ ds) → is_ok (go (action_of d.deed) (state_of g ds)) ≡ true
