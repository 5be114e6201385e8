-- The pointer of a zone with a random write area is the least boundary.
use Rattle.std.proofs.Common.{◌≡◌, ℕ, ◌+◌, ◌-◌, ◌/◌, ◌≤◌, max, true, false, List, [], ◌∷◌, refl, ap, arith}
use Rattle.zns_types.specs.declared.fields.GeometryFields.{GeometryFields}
use Rattle.zns_types.specs.Geometry.{IsGeometry}
use Rattle.zrwa_commit.specs.Least.{least_multiple, IsLeast}
use Rattle.zrwa_commit.proofs.LeastLemmas.{least_multiple-covers, least_multiple-least}
use Rattle.drive_rules.specs.declared.deed.Deed.{Deed}
use Rattle.drive_rules.specs.declared.deed.Deed.TheVariants as deed
use Rattle.drive_rules.specs.Deeds.{bound_of}
use Rattle.zone_history.specs.Histories.{Done, since, before_first_in, after_first_in, greatest, total, opens_window, count_of, asked_by, pointer_since, pointer_of, window_of, was_windowed, was_finished}
use Rattle.zone_history.specs.Moves.{CoversCommits, HoldsWrites, IsBoundary}
use Rattle.zone_history.proofs.Stands.{Stands, window-facts}

-- ---- what is asked, deed by deed

greatest-commits : (g : GeometryFields) (ds : List Done) (q : ℕ) → greatest (asked_by g) ds ≤ q → CoversCommits ds q
greatest-commits g [] q le = tt
greatest-commits g (d ∷ ds) q le = (λ last e. let same = ap (bound_of g) e in omega arith, greatest-commits g ds q (omega arith))

greatest-writes : (g : GeometryFields) (ds : List Done) (q : ℕ) → greatest (asked_by g) ds ≤ q → HoldsWrites g ds q
greatest-writes g [] q le = tt
greatest-writes g (d ∷ ds) q le = (λ from blocks e. let same = ap (bound_of g) e in omega arith, greatest-writes g ds q (omega arith))

-- the bound that a deed sets is at most a pointer that covers the deed
bound_below : (g : GeometryFields) (e : Deed) (q : ℕ) → ((last : ℕ) → e ≡ deed.Commit last → last + 1 ≤ q) → ((from blocks : ℕ) → e ≡ deed.Write from blocks → from + blocks ≤ q + g.window) → bound_of g e ≤ q
bound_below g (deed.Write from blocks) q commits writes = let held = writes from blocks refl in omega arith
bound_below g (deed.Commit last) q commits writes = commits last refl
bound_below g _ q commits writes = omega arith

greatest_below : (g : GeometryFields) (ds : List Done) (q : ℕ) → CoversCommits ds q → HoldsWrites g ds q → greatest (asked_by g) ds ≤ q
greatest_below g [] q commits writes = omega arith
greatest_below g (d ∷ ds) q commits writes =
    let first = bound_below g d.deed q commits.0 writes.0 in
    let rest = greatest_below g ds q commits.1 writes.1 in
    omega arith

-- ---- the least boundary

pointer-covers : (g : GeometryFields) (ds : List Done) → was_finished ds ≡ false → was_windowed ds ≡ true
    → pointer_of g ds ≡ least_multiple g.granule (max (total count_of (before_first_in opens_window (since ds))) (greatest (asked_by g) (after_first_in opens_window (since ds))))
unfolding pointer_since
pointer-covers g ds unfinished opened = rw (unfinished, opened) refl

least-boundary : (g : GeometryFields) (ds : List Done) (q : ℕ) → 1 ≤ g.granule
    → q ≡ least_multiple g.granule (max (total count_of (before_first_in opens_window ds)) (greatest (asked_by g) (after_first_in opens_window ds))) → IsLeast (IsBoundary g ds) q
least-boundary g ds q some is =
    let first = total count_of (before_first_in opens_window ds) in
    let later = greatest (asked_by g) (after_first_in opens_window ds) in
    let covers : max first later ≤ q = omega (arith, least_multiple-covers g.granule (max first later) some) in
    record {
      holds = record {
        multiple = record { multiple = ((max first later + g.granule - 1) / g.granule, is); covers = omega arith };
        written = omega arith;
        commits = greatest-commits g (after_first_in opens_window ds) q (omega arith);
        writes = greatest-writes g (after_first_in opens_window ds) q (omega arith);
      };
      below = λ m boundary.
          let before : first ≤ m = boundary.written in
          let asked = greatest_below g (after_first_in opens_window ds) m boundary.commits boundary.writes in
          let whole = boundary.multiple.multiple in
          let least = least_multiple-least g.granule (max first later) whole.0 some (omega (arith, whole.1)) in
          omega (arith, whole.1, least, is);
    }

pub least_pointer : (g : GeometryFields) (ds : List Done) → IsGeometry g → Stands g ds → window_of g ds ≡ true → IsLeast (IsBoundary g (since ds)) (pointer_of g ds)
least_pointer g ds is s there =
    let has = window-facts g ds is s there in
    least-boundary g (since ds) (pointer_of g ds) has.granules.granule (pointer-covers g ds has.unfinished has.opened)
