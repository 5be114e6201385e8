-- How the pointer of a zone with a random write area moves.
use Rattle.std.proofs.Common.{◌≡◌, ◌≢◌, ℕ, ◌+◌, ◌*◌, ◌-◌, ◌%◌, ◌≤◌, max, true, List, ◌∷◌, sym, ap, ◌∙◌, subst, arith, inl, inr}
use Rattle.std.proofs.lemmas.Bool.{cases_lt}
use Rattle.zns_types.specs.declared.fields.GeometryFields.{GeometryFields}
use Rattle.zns_types.specs.Geometry.{IsGeometry}
use Rattle.zrwa_commit.specs.Least.{least_multiple}
use Rattle.zrwa_commit.specs.Windows.{FewestGranules}
use Rattle.zrwa_commit.proofs.LeastLemmas.{least_multiple-stays}
use Rattle.zrwa_commit.proofs.Granules.{past_area, past_area-fewest, past_area-least}
use Rattle.drive_rules.specs.Deeds.{is_reset}
use Rattle.zone_history.specs.Histories.{Done, window_of, pointer_of}
use Rattle.zone_history.specs.Moves.{HowMoved, committed, overrun, reset, finished}
use Rattle.zone_history.proofs.Steps.{pointer-reset, pointer-quiet}
use Rattle.zone_history.proofs.Ways.{Way, stays, fills, empties, writes, commits, gets_window, IsWrite, still_quiet}
use Rattle.zone_history.proofs.Stands.{Stands, window-facts}
use Rattle.zone_history.proofs.PointerSteps.{finish-pointer, write-moves, write-below, commit-moves, window_open-stays}

-- the least multiple at or after the pointer that lets a write end inside is the pointer moved by the fewest granules
pub fewest_granules : (g : GeometryFields) (p end q : ℕ) → 1 ≤ g.granule → p % g.granule ≡ 0 → q ≡ least_multiple g.granule (max p (end - g.window)) → FewestGranules g p end q
fewest_granules g p end q some on is =
    let same : p + past_area g p end * g.granule ≡ q = past_area-least g p end some on ∙ sym is in
    subst (λ (n : ℕ). FewestGranules g p end n) same (past_area-fewest g p end some)

-- a write that ends inside leaves the pointer
inside_stays : (g : GeometryFields) (p end q : ℕ) → 1 ≤ g.granule → p % g.granule ≡ 0 → end ≤ p + g.window → q ≡ least_multiple g.granule (max p (end - g.window)) → q ≡ p
inside_stays g p end q some on inside is = is ∙ least_multiple-stays g.granule p (end - g.window) some on (omega arith)

moved-writes : (g : GeometryFields) (ds : List Done) (d : Done) (from blocks : ℕ) → IsGeometry g → IsWrite g ds d.deed from blocks → Stands g ds → window_of g ds ≡ true
    → pointer_of g (d ∷ ds) ≢ pointer_of g ds → HowMoved g d.deed (pointer_of g ds) (pointer_of g (d ∷ ds))
moved-writes g ds d from blocks is w s there moved =
    let has = window-facts g ds is s there in
    let some = has.granules.granule in
    let p = pointer_of g ds in
    let q = pointer_of g (d ∷ ds) in
    let led = write-moves g ds d from blocks is s w there in
    elim (cases_lt (p + g.window) (from + blocks)) [
      | inl past ↦ overrun from blocks (w.is there) past (fewest_granules g p (from + blocks) q some has.granular led) (write-below g ds d from blocks is s w there)
      | inr inside ↦ absurd (moved (inside_stays g p (from + blocks) q some has.granular inside led))
    ]

pub moves_pointer : (g : GeometryFields) (ds : List Done) (d : Done) → IsGeometry g → Stands g ds → window_of g ds ≡ true → pointer_of g (d ∷ ds) ≢ pointer_of g ds → Way g ds d.deed
    → HowMoved g d.deed (pointer_of g ds) (pointer_of g (d ∷ ds))
moves_pointer g ds d is s there moved (stays still leads) = absurd (moved (pointer-quiet g d ds (still_quiet g d.deed still)))
moves_pointer g ds d is s there moved (fills finish leads) = finished finish (finish-pointer g ds d finish)
moves_pointer g ds d is s there moved (empties e leads) = reset (ap is_reset e) (pointer-reset g d ds (ap is_reset e))
moves_pointer g ds d is s there moved (writes from blocks w) = moved-writes g ds d from blocks is w s there moved
moves_pointer g ds d is s there moved (commits last e passes) = committed last e (commit-moves g ds d last is s e passes)
moves_pointer g ds d is s there moved (gets_window e passes) = absurd (moved (window_open-stays g ds d is s e passes))
