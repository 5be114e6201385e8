-- Where a deed leaves the pointer of a zone whose deeds fit its state.
use Rattle.std.proofs.Common.{◌≡◌, ℕ, ◌+◌, ◌-◌, ◌%◌, ◌<◌, ◌≤◌, max, true, false, List, ◌∷◌, refl, sym, ap, ◌∙◌, arith, inl, inr}
use Rattle.std.proofs.lemmas.Bool.{cases_Bool}
use Rattle.zns_types.specs.declared.fields.GeometryFields.{GeometryFields}
use Rattle.zns_types.specs.Geometry.{IsGeometry}
use Rattle.zrwa_commit.specs.Least.{least_multiple}
use Rattle.zrwa_commit.proofs.LeastLemmas.{least_multiple-stays}
use Rattle.drive_rules.specs.declared.deed.Deed.{Deed}
use Rattle.drive_rules.specs.declared.deed.Deed.TheVariants as deed
use Rattle.drive_rules.specs.Deeds.{is_reset, is_finish, asks_window, bound_of}
use Rattle.drive_rules.proofs.Passing.{CommitPasses, OpenPasses}
use Rattle.zone_history.specs.Histories.{Done, pointer_of, window_of, was_windowed, state_of, sight_of}
use Rattle.zone_history.proofs.Steps.{pointer-finish, pointer-add, pointer-opened, pointer-windowed}
use Rattle.zone_history.proofs.Transitions.{open_live, write_live}
use Rattle.zone_history.proofs.Ways.{IsWrite, finish_end}
use Rattle.zone_history.proofs.Multiples.{sum_mod, reach_of, reach_below}
use Rattle.zone_history.proofs.Stands.{Stands, unopened, window-facts}

-- a finish leaves it at the capacity, also when the controller does it
pub finish-pointer : (g : GeometryFields) (ds : List Done) (d : Done) → is_finish d.deed ≡ true → pointer_of g (d ∷ ds) ≡ g.capacity
finish-pointer g ds d finish = pointer-finish g d ds (finish_end d.deed finish).no_reset finish

-- ---- writes

pub write-adds : (g : GeometryFields) (ds : List Done) (d : Done) (from blocks : ℕ) → Stands g ds → IsWrite g ds d.deed from blocks → window_of g ds ≡ false → pointer_of g (d ∷ ds) ≡ from + blocks
write-adds g ds d from blocks s w none =
    let live = write_live (state_of g ds) w.leads in
    let sum = pointer-add g d ds w.no_reset w.no_finish w.no_window (s.unfinished live) (unopened g ds s live none) in
    omega (arith, sum, w.count, w.at_pointer none)

pub write-moves : (g : GeometryFields) (ds : List Done) (d : Done) (from blocks : ℕ) → IsGeometry g → Stands g ds → IsWrite g ds d.deed from blocks → window_of g ds ≡ true
    → pointer_of g (d ∷ ds) ≡ least_multiple g.granule (max (pointer_of g ds) (from + blocks - g.window))
write-moves g ds d from blocks is s w there =
    let has = window-facts g ds is s there in
    pointer-windowed g d ds has.granules.granule w.no_reset w.no_finish has.unfinished has.opened ∙ ap (λ (n : ℕ). least_multiple g.granule (max (pointer_of g ds) n)) (w.bound there)

-- an implicit commit leaves it below the capacity
pub write-below : (g : GeometryFields) (ds : List Done) (d : Done) (from blocks : ℕ) → IsGeometry g → Stands g ds → IsWrite g ds d.deed from blocks → window_of g ds ≡ true → pointer_of g (d ∷ ds) < g.capacity
write-below g ds d from blocks is s w there =
    let has = window-facts g ds is s there in
    let units = has.granules in
    let room : from + blocks - g.window + g.granule ≤ g.capacity = omega (arith, w.within, units.some_window, units.window_fits) in
    rw (write-moves g ds d from blocks is s w there) (reach_below g.granule (from + blocks - g.window) (pointer_of g ds) g.capacity units.granule has.granular units.capacity has.below room)

-- ---- commits

pub commit-moves : (g : GeometryFields) (ds : List Done) (d : Done) (last : ℕ) → IsGeometry g → Stands g ds → d.deed ≡ deed.Commit last → CommitPasses g (sight_of g ds) last → pointer_of g (d ∷ ds) ≡ last + 1
commit-moves g ds d last is s e passes =
    let has = window-facts g ds is s passes.window in
    let p = pointer_of g ds in
    let low : p ≤ last = passes.from_pointer in
    let whole : (last - p + 1) % g.granule ≡ 0 = passes.granular in
    let sum = sum_mod g.granule p (last - p + 1) has.granular whole in
    let end : p + (last - p + 1) ≡ last + 1 = omega arith in
    pointer-windowed g d ds has.granules.granule (ap is_reset e) (ap is_finish e) has.unfinished has.opened
    ∙ ap (λ (x : Deed). least_multiple g.granule (max p (bound_of g x))) e
    ∙ reach_of g.granule p (last + 1) has.granules.granule (omega arith) (ap (λ (n : ℕ). n % g.granule) (sym end) ∙ sum)

-- ---- random write areas that are asked for

pub window_open-stays : (g : GeometryFields) (ds : List Done) (d : Done) → IsGeometry g → Stands g ds → d.deed ≡ deed.Open true → OpenPasses g (sight_of g ds) true → pointer_of g (d ∷ ds) ≡ pointer_of g ds
window_open-stays g ds d is s e passes =
    let live = open_live (state_of g ds) passes.leads in
    let some = (is.windows.granules (passes.some_windows refl)).granule in
    let p = pointer_of g ds in
    let on : p % g.granule ≡ 0 = passes.granular refl in
    let unfinished = s.unfinished live in
    elim (cases_Bool (was_windowed ds)) [
      | inl opened ↦
          pointer-windowed g d ds some (ap is_reset e) (ap is_finish e) unfinished opened ∙ ap (λ (x : Deed). least_multiple g.granule (max p (bound_of g x))) e
          ∙ least_multiple-stays g.granule p 0 some on (omega arith)
      | inr none ↦ pointer-opened g d ds (ap is_reset e) (ap is_finish e) (ap asks_window e) unfinished none ∙ least_multiple-stays g.granule p 0 some on (omega arith)
    ]
