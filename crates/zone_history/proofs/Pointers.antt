-- The effect of one more deed on the write pointer, if each deed was admitted.
use Rattle.std.proofs.Common.{◌≡◌, ℕ, ◌+◌, ◌-◌, max, Bool, true, false, List, ◌∷◌, sym, ap, subst}
use Rattle.zns_types.specs.declared.fields.GeometryFields.{GeometryFields}
use Rattle.zns_types.specs.Geometry.{IsGeometry}
use Rattle.zrwa_commit.specs.Least.{least_multiple}
use Rattle.drive_rules.specs.declared.deed.Deed.{Deed}
use Rattle.drive_rules.specs.declared.deed.Deed.TheVariants as deed
use Rattle.drive_rules.specs.Deeds.{is_reset}
use Rattle.drive_rules.proofs.Passing.{append_passes, open_passes, commit_passes}
use Rattle.zone_history.specs.Histories.{Done, pointer_of, window_of, sight_of}
use Rattle.zone_history.specs.Admitted.{IsAdmitted, AreAdmitted}
use Rattle.zone_history.proofs.Steps.{pointer-reset, pointer-quiet}
use Rattle.zone_history.proofs.Transitions.{is_still}
use Rattle.zone_history.proofs.Ways.{IsWrite, write-way, append-way, still_quiet}
use Rattle.zone_history.proofs.PointerSteps.{write-adds, write-moves, commit-moves, window_open-stays}
use Rattle.zone_history.proofs.Standing.{stands}
pub use Rattle.zone_history.proofs.PointerSteps.{finish-pointer}

-- an admitted deed is admitted under an equal name
admitted_as : (g : GeometryFields) (ds : List Done) (d : Done) (e : Deed) → d.deed ≡ e → AreAdmitted g (d ∷ ds) → IsAdmitted g ds e
admitted_as g ds d e is a = subst (IsAdmitted g ds) is a.0

-- ---- writes

write-is : (g : GeometryFields) (ds : List Done) (d : Done) (from blocks : ℕ) → AreAdmitted g (d ∷ ds) → d.deed ≡ deed.Write from blocks → IsWrite g ds d.deed from blocks
write-is g ds d from blocks a e = subst (λ (x : Deed). IsWrite g ds x from blocks) (sym e) (write-way g ds from blocks (admitted_as g ds d (deed.Write from blocks) e a))

pub write-pointer : (g : GeometryFields) (ds : List Done) (d : Done) (from blocks : ℕ) → IsGeometry g → AreAdmitted g (d ∷ ds) → d.deed ≡ deed.Write from blocks → window_of g ds ≡ false
    → pointer_of g (d ∷ ds) ≡ from + blocks
write-pointer g ds d from blocks is a e none = write-adds g ds d from blocks (stands g is ds a.1) (write-is g ds d from blocks a e) none

-- a Write to a zone with a random write area
pub write-pointer_window : (g : GeometryFields) (ds : List Done) (d : Done) (from blocks : ℕ) → IsGeometry g → AreAdmitted g (d ∷ ds) → d.deed ≡ deed.Write from blocks → window_of g ds ≡ true
    → pointer_of g (d ∷ ds) ≡ least_multiple g.granule (max (pointer_of g ds) (from + blocks - g.window))
write-pointer_window g ds d from blocks is a e there = write-moves g ds d from blocks is (stands g is ds a.1) (write-is g ds d from blocks a e) there

pub append-pointer : (g : GeometryFields) (ds : List Done) (d : Done) (blocks : ℕ) → IsGeometry g → AreAdmitted g (d ∷ ds) → d.deed ≡ deed.Append blocks → pointer_of g (d ∷ ds) ≡ pointer_of g ds + blocks
append-pointer g ds d blocks is a e =
    let known = admitted_as g ds d (deed.Append blocks) e a in
    let w = subst (λ (x : Deed). IsWrite g ds x (pointer_of g ds) blocks) (sym e) (append-way g ds blocks known) in
    write-adds g ds d (pointer_of g ds) blocks (stands g is ds a.1) w (append_passes g (sight_of g ds) blocks known.rows).no_window

-- ---- commits and random write areas

pub commit-pointer : (g : GeometryFields) (ds : List Done) (d : Done) (last : ℕ) → IsGeometry g → AreAdmitted g (d ∷ ds) → d.deed ≡ deed.Commit last → pointer_of g (d ∷ ds) ≡ last + 1
commit-pointer g ds d last is a e = commit-moves g ds d last is (stands g is ds a.1) e (commit_passes g (sight_of g ds) last (admitted_as g ds d (deed.Commit last) e a).rows)

-- a deed that leaves the pointer: a Close, an Offline, an excursion of a kind other than 1, an Open without a random write area
pub still-pointer : (g : GeometryFields) (ds : List Done) (d : Done) → is_still d.deed ≡ true → pointer_of g (d ∷ ds) ≡ pointer_of g ds
still-pointer g ds d still = pointer-quiet g d ds (still_quiet g d.deed still)

pub open-pointer : (g : GeometryFields) (ds : List Done) (d : Done) (window : Bool) → IsGeometry g → AreAdmitted g (d ∷ ds) → d.deed ≡ deed.Open window → pointer_of g (d ∷ ds) ≡ pointer_of g ds
open-pointer g ds d true is a e = window_open-stays g ds d is (stands g is ds a.1) e (open_passes g (sight_of g ds) true (admitted_as g ds d (deed.Open true) e a).rows)
open-pointer g ds d false is a e = still-pointer g ds d (ap is_still e)

-- ---- resets (a finish is `finish-pointer`)

pub reset-pointer : (g : GeometryFields) (ds : List Done) (d : Done) → d.deed ≡ deed.Reset → pointer_of g (d ∷ ds) ≡ 0
reset-pointer g ds d e = pointer-reset g d ds (ap is_reset e)
