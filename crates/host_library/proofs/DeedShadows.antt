-- The shadow of a zone follows each deed of a host's commands, and the Close by which a zone gives way.
use Rattle.std.proofs.Common.{◌≡◌, ℕ, ◌+◌, ◌≤◌, Bool, true, false, cond, List, ◌∷◌, refl, sym, ap, ◌∙◌, subst, arith, inl, inr}
use Rattle.std.specs.Prelude.{◌==◌, ◌&&◌, ◌||◌, nat_le, is_ok}
use Rattle.std.proofs.lemmas.Bool.{cases_Bool, eqb-true, eqb-false}
use Rattle.std.proofs.lemmas.Bool.Decides.{nat_tests}
use Rattle.zns_types.specs.declared.fields.GeometryFields.{GeometryFields}
use Rattle.zns_types.specs.declared.state.State.{State}
use Rattle.zns_types.specs.declared.state.State.TheVariants.{Empty, ImplicitlyOpened, ExplicitlyOpened, Closed, Full}
use Rattle.zns_types.specs.States.{is_active}
use Rattle.zns_types.specs.Geometry.{IsGeometry}
use Rattle.zone_state.specs.declared.action.Action.TheVariants as action
use Rattle.zone_state.specs.Transitions.{go, after, adds_blocks}
use Rattle.drive_rules.specs.declared.deed.Deed.{Deed}
use Rattle.drive_rules.specs.declared.deed.Deed.TheVariants as deed
use Rattle.drive_rules.specs.Deeds.{action_of, is_reset, asks_window, Admits}
use Rattle.drive_rules.proofs.Passing.{write_passes, place_of}
use Rattle.zone_history.specs.Histories.{Done, state_of, pointer_of, window_of, sight_of}
use Rattle.zone_history.specs.Admitted.{AreAdmitted}
use Rattle.zone_history.proofs.Steps.{state-step, state-led}
use Rattle.zone_history.proofs.Transitions.{is_live, reset_empty, open_explicit, open_live, write_live, write_active, commit_active}
use Rattle.zone_history.proofs.Ways.{deed_leads}
use Rattle.zone_history.proofs.Standing.{stands}
use Rattle.zone_history.proofs.Pointers.{write-pointer, write-pointer_window, append-pointer, commit-pointer, still-pointer, open-pointer, reset-pointer}
use Rattle.zone_history.proofs.Windows.{window-step, window-reset}
use Rattle.host_library.specs.declared.stage.Stage.TheVariants as stage
use Rattle.host_library.specs.declared.shadow.Shadow.{Shadow}
use Rattle.host_library.specs.Shadows.{stage_of, has_pointer, shadow_at, shadow_of_zone, filled_to, shadow_after, pointer_after, active}

-- deeds of a host's commands, and the Close by which a zone gives way
abbrev pub is_followed : Deed → Bool
is_followed (deed.Write from blocks) = true
is_followed (deed.Append blocks) = true
is_followed (deed.Open window) = true
is_followed (deed.Commit last) = true
is_followed deed.Close = true
is_followed deed.Reset = true
is_followed _ = false

-- a zone's shadow, from the deeds that were done to it
abbrev pub shadow_of_deeds : GeometryFields → List Done → Shadow
shadow_of_deeds g ds = shadow_of_zone (sight_of g ds)

-- ---- stages

active_stage : (s : State) → is_active s ≡ true → stage_of s ≡ stage.Active
active_stage ImplicitlyOpened on = refl
active_stage ExplicitlyOpened on = refl
active_stage Closed on = refl
active_stage _ on = absurd (cc on)

live_pointer : (s : State) (p : ℕ) → is_live s ≡ true → cond (has_pointer (stage_of s)) p 0 ≡ p
live_pointer Empty p on = refl
live_pointer ImplicitlyOpened p on = refl
live_pointer ExplicitlyOpened p on = refl
live_pointer Closed p on = refl
live_pointer _ p on = absurd (cc on)

-- an active zone's shadow
active_at : (s : State) (window : Bool) (p : ℕ) → is_active s ≡ true → shadow_at (stage_of s) window p ≡ active window p
active_at s window p on = rw (active_stage s on) refl

-- zones that agree have the same shadow
same_shadow : (s t : State) (v w : Bool) (p q : ℕ) → s ≡ t → v ≡ w → p ≡ q → shadow_at (stage_of s) v p ≡ shadow_at (stage_of t) w q
same_shadow s t v w p q e f k = rw (e, f, k) refl

-- ---- writes and commits

-- a zone after a write or a commit is Full at the capacity, and otherwise still active
added : (g : GeometryFields) (t : State) (window : Bool) (p : ℕ) → p ≤ g.capacity → is_active t ≡ true
    → shadow_at (stage_of (cond (p == g.capacity) Full t)) (is_active (cond (p == g.capacity) Full t) && window) p ≡ filled_to g window p
added g t window p within on = elim (cases_Bool (p == g.capacity)) [
  | inl ends ↦ let at_end : nat_le g.capacity p ≡ true = grind (arith, nat_tests, eqb-true p g.capacity ends) in rw (ends, at_end) refl
  | inr goes ↦
      let below : nat_le g.capacity p ≡ false = grind (arith, nat_tests, eqb-false p g.capacity goes) in
      rw (goes, below) (rw on (active_at t window p on))
]

-- a deed that adds blocks
adds-shadow : (g : GeometryFields) (ds : List Done) (d : Done) (p : ℕ) → IsGeometry g → AreAdmitted g (d ∷ ds) → adds_blocks (action_of d.deed) ≡ true → is_reset d.deed ≡ false → asks_window d.deed ≡ false
    → is_active (after (action_of d.deed) (state_of g ds)) ≡ true → pointer_of g (d ∷ ds) ≡ p → shadow_of_deeds g (d ∷ ds) ≡ filled_to g (window_of g ds) p
adds-shadow g ds d p is a adds keeps no_window on there =
    let t = after (action_of d.deed) (state_of g ds) in
    let within : p ≤ g.capacity = subst (λ (q : ℕ). q ≤ g.capacity) there (stands g is (d ∷ ds) a).within in
    let led : state_of g (d ∷ ds) ≡ cond (p == g.capacity) Full t = state-step g d ds ∙ rw (there, adds) refl in
    let opened : window_of g (d ∷ ds) ≡ (is_active (state_of g (d ∷ ds)) && window_of g ds) = window-step g ds d is a keeps ∙ rw no_window refl in
    let now : window_of g (d ∷ ds) ≡ (is_active (cond (p == g.capacity) Full t) && window_of g ds) = opened ∙ ap (λ (s : State). is_active s && window_of g ds) led in
    same_shadow (state_of g (d ∷ ds)) (cond (p == g.capacity) Full t) (window_of g (d ∷ ds)) (is_active (cond (p == g.capacity) Full t) && window_of g ds) (pointer_of g (d ∷ ds)) p led now there
    ∙ added g t (window_of g ds) p within on

-- the pointer after a write is the one that its shadow shows
written_to : (g : GeometryFields) (ds : List Done) (d : Done) (from blocks : ℕ) → IsGeometry g → AreAdmitted g (d ∷ ds) → d.deed ≡ deed.Write from blocks
    → pointer_of g (d ∷ ds) ≡ pointer_after g (record { stage = stage.Active; window = window_of g ds; pointer = pointer_of g ds }) from blocks
written_to g ds d from blocks is a e = elim (cases_Bool (window_of g ds)) [
  | inl there ↦ rw there (write-pointer_window g ds d from blocks is a e there)
  | inr none ↦
      let rows = (subst (λ (x : Deed). Admits g (sight_of g ds) x) e a.0.rows) in
      let place = place_of g (sight_of g ds) from (from + blocks) (write_passes g (sight_of g ds) from blocks rows).placed in
      rw none (write-pointer g ds d from blocks is a e none ∙ ap (λ (n : ℕ). n + blocks) (place.at_pointer none))
]

-- ---- each deed

-- the pointer that a live zone's shadow shows
abbrev shown : GeometryFields → List Done → ℕ
shown g ds = (shadow_of_deeds g ds).pointer

write-shadow : (g : GeometryFields) (ds : List Done) (from blocks : ℕ) (payload : List ℕ) → IsGeometry g → AreAdmitted g (record { deed = deed.Write from blocks; payload = payload } ∷ ds)
    → shadow_of_deeds g (record { deed = deed.Write from blocks; payload = payload } ∷ ds) ≡ shadow_after g (deed.Write from blocks) (shadow_of_deeds g ds)
write-shadow g ds from blocks payload is a =
    let d : Done = record { deed = deed.Write from blocks; payload = payload } in
    let leads = deed_leads g ds (deed.Write from blocks) a.0 in
    let same = live_pointer (state_of g ds) (pointer_of g ds) (write_live (state_of g ds) leads) in
    rw same (adds-shadow g ds d _ is a refl refl refl (write_active (state_of g ds) leads) (written_to g ds d from blocks is a refl))

append-shadow : (g : GeometryFields) (ds : List Done) (blocks : ℕ) (payload : List ℕ) → IsGeometry g → AreAdmitted g (record { deed = deed.Append blocks; payload = payload } ∷ ds)
    → shadow_of_deeds g (record { deed = deed.Append blocks; payload = payload } ∷ ds) ≡ shadow_after g (deed.Append blocks) (shadow_of_deeds g ds)
append-shadow g ds blocks payload is a =
    let d : Done = record { deed = deed.Append blocks; payload = payload } in
    let leads = deed_leads g ds (deed.Append blocks) a.0 in
    let same = live_pointer (state_of g ds) (pointer_of g ds) (write_live (state_of g ds) leads) in
    rw same (adds-shadow g ds d (pointer_of g ds + blocks) is a refl refl refl (write_active (state_of g ds) leads) (append-pointer g ds d blocks is a refl))

commit-shadow : (g : GeometryFields) (ds : List Done) (last : ℕ) (payload : List ℕ) → IsGeometry g → AreAdmitted g (record { deed = deed.Commit last; payload = payload } ∷ ds)
    → shadow_of_deeds g (record { deed = deed.Commit last; payload = payload } ∷ ds) ≡ shadow_after g (deed.Commit last) (shadow_of_deeds g ds)
commit-shadow g ds last payload is a =
    let d : Done = record { deed = deed.Commit last; payload = payload } in
    let leads = deed_leads g ds (deed.Commit last) a.0 in
    adds-shadow g ds d (last + 1) is a refl refl refl (commit_active (state_of g ds) leads) (commit-pointer g ds d last is a refl)

or-swap : (asks was : Bool) → (asks || was) ≡ (was || asks)
or-swap true true = refl
or-swap true false = refl
or-swap false true = refl
or-swap false false = refl

open-shadow : (g : GeometryFields) (ds : List Done) (window : Bool) (payload : List ℕ) → IsGeometry g → AreAdmitted g (record { deed = deed.Open window; payload = payload } ∷ ds)
    → shadow_of_deeds g (record { deed = deed.Open window; payload = payload } ∷ ds) ≡ shadow_after g (deed.Open window) (shadow_of_deeds g ds)
open-shadow g ds window payload is a =
    let d : Done = record { deed = deed.Open window; payload = payload } in
    let leads = deed_leads g ds (deed.Open window) a.0 in
    let led : state_of g (d ∷ ds) ≡ ExplicitlyOpened = state-led g d ds refl ∙ open_explicit (state_of g ds) leads in
    let opened : window_of g (d ∷ ds) ≡ (is_active (state_of g (d ∷ ds)) && (window || window_of g ds)) = window-step g ds d is a refl in
    let now : window_of g (d ∷ ds) ≡ (window_of g ds || window) = opened ∙ ap (λ (s : State). is_active s && (window || window_of g ds)) led ∙ or-swap window (window_of g ds) in
    let same = live_pointer (state_of g ds) (pointer_of g ds) (open_live (state_of g ds) leads) in
    same_shadow (state_of g (d ∷ ds)) ExplicitlyOpened (window_of g (d ∷ ds)) (window_of g ds || window) (pointer_of g (d ∷ ds)) (pointer_of g ds) led now (open-pointer g ds d window is a refl)
    ∙ ap (λ (p : ℕ). active (window_of g ds || window) p) (sym same)

closed_from : (s : State) → is_ok (go action.Close s) ≡ true → (is_active s ≡ true) × (after action.Close s ≡ Closed)
closed_from ImplicitlyOpened ok = (refl, refl)
closed_from ExplicitlyOpened ok = (refl, refl)
closed_from Closed ok = (refl, refl)
closed_from _ ok = absurd (cc ok)

close-shadow : (g : GeometryFields) (ds : List Done) (payload : List ℕ) → IsGeometry g → AreAdmitted g (record { deed = deed.Close; payload = payload } ∷ ds)
    → shadow_of_deeds g (record { deed = deed.Close; payload = payload } ∷ ds) ≡ shadow_after g deed.Close (shadow_of_deeds g ds)
close-shadow g ds payload is a =
    let d : Done = record { deed = deed.Close; payload = payload } in
    let from = closed_from (state_of g ds) (deed_leads g ds deed.Close a.0) in
    let led : state_of g (d ∷ ds) ≡ Closed = state-led g d ds refl ∙ from.1 in
    let opened : window_of g (d ∷ ds) ≡ (is_active (state_of g (d ∷ ds)) && window_of g ds) = window-step g ds d is a refl in
    let now : window_of g (d ∷ ds) ≡ window_of g ds = opened ∙ ap (λ (s : State). is_active s && window_of g ds) led in
    same_shadow (state_of g (d ∷ ds)) Closed (window_of g (d ∷ ds)) (window_of g ds) (pointer_of g (d ∷ ds)) (pointer_of g ds) led now (still-pointer g ds d refl)
    ∙ sym (active_at (state_of g ds) (window_of g ds) (pointer_of g ds) from.0)

reset-shadow : (g : GeometryFields) (ds : List Done) (payload : List ℕ) → AreAdmitted g (record { deed = deed.Reset; payload = payload } ∷ ds)
    → shadow_of_deeds g (record { deed = deed.Reset; payload = payload } ∷ ds) ≡ shadow_after g deed.Reset (shadow_of_deeds g ds)
reset-shadow g ds payload a =
    let d : Done = record { deed = deed.Reset; payload = payload } in
    let led : state_of g (d ∷ ds) ≡ Empty = state-led g d ds refl ∙ reset_empty (state_of g ds) (deed_leads g ds deed.Reset a.0) in
    same_shadow (state_of g (d ∷ ds)) Empty (window_of g (d ∷ ds)) false (pointer_of g (d ∷ ds)) 0 led (window-reset g ds d refl) (reset-pointer g ds d refl)

-- ---- all of them

-- A deed changes a zone's shadow as it changes the zone.
pub deed-shadow : (g : GeometryFields) (ds : List Done) (e : Deed) (payload : List ℕ) → IsGeometry g → AreAdmitted g (record { deed = e; payload = payload } ∷ ds) → is_followed e ≡ true
    → shadow_of_deeds g (record { deed = e; payload = payload } ∷ ds) ≡ shadow_after g e (shadow_of_deeds g ds)
deed-shadow g ds (deed.Write from blocks) payload is a f = write-shadow g ds from blocks payload is a
deed-shadow g ds (deed.Append blocks) payload is a f = append-shadow g ds blocks payload is a
deed-shadow g ds (deed.Open window) payload is a f = open-shadow g ds window payload is a
deed-shadow g ds (deed.Commit last) payload is a f = commit-shadow g ds last payload is a
deed-shadow g ds deed.Close payload is a f = close-shadow g ds payload is a
deed-shadow g ds deed.Reset payload is a f = reset-shadow g ds payload a
deed-shadow g ds _ payload is a f = absurd (cc f)
