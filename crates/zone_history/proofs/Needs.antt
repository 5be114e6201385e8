-- How a deed changes what its zone uses: active and open resources, and random write areas.
use Rattle.std.proofs.Common.{◌≡◌, ℕ, Bool, true, false, cond, List, ◌∷◌, refl, sym, ap, ◌∙◌, inl, inr}
use Rattle.std.specs.Prelude.{◌==◌, ◌&&◌, ◌⊎◌}
use Rattle.std.proofs.lemmas.Bool.{and_from}
use Rattle.zns_types.specs.declared.fields.GeometryFields.{GeometryFields}
use Rattle.zns_types.specs.declared.state.State.{State}
use Rattle.zns_types.specs.declared.state.State.TheVariants.{Empty, ImplicitlyOpened, Closed, Full}
use Rattle.zns_types.specs.States.{is_active, is_opened, is_implicitly_opened}
use Rattle.zns_types.specs.Geometry.{IsGeometry}
use Rattle.zone_state.specs.declared.action.Action.{Action}
use Rattle.zone_state.specs.declared.action.Action.TheVariants as action
use Rattle.zone_state.specs.Transitions.{after, state_after, adds_blocks}
use Rattle.zone_limits.specs.declared.limits.Need.{Need}
use Rattle.drive_rules.specs.declared.deed.Deed.{Deed}
use Rattle.drive_rules.specs.declared.deed.Deed.TheVariants as deed
use Rattle.drive_rules.specs.Deeds.{action_of, is_reset, asks_window, need_for, use_of, closed_use}
use Rattle.zone_history.specs.Histories.{Done, pointer_of, state_of, window_of, was_windowed, sight_of}
use Rattle.zone_history.specs.Admitted.{AreAdmitted}
use Rattle.zone_history.proofs.Steps.{state-step, state-led, windowed-kept, windowed-reset}
use Rattle.zone_history.proofs.Ways.{window-parts}
use Rattle.zone_history.proofs.Stands.{Stands}
use Rattle.zone_history.proofs.Standing.{stands}
use Rattle.zone_history.proofs.Taking.{LeadsWithin, leads_within, needs_empty, needs_window}
pub use Rattle.zone_history.proofs.Taking.{AsksNew, asks_new}

-- whatever is used after a deed was used before, or the deed needs it
abbrev pub WasOrNeeded : Bool → Bool → Bool → Type 0
WasOrNeeded used was needed = used ≡ true → (was ≡ true) ⊎ (needed ≡ true)

pub record IsCovered (used was need : Need) : Type 0 where
  pub active : WasOrNeeded used.active was.active need.active
  pub opened : WasOrNeeded used.opened was.opened need.opened
  pub window : WasOrNeeded used.window was.window need.window
  pub asks_new : AsksNew was need

-- ---- states

-- a zone that doesn't become Full is in the state where the action leads
not_filled : (capacity : ℕ) (a : Action) (pointer : ℕ) (s : State) (test : State → Bool) → test Full ≡ false → test (state_after capacity a pointer s) ≡ true → test (after a s) ≡ true
not_filled capacity a pointer s test full on = by_case (adds_blocks a && (pointer == capacity)) on
  where
    by_case : (b : Bool) → test (cond b Full (after a s)) ≡ true → test (after a s) ≡ true
    by_case true on = absurd (cc (on, full))
    by_case false on = on

led_on : (g : GeometryFields) (ds : List Done) (d : Done) (test : State → Bool) → test Full ≡ false → test (state_of g (d ∷ ds)) ≡ true → test (after (action_of d.deed) (state_of g ds)) ≡ true
led_on g ds d test full on = not_filled g.capacity (action_of d.deed) (pointer_of g (d ∷ ds)) (state_of g ds) test full (ap test (sym (state-step g d ds)) ∙ on)

-- ---- random write areas

window_from : (g : GeometryFields) (ds : List Done) → is_active (state_of g ds) ≡ true → was_windowed ds ≡ true → window_of g ds ≡ true
unfolding window_of
window_from g ds active opened = and_from _ _ active opened

window-covered : (g : GeometryFields) (ds : List Done) (d : Done) → Stands g ds → LeadsWithin (state_of g ds) (after (action_of d.deed) (state_of g ds)) (need_for d.deed (sight_of g ds))
    → WasOrNeeded (window_of g (d ∷ ds)) (window_of g ds) (need_for d.deed (sight_of g ds)).window
window-covered g ds d s within there =
    let parts = window-parts g (d ∷ ds) there in
    let active = within.active (led_on g ds d is_active refl parts.0) in
    by_deed (is_reset d.deed) refl (asks_window d.deed) refl active parts.1
  where
    by_before : (w : Bool) → window_of g ds ≡ w → asks_window d.deed ≡ true → (window_of g ds ≡ true) ⊎ ((need_for d.deed (sight_of g ds)).window ≡ true)
    by_before true is asks = inl is
    by_before false none asks = inr (needs_window d.deed (sight_of g ds) asks none)

    by_deed : (r : Bool) → is_reset d.deed ≡ r → (w : Bool) → asks_window d.deed ≡ w → (is_active (state_of g ds) ≡ true) ⊎ ((need_for d.deed (sight_of g ds)).active ≡ true) → was_windowed (d ∷ ds) ≡ true
        → (window_of g ds ≡ true) ⊎ ((need_for d.deed (sight_of g ds)).window ≡ true)
    by_deed true resets w asks active opened = absurd (cc (opened, windowed-reset d ds resets))
    by_deed false keeps true asks active opened = by_before (window_of g ds) refl asks
    by_deed false keeps false asks (inl on) opened = inl (window_from g ds on (sym (windowed-kept d ds keeps asks) ∙ opened))
    by_deed false keeps false asks (inr need) opened =
        let none = (s.bare (needs_empty d.deed (sight_of g ds) need)).unopened in
        absurd (cc (opened, none, windowed-kept d ds keeps asks))

-- ---- the deed

-- After a deed the zone uses only what it used before or the deed needs, and the deed needs only what wasn't used.
pub covered : (g : GeometryFields) (ds : List Done) (d : Done) → IsGeometry g → AreAdmitted g (d ∷ ds) → IsCovered (use_of (sight_of g (d ∷ ds))) (use_of (sight_of g ds)) (need_for d.deed (sight_of g ds))
covered g ds d is a =
    let within = leads_within d.deed (sight_of g ds) in
    record {
      active = λ on. within.active (led_on g ds d is_active refl on);
      opened = λ on. within.opened (led_on g ds d is_opened refl on);
      window = window-covered g ds d (stands g is ds a.1) within;
      asks_new = asks_new d.deed (sight_of g ds);
    }

-- ---- a zone that gives way

implicit_only : (s : State) → is_implicitly_opened s ≡ true → s ≡ ImplicitlyOpened
implicit_only ImplicitlyOpened e = refl
implicit_only Empty e = absurd (cc e)
implicit_only _ e = absurd (cc e)

same_use : (now was : State) (there before : Bool) → is_active now ≡ is_active was → is_opened now ≡ false → there ≡ before
    → use_of (record { state = now; window = there; pointer = 0 }) ≡ closed_use (use_of (record { state = was; window = before; pointer = 0 }))
same_use now was there before active opened window = rw (active, opened, window) refl

closed_window : (g : GeometryFields) (ds : List Done) (d : Done) → state_of g (d ∷ ds) ≡ Closed → state_of g ds ≡ ImplicitlyOpened → was_windowed (d ∷ ds) ≡ was_windowed ds → window_of g (d ∷ ds) ≡ window_of g ds
unfolding window_of
closed_window g ds d now was same = rw (now, was) same

-- A Close of an Implicitly Opened zone gives back its open resource, and nothing else.
pub closed : (g : GeometryFields) (ds : List Done) (d : Done) → d.deed ≡ deed.Close → is_implicitly_opened (state_of g ds) ≡ true → use_of (sight_of g (d ∷ ds)) ≡ closed_use (use_of (sight_of g ds))
closed g ds d e implicit =
    let was = implicit_only (state_of g ds) implicit in
    let led : state_of g (d ∷ ds) ≡ after action.Close (state_of g ds) = state-led g d ds (ap (λ (x : Deed). adds_blocks (action_of x)) e) ∙ ap (λ (x : Deed). after (action_of x) (state_of g ds)) e in
    let now : state_of g (d ∷ ds) ≡ Closed = led ∙ ap (after action.Close) was in
    same_use (state_of g (d ∷ ds)) (state_of g ds) (window_of g (d ∷ ds)) (window_of g ds) (ap is_active now ∙ sym (ap is_active was)) (ap is_opened now)
    (closed_window g ds d now was (windowed-kept d ds (ap is_reset e) (ap asks_window e)))
