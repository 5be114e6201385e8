-- Whether a zone has a random write area after one more deed, and which excursions it had.
use Rattle.std.proofs.Common.{◌≡◌, ℕ, Bool, true, false, List, ◌∷◌, refl, sym, ap, ◌∙◌, inl, inr}
use Rattle.std.specs.Prelude.{◌&&◌, ◌||◌, ◌⊎◌}
use Rattle.std.proofs.lemmas.Bool.{cases_Bool}
use Rattle.zns_types.specs.declared.fields.GeometryFields.{GeometryFields}
use Rattle.zns_types.specs.States.{is_active}
use Rattle.zns_types.specs.Geometry.{IsGeometry}
use Rattle.drive_rules.specs.Deeds.{is_reset, is_excursion, asks_window, need_for}
use Rattle.zone_history.specs.Histories.{Done, state_of, window_of, was_windowed, sight_of, had}
use Rattle.zone_history.specs.Admitted.{AreAdmitted}
use Rattle.zone_history.proofs.Steps.{windowed-reset}
use Rattle.zone_history.proofs.Ways.{window-parts}
use Rattle.zone_history.proofs.Stands.{Stands}
use Rattle.zone_history.proofs.Standing.{stands}
use Rattle.zone_history.proofs.Needs.{covered}
use Rattle.zone_history.proofs.Taking.{needs_empty}

pub window-reset : (g : GeometryFields) (ds : List Done) (d : Done) → is_reset d.deed ≡ true → window_of g (d ∷ ds) ≡ false
window-reset g ds d resets = elim (cases_Bool (window_of g (d ∷ ds))) [
  | inl there ↦ absurd (cc ((window-parts g (d ∷ ds) there).1, windowed-reset d ds resets))
  | inr none ↦ none
]

same_windows : (now asks opened was : Bool) → (now ≡ true → opened ≡ was) → (now && (asks || opened)) ≡ (now && (asks || was))
same_windows true asks opened was k = ap (λ (b : Bool). asks || b) (k refl)
same_windows false asks opened was k = refl

-- an active zone has a random write area if it asked for one, whatever deed made it active
opened_before : (g : GeometryFields) (ds : List Done) → Stands g ds → (needed : Bool) → (needed ≡ true → was_windowed ds ≡ false) → (is_active (state_of g ds) ≡ true) ⊎ (needed ≡ true) → was_windowed ds ≡ window_of g ds
unfolding window_of
opened_before g ds s needed k (inl active) = rw active refl
opened_before g ds s needed k (inr need) = let none = k need in rw none (sym (none_of (is_active (state_of g ds))))
  where
    none_of : (b : Bool) → (b && false) ≡ false
    none_of true = refl
    none_of false = refl

window-by : (g : GeometryFields) (ds : List Done) (d : Done) → is_reset d.deed ≡ false → window_of g (d ∷ ds) ≡ (is_active (state_of g (d ∷ ds)) && (asks_window d.deed || was_windowed ds))
unfolding window_of
window-by g ds d keeps = rw keeps refl

-- A zone that is active after a deed has a random write area if the deed asks for one or the zone had one.
pub window-step : (g : GeometryFields) (ds : List Done) (d : Done) → IsGeometry g → AreAdmitted g (d ∷ ds) → is_reset d.deed ≡ false
    → window_of g (d ∷ ds) ≡ (is_active (state_of g (d ∷ ds)) && (asks_window d.deed || window_of g ds))
window-step g ds d is a keeps =
    let s = stands g is ds a.1 in
    let need = (need_for d.deed (sight_of g ds)).active in
    window-by g ds d keeps
    ∙ same_windows (is_active (state_of g (d ∷ ds))) (asks_window d.deed) (was_windowed ds) (window_of g ds)
    (λ on. opened_before g ds s need (λ needed. (s.bare (needs_empty d.deed (sight_of g ds) needed)).unopened) ((covered g ds d is a).active on))

-- ---- excursions

pub had-reset : (ds : List Done) (d : Done) (kind : ℕ) → is_reset d.deed ≡ true → had (d ∷ ds) kind ≡ false
had-reset ds d kind resets = rw resets refl

pub had-step : (ds : List Done) (d : Done) (kind : ℕ) → is_reset d.deed ≡ false → had (d ∷ ds) kind ≡ (is_excursion kind d.deed || had ds kind)
had-step ds d kind keeps = rw keeps refl
