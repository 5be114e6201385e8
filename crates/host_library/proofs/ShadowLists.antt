-- The known shadows of a host stay the drive's.
use Rattle.std.proofs.Common.{◌≡◌, ℕ, ◌<◌, true, false, List, [], ◌∷◌, ◌++◌, length, Option, Some, None, refl, sym, ap, ◌∙◌, subst, arith, inl, inr}
use Rattle.std.specs.Prelude.{◌==◌}
use Rattle.std.proofs.lemmas.Bool.{cases_Bool, eqb-true, eqb-false}
use Rattle.std.proofs.lemmas.List.{get_or-set_same, get_or-set_other}
use Rattle.zns_types.specs.declared.fields.GeometryFields.{GeometryFields}
use Rattle.zns_types.specs.Geometry.{IsGeometry}
use Rattle.zns_types.specs.Statuses.{is_success}
use Rattle.zone_model.specs.declared.act.Act.{Act}
use Rattle.zone_model.specs.Places.{command_of}
use Rattle.zone_model.specs.Answers.{status, answered}
use Rattle.host_library.specs.declared.shadow.Shadow.{Shadow}
use Rattle.host_library.specs.Shadows.{unknown, is_known, drive_shadow}
use Rattle.host_library.specs.Asking.{is_asked, zone_about}
use Rattle.host_library.specs.Hosts.{shadow_in, IsTrueShadow}
use Rattle.host_library.specs.Pumping.{with_changed}
use Rattle.host_library.proofs.Asked.{named}
use Rattle.host_library.proofs.ActShadows.{other-shadow, refused-shadow, success-about}

-- each known shadow is the drive's
abbrev pub AreDrives : GeometryFields → List Act → List Shadow → Type 0
AreDrives g acts shadows = (z : ℕ) → z < g.zones → IsTrueShadow g acts z (shadow_in shadows z)

-- ---- one shadow that changes

pub changed-here : (f : Shadow → Shadow) (shadows : List Shadow) (z : ℕ) → z < length shadows → shadow_in (with_changed (Some z) f shadows) z ≡ f (shadow_in shadows z)
changed-here f shadows z lt = get_or-set_same shadows z (f (shadow_in shadows z)) unknown lt

pub changed-there : (f : Shadow → Shadow) (shadows : List Shadow) (y z : ℕ) → (y ≡ z → ⊥) → shadow_in (with_changed (Some y) f shadows) z ≡ shadow_in shadows z
changed-there f shadows y z other = get_or-set_other shadows y z (f (shadow_in shadows y)) unknown (λ e. other (sym e))

-- a shadow that stays the same, over a history that doesn't change the zone's
true-along : (g : GeometryFields) (old new : List Act) (z : ℕ) (s t : Shadow) → s ≡ t → drive_shadow g (answered g new) z ≡ drive_shadow g (answered g old) z → IsTrueShadow g old z t → IsTrueShadow g new z s
true-along g old new z s t e same was known = e ∙ was (ap (λ (x : Shadow). is_known x.stage) (sym e) ∙ known) ∙ sym same

-- ---- a zone that is forgotten

unknown-true : (g : GeometryFields) (acts : List Act) (z : ℕ) (s : Shadow) → s ≡ unknown → IsTrueShadow g acts z s
unknown-true g acts z s e known = absurd (cc (known, ap (λ (x : Shadow). is_known x.stage) e))

-- if a history doesn't change any other zone
forgotten : (g : GeometryFields) (old new : List Act) (o : Option ℕ) (shadows : List Shadow) → length shadows ≡ g.zones → AreDrives g old shadows
    → ((z : ℕ) → z < g.zones → (o ≡ Some z → ⊥) → drive_shadow g (answered g new) z ≡ drive_shadow g (answered g old) z) → AreDrives g new (with_changed o (λ s. unknown) shadows)
forgotten g old new None shadows len was same z lt = true-along g old new z (shadow_in shadows z) (shadow_in shadows z) refl (same z lt (λ e. cc (e))) (was z lt)
forgotten g old new (Some y) shadows len was same z lt = elim (cases_Bool (y == z)) [
  | inl e ↦
      let is : y ≡ z = eqb-true y z e in
      let here : z < length shadows = omega arith in
      unknown-true g new z _ (subst (λ (x : ℕ). shadow_in (with_changed (Some x) (λ s. unknown) shadows) z ≡ unknown) (sym is) (changed-here (λ s. unknown) shadows z here))
  | inr e ↦
      let other : y ≡ z → ⊥ = eqb-false y z e in
      true-along g old new z _ (shadow_in shadows z) (changed-there (λ s. unknown) shadows y z other) (same z lt (λ is. let at_z : y ≡ z = cc in other at_z)) (was z lt)
]

-- A failed send that served nothing.
pub forgotten-same : (g : GeometryFields) (acts : List Act) (o : Option ℕ) (shadows : List Shadow) → length shadows ≡ g.zones → AreDrives g acts shadows → AreDrives g acts (with_changed o (λ s. unknown) shadows)
forgotten-same g acts o shadows len was = forgotten g acts acts o shadows len was (λ z lt other. refl)

-- an act of a host doesn't change a zone that it isn't about
left : (g : GeometryFields) (acts : List Act) (a : Act) (z : ℕ) → IsGeometry g → is_asked g (command_of a) ≡ true → (zone_about g (command_of a) ≡ Some z → ⊥)
    → drive_shadow g (answered g (acts ++ a ∷ [])) z ≡ drive_shadow g (answered g acts) z
left g acts a z is asked other = elim (cases_Bool (is_success (status g (answered g acts) a))) [
  | inl ok ↦ other-shadow g acts a z is asked (λ e. other (success-about g acts a asked ok ∙ ap Some e))
  | inr refused ↦ refused-shadow g acts a z is refused
]

-- A failed send that served the act, and a torn entry.
pub forgotten-served : (g : GeometryFields) (acts : List Act) (a : Act) (shadows : List Shadow) → IsGeometry g → is_asked g (command_of a) ≡ true → length shadows ≡ g.zones → AreDrives g acts shadows
    → AreDrives g (acts ++ a ∷ []) (with_changed (zone_about g (command_of a)) (λ s. unknown) shadows)
forgotten-served g acts a shadows is asked len was = forgotten g acts (acts ++ a ∷ []) (zone_about g (command_of a)) shadows len was (λ z lt other. left g acts a z is asked other)

-- ---- a command that was refused

pub refused-stays : (g : GeometryFields) (acts : List Act) (a : Act) (shadows : List Shadow) → IsGeometry g → is_success (status g (answered g acts) a) ≡ false → AreDrives g acts shadows → AreDrives g (acts ++ a ∷ []) shadows
refused-stays g acts a shadows is refused was z lt = true-along g acts (acts ++ a ∷ []) z (shadow_in shadows z) (shadow_in shadows z) refl (refused-shadow g acts a z is refused) (was z lt)

-- ---- a command that succeeded

-- the shadow of the zone that it names becomes the drive's, if it is known
pub done-follows : (g : GeometryFields) (acts : List Act) (a : Act) (f : Shadow → Shadow) (shadows : List Shadow) → IsGeometry g → is_asked g (command_of a) ≡ true → is_success (status g (answered g acts) a) ≡ true
    → length shadows ≡ g.zones → AreDrives g acts shadows
    → (named g (command_of a) < g.zones → IsTrueShadow g acts (named g (command_of a)) (shadow_in shadows (named g (command_of a))) → IsTrueShadow g (acts ++ a ∷ []) (named g (command_of a)) (f (shadow_in shadows (named g (command_of a)))))
    → AreDrives g (acts ++ a ∷ []) (with_changed (zone_about g (command_of a)) f shadows)
done-follows g acts a f shadows is asked ok len was own = subst (λ (o : Option ℕ). AreDrives g (acts ++ a ∷ []) (with_changed o f shadows)) (sym (success-about g acts a asked ok)) by_zone
  where
    by_zone : AreDrives g (acts ++ a ∷ []) (with_changed (Some (named g (command_of a))) f shadows)
    by_zone z lt = elim (cases_Bool (named g (command_of a) == z)) [
      | inl e ↦
          let at_z : named g (command_of a) ≡ z = eqb-true _ z e in
          let here : named g (command_of a) < g.zones = omega arith in
          let there : named g (command_of a) < length shadows = omega arith in
          let new : IsTrueShadow g (acts ++ a ∷ []) (named g (command_of a)) (shadow_in (with_changed (Some (named g (command_of a))) f shadows) (named g (command_of a))) =
          rw (changed-here f shadows (named g (command_of a)) there) (own here (was (named g (command_of a)) here)) in
          subst (λ (x : ℕ). IsTrueShadow g (acts ++ a ∷ []) x (shadow_in (with_changed (Some (named g (command_of a))) f shadows) x)) at_z new
      | inr e ↦
          let other : named g (command_of a) ≡ z → ⊥ = eqb-false _ z e in
          true-along g acts (acts ++ a ∷ []) z _ (shadow_in shadows z) (changed-there f shadows (named g (command_of a)) z other) (other-shadow g acts a z is asked other) (was z lt)
    ]
