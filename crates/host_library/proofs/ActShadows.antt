-- What an act of a host does to the shadows of the drive's zones.
use Rattle.std.proofs.Common.{◌≡◌, ℕ, true, false, List, [], ◌∷◌, ◌++◌, Option, Some, None, refl, sym, ap, ◌∙◌}
use Rattle.std.proofs.lemmas.Bool.{eq-eqb}
use Rattle.zns_types.specs.declared.fields.GeometryFields.{GeometryFields}
use Rattle.zns_types.specs.Geometry.{IsGeometry}
use Rattle.zns_types.specs.Statuses.{is_success}
use Rattle.drive_rules.specs.declared.deed.Deed.{Deed}
use Rattle.drive_rules.specs.declared.deed.Deed.TheVariants as deed
use Rattle.drive_rules.specs.declared.aim.Aim.{Aim}
use Rattle.drive_rules.specs.Aims.{aim_of, aimed_at}
use Rattle.zone_model.specs.declared.act.Act.{Act}
use Rattle.zone_model.specs.Places.{command_of, deeds}
use Rattle.zone_model.specs.Answers.{status, evicted, is_zone, or_close, commanded_by, zone_deed, answered}
use Rattle.zone_model.proofs.Histories.{answered-push}
use Rattle.zone_model.proofs.Deeds.{Cause, by_aim, by_sweep, by_close, deed-cause, deed-refused, deed-success, deeds-idle, deeds-done}
use Rattle.zone_model.proofs.ZoneLaws.{admitted_after}
use Rattle.zone_model.proofs.Passing.{success-front}
use Rattle.zone_model.proofs.Sends.{some_blocks}
use Rattle.host_library.specs.declared.shadow.Shadow.{Shadow}
use Rattle.host_library.specs.Shadows.{shadow_after, drive_shadow}
use Rattle.host_library.specs.Asking.{is_asked, zone_about, deed_of}
use Rattle.host_library.proofs.DeedShadows.{shadow_of_deeds, deed-shadow}
use Rattle.host_library.proofs.Asked.{named, is_followed_by, asked-followed, asked-aim, asked-sweep, front-about}

-- a shadow after a deed, or none
abbrev pub led_by : GeometryFields → Option Deed → Shadow → Shadow
led_by g None s = s
led_by g (Some d) s = shadow_after g d s

-- the shadow of a zone after one more act, from what the act does to the zone
act-shadow : (g : GeometryFields) (acts : List Act) (a : Act) (z : ℕ) → IsGeometry g → (o : Option Deed) → zone_deed g (answered g acts) a z ≡ o → is_followed_by o ≡ true
    → drive_shadow g (answered g (acts ++ a ∷ [])) z ≡ led_by g o (drive_shadow g (answered g acts) z)
act-shadow g acts a z is None e f = rw (answered-push g acts a) (ap (shadow_of_deeds g) (deeds-idle g (answered g acts) a z e))
act-shadow g acts a z is (Some d) e f = rw (answered-push g acts a) (
    ap (shadow_of_deeds g) (deeds-done g (answered g acts) a z d e)
    ∙ deed-shadow g (deeds (answered g acts) z) d a.payload is (admitted_after g acts a z d e) f)

-- an act that isn't aimed at a zone, and is no sweep, doesn't change its shadow
unaimed-shadow : (g : GeometryFields) (acts : List Act) (a : Act) (z : ℕ) → IsGeometry g → is_asked g (command_of a) ≡ true → ((aim : Aim) → aim_of g (command_of a) ≡ Some aim → aim.zone ≡ z → ⊥)
    → drive_shadow g (answered g (acts ++ a ∷ [])) z ≡ drive_shadow g (answered g acts) z
unaimed-shadow g acts a z is asked other = by_deed (zone_deed g (answered g acts) a z) refl
  where
    by_cause : (d : Deed) → zone_deed g (answered g acts) a z ≡ Some d → Cause g (answered g acts) a z d → drive_shadow g (answered g (acts ++ a ∷ [])) z ≡ drive_shadow g (answered g acts) z
    by_cause d e (by_aim aim is_aim here same) = absurd (other aim is_aim here)
    by_cause d e (by_sweep none sweeps taken) = absurd (cc (sweeps, asked-sweep g (command_of a) asked))
    by_cause d e (by_close closes opened) = act-shadow g acts a z is (Some deed.Close) (e ∙ ap Some closes) refl

    by_deed : (o : Option Deed) → zone_deed g (answered g acts) a z ≡ o → drive_shadow g (answered g (acts ++ a ∷ [])) z ≡ drive_shadow g (answered g acts) z
    by_deed None e = act-shadow g acts a z is None e refl
    by_deed (Some d) e = by_cause d e (deed-cause g (answered g acts) a z d e).cause

aimed_zone : (zone : ℕ) (o : Option Deed) (aim : Aim) → aimed_at zone o ≡ Some aim → aim.zone ≡ zone
aimed_zone zone None aim e = absurd (cc e)
aimed_zone zone (Some d) aim e = let same : record { zone = zone; deed = d } ≡ aim = cc in sym (ap (λ (x : Aim). x.zone) same)

-- An act of a host doesn't change the shadows of zones that it doesn't name.
pub other-shadow : (g : GeometryFields) (acts : List Act) (a : Act) (z : ℕ) → IsGeometry g → is_asked g (command_of a) ≡ true → (named g (command_of a) ≡ z → ⊥)
    → drive_shadow g (answered g (acts ++ a ∷ [])) z ≡ drive_shadow g (answered g acts) z
other-shadow g acts a z is asked other =
    unaimed-shadow g acts a z is asked (λ aim e here. other (sym (aimed_zone (named g (command_of a)) (deed_of g (command_of a)) aim (sym (asked-aim g (command_of a) asked) ∙ e)) ∙ here))

-- A refused act changes no shadow.
pub refused-shadow : (g : GeometryFields) (acts : List Act) (a : Act) (z : ℕ) → IsGeometry g → is_success (status g (answered g acts) a) ≡ false
    → drive_shadow g (answered g (acts ++ a ∷ [])) z ≡ drive_shadow g (answered g acts) z
refused-shadow g acts a z is refused = act-shadow g acts a z is None (deed-refused g (answered g acts) a z refused) refl

-- An act of a host that succeeds changes the shadow of the zone that it names as its deed does.
pub own-shadow : (g : GeometryFields) (acts : List Act) (a : Act) (o : Option Deed) → IsGeometry g → is_asked g (command_of a) ≡ true → is_success (status g (answered g acts) a) ≡ true → deed_of g (command_of a) ≡ o
    → drive_shadow g (answered g (acts ++ a ∷ [])) (named g (command_of a)) ≡ led_by g o (drive_shadow g (answered g acts) (named g (command_of a)))
own-shadow g acts a None is asked ok none =
    unaimed-shadow g acts a (named g (command_of a)) is asked (λ aim e here. let none_aimed : aim_of g (command_of a) ≡ None = asked-aim g (command_of a) asked ∙ ap (aimed_at (named g (command_of a))) none in absurd (cc (e, none_aimed)))
own-shadow g acts a (Some d) is asked ok some =
    let h = answered g acts in
    let z = named g (command_of a) in
    let aim : aim_of g (command_of a) ≡ Some (record { zone = z; deed = d }) = asked-aim g (command_of a) asked ∙ ap (aimed_at z) some in
    let here : commanded_by g h (command_of a) (aim_of g (command_of a)) z ≡ Some d = rw (aim, eq-eqb z z refl) refl in
    let done : zone_deed g h a z ≡ Some d = deed-success g h a z ok ∙ ap (λ (x : Option Deed). or_close x (is_zone z (evicted g h a))) here in
    act-shadow g acts a z is (Some d) done (ap is_followed_by (sym some) ∙ asked-followed g (command_of a))

-- An act of a host that succeeds is about the zone that it names.
pub success-about : (g : GeometryFields) (acts : List Act) (a : Act) → is_asked g (command_of a) ≡ true → is_success (status g (answered g acts) a) ≡ true → zone_about g (command_of a) ≡ Some (named g (command_of a))
success-about g acts a asked ok = front-about g (command_of a) asked (some_blocks a).some (success-front g (answered g acts) a ok)
