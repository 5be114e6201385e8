-- What an act does to a zone, why it does it, and that the zone admits it.
use Rattle.std.proofs.Common.{◌≡◌, ◌≢◌, ℕ, ◌<◌, ◌≤◌, true, false, List, [], ◌∷◌, reverse, Option, Some, None, refl, sym, ap, ◌∙◌, subst, arith}
use Rattle.std.specs.Prelude.{◌&&◌, ◌==◌, not}
use Rattle.std.proofs.lemmas.Bool.{and_parts, not-true, eqb-true, eqb-false}
use Rattle.zns_types.specs.declared.fields.GeometryFields.{GeometryFields}
use Rattle.zns_types.specs.declared.state.State.{State}
use Rattle.zns_types.specs.States.{is_implicitly_opened}
use Rattle.zns_types.specs.Statuses.{is_success}
use Rattle.drive_rules.specs.declared.deed.Deed.{Deed}
use Rattle.drive_rules.specs.declared.deed.Deed.TheVariants as deed
use Rattle.drive_rules.specs.declared.aim.Aim.{Aim}
use Rattle.drive_rules.specs.Deeds.{Admits, takes_all, blocks_of}
use Rattle.drive_rules.specs.Aims.{aim_of, sweep_of}
use Rattle.drive_rules.specs.Tables.{wants_room, judging_rows}
use Rattle.drive_rules.proofs.Passing.{close_admits}
use Rattle.zone_history.specs.Histories.{Done}
use Rattle.zone_history.specs.Admitted.{is_write, IsAdmitted, AreAdmitted}
use Rattle.zone_model.specs.declared.act.Act.{Act}
use Rattle.zone_model.specs.Places.{Place, command_of, deeds, with_deed}
use Rattle.zone_model.specs.Zones.{state, zone, counts}
use Rattle.zone_model.specs.Answers.{status, table_of, evictable, evicted, swept, commanded_by, commanded, is_zone, or_close, zone_deed, answer, and_then, answered_back, answered}
use Rattle.zone_model.proofs.Found.{some_if, some_of, find-range}
use Rattle.zone_model.proofs.Passing.{success-front, aim-passes}
use Rattle.zone_model.proofs.Sends.{some_blocks, aim-blocks}
use Rattle.zone_model.proofs.Sweeps.{sweep-admits, sweep-no_write}

-- ---- a zone's own history

pub deeds-step : (g : GeometryFields) (h : List Place) (a : Act) (z : ℕ) → deeds (and_then g h a) z ≡ with_deed (zone_deed g h a z) a.payload (deeds h z)
unfolding answer deeds
deeds-step g h a z = refl

pub deeds-idle : (g : GeometryFields) (h : List Place) (a : Act) (z : ℕ) → zone_deed g h a z ≡ None → deeds (and_then g h a) z ≡ deeds h z
deeds-idle g h a z none = rw (deeds-step g h a z, none) refl

-- a deed, with the host data of the act
abbrev pub done_by : Act → Deed → Done
done_by a d = record { deed = d; payload = a.payload }

pub deeds-done : (g : GeometryFields) (h : List Place) (a : Act) (z : ℕ) (d : Deed) → zone_deed g h a z ≡ Some d → deeds (and_then g h a) z ≡ done_by a d ∷ deeds h z
deeds-done g h a z d done = rw (deeds-step g h a z, done) refl

-- ---- what an act does to a zone

pub deed-refused : (g : GeometryFields) (h : List Place) (a : Act) (z : ℕ) → is_success (status g h a) ≡ false → zone_deed g h a z ≡ None
unfolding zone_deed
deed-refused g h a z refused = rw refused refl

pub deed-success : (g : GeometryFields) (h : List Place) (a : Act) (z : ℕ) → is_success (status g h a) ≡ true → zone_deed g h a z ≡ or_close (commanded g h (command_of a) z) (is_zone z (evicted g h a))
unfolding zone_deed
deed-success g h a z ok = rw ok refl

-- ---- the zone that gives way

pub record GivesWay (g : GeometryFields) (h : List Place) (target : Option ℕ) (y : ℕ) : Type 0 where
  pub opened : is_implicitly_opened (state g h y) ≡ true
  pub other : (t : ℕ) → target ≡ Some t → y ≢ t
  pub within : y < g.zones

pub evictable-gives_way : (g : GeometryFields) (h : List Place) (target : Option ℕ) (y : ℕ) → evictable g h target ≡ Some y → GivesWay g h target y
evictable-gives_way g h None y e = absurd (cc e)
evictable-gives_way g h (Some t) y e =
    let found = find-range (λ z. is_implicitly_opened (state g h z) && not (z == t)) 0 g.zones y e in
    let parts = and_parts (is_implicitly_opened (state g h y)) (not (y == t)) found.0 in
    let apart : y ≡ t → ⊥ = eqb-false y t (not-true _ parts.1) in
    record { opened = parts.0; other = λ x is same. let here : y ≡ t = cc in apart here; within = omega arith }

pub evicted-gives_way : (g : GeometryFields) (h : List Place) (a : Act) (y : ℕ) → evicted g h a ≡ Some y → GivesWay g h (table_of g h (command_of a)).target y
unfolding evicted
evicted-gives_way g h a y e =
    let t = table_of g h (command_of a) in
    evictable-gives_way g h t.target y (some_of (wants_room g (counts g h) (judging_rows t) t.need) (evictable g h t.target) y e).1

pub is_zone-some : (z : ℕ) (o : Option ℕ) → is_zone z o ≡ true → o ≡ Some z
is_zone-some z None e = absurd cc
is_zone-some z (Some y) e = ap Some (eqb-true y z e)

-- ---- why a deed is done

-- The command goes to the zone, or to every zone whose state takes the deed, or the zone gives way.
pub data Cause (g : GeometryFields) (h : List Place) (a : Act) (z : ℕ) (d : Deed) : Type 0 where
  by_aim : (aim : Aim) → aim_of g (command_of a) ≡ Some aim → aim.zone ≡ z → aim.deed ≡ d → Cause g h a z d
  by_sweep : aim_of g (command_of a) ≡ None → sweep_of (command_of a) ≡ Some d → takes_all d (state g h z) ≡ true → Cause g h a z d
  by_close : d ≡ deed.Close → is_implicitly_opened (state g h z) ≡ true → Cause g h a z d

swept-parts : (o : Option Deed) (s : State) (d : Deed) → swept o s ≡ Some d → (o ≡ Some d) × (takes_all d s ≡ true)
swept-parts None s d e = absurd (cc e)
swept-parts (Some x) s d e = let is = some_if (takes_all x s) x d e in (ap Some is.1, ap (λ (y : Deed). takes_all y s) (sym is.1) ∙ is.0)

commanded-cause : (g : GeometryFields) (h : List Place) (a : Act) (z : ℕ) (d : Deed) → commanded g h (command_of a) z ≡ Some d → Cause g h a z d
commanded-cause g h a z d = of_aim (aim_of g (command_of a)) refl
  where
    of_aim : (o : Option Aim) → aim_of g (command_of a) ≡ o → commanded_by g h (command_of a) o z ≡ Some d → Cause g h a z d
    of_aim (Some aim) e is = let parts = some_if (aim.zone == z) aim.deed d is in by_aim aim e (eqb-true _ _ parts.0) parts.1
    of_aim None e is = let parts = swept-parts (sweep_of (command_of a)) (state g h z) d is in by_sweep e parts.0 parts.1

pub record HasCause (g : GeometryFields) (h : List Place) (a : Act) (z : ℕ) (d : Deed) : Type 0 where
  pub ok : is_success (status g h a) ≡ true
  pub cause : Cause g h a z d

pub deed-cause : (g : GeometryFields) (h : List Place) (a : Act) (z : ℕ) (d : Deed) → zone_deed g h a z ≡ Some d → HasCause g h a z d
unfolding zone_deed
deed-cause g h a z d e =
    let parts = some_of (is_success (status g h a)) (or_close (commanded g h (command_of a) z) (is_zone z (evicted g h a))) d e in
    record { ok = parts.0; cause = of_command (commanded g h (command_of a) z) refl parts.1 }
  where
    of_command : (o : Option Deed) → commanded g h (command_of a) z ≡ o → or_close o (is_zone z (evicted g h a)) ≡ Some d → Cause g h a z d
    of_command (Some x) e is = commanded-cause g h a z d (e ∙ is)
    of_command None e is =
        let closes = some_if (is_zone z (evicted g h a)) deed.Close d is in
        by_close (sym closes.1) (evicted-gives_way g h a z (is_zone-some z (evicted g h a) closes.0)).opened

-- ---- every deed is admitted

no_blocks : (d : Deed) → is_write d ≡ false → is_write d ≡ true → 1 ≤ blocks_of d
no_blocks d none write = absurd (cc (none, write))

-- The zone admits what an act does to it.
pub admitted : (g : GeometryFields) (h : List Place) (a : Act) (z : ℕ) (d : Deed) → zone_deed g h a z ≡ Some d → IsAdmitted g (deeds h z) d
admitted g h a z d e = let why = deed-cause g h a z d e in of_cause why.ok why.cause
  where
    of_cause : is_success (status g h a) ≡ true → Cause g h a z d → IsAdmitted g (deeds h z) d
    of_cause ok (by_aim aim is here same) =
        let own = (aim-passes g h a aim ok is).own in
        let there : Admits g (zone g h z) aim.deed = subst (λ (y : ℕ). Admits g (zone g h y) aim.deed) here own in
        record { rows = subst (λ (x : Deed). Admits g (zone g h z) x) same there; some = subst (λ (x : Deed). is_write x ≡ true → 1 ≤ blocks_of x) same (aim-blocks g (command_of a) aim (some_blocks a) is) }
    of_cause ok (by_sweep none is taken) = record { rows = sweep-admits g (command_of a) d (zone g h z) (success-front g h a ok) is taken; some = no_blocks d (sweep-no_write (command_of a) d is) }
    of_cause ok (by_close is opened) = record {
      rows = subst (λ (x : Deed). Admits g (zone g h z) x) (sym is) (close_admits g (zone g h z) opened);
      some = no_blocks d (ap is_write is);
    }

admitted-step : (g : GeometryFields) (h : List Place) (a : Act) (z : ℕ) → AreAdmitted g (deeds h z) → AreAdmitted g (deeds (and_then g h a) z)
admitted-step g h a z before = by_deed (zone_deed g h a z) refl
  where
    by_deed : (o : Option Deed) → zone_deed g h a z ≡ o → AreAdmitted g (deeds (and_then g h a) z)
    by_deed None e = subst (AreAdmitted g) (sym (deeds-idle g h a z e)) before
    by_deed (Some d) e = subst (AreAdmitted g) (sym (deeds-done g h a z d e)) (admitted g h a z d e, before)

admitted_back : (g : GeometryFields) (acts : List Act) (z : ℕ) → AreAdmitted g (deeds (answered_back g acts) z)
unfolding answered_back deeds
admitted_back g [] z = tt
admitted_back g (a ∷ acts) z = admitted-step g (answered_back g acts) a z (admitted_back g acts z)

-- Every deed of a history was admitted by its zone.
pub all_admitted : (g : GeometryFields) (acts : List Act) (z : ℕ) → AreAdmitted g (deeds (answered g acts) z)
unfolding answered
all_admitted g acts z = admitted_back g (reverse acts) z
