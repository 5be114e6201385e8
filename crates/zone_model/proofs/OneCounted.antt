-- The resources that the zones use in total after an act.
use Rattle.std.proofs.Common.{◌≡◌, ◌≢◌, ℕ, ◌<◌, true, List, Option, Some, None, refl, sym, ap, ◌∙◌}
use Rattle.std.proofs.lemmas.Bool.{eq-eqb, ne_eqb}
use Rattle.zns_types.specs.declared.fields.GeometryFields.{GeometryFields}
use Rattle.zns_types.specs.States.{is_implicitly_opened}
use Rattle.zns_types.specs.Statuses.{is_success}
use Rattle.drive_rules.specs.declared.deed.Deed.TheVariants as deed
use Rattle.drive_rules.specs.declared.aim.Aim.{Aim}
use Rattle.drive_rules.specs.Deeds.{use_of, closed_use}
use Rattle.drive_rules.specs.Aims.{aim_of}
use Rattle.zone_limits.specs.declared.limits.Need.{Need}
use Rattle.zone_limits.specs.Resources.{recounted}
use Rattle.zone_history.specs.Histories.{Done, sight_of}
use Rattle.zone_history.proofs.Needs.{closed}
use Rattle.zone_model.specs.declared.act.Act.{Act}
use Rattle.zone_model.specs.Places.{Place, command_of, deeds}
use Rattle.zone_model.specs.Zones.{state, uses, counts}
use Rattle.zone_model.specs.Answers.{status, evicted, is_zone, or_close, zone_deed, and_then}
use Rattle.zone_model.specs.Counting.{after_close}
use Rattle.zone_model.proofs.Counts.{counted-same, counted-set, counted-set_two}
use Rattle.zone_model.proofs.Deeds.{deeds-idle, deeds-done, done_by, deed-success, GivesWay, evicted-gives_way}

-- ---- one zone

pub uses-idle : (g : GeometryFields) (h : List Place) (a : Act) (z : ℕ) → zone_deed g h a z ≡ None → uses g (and_then g h a) z ≡ uses g h z
uses-idle g h a z none = ap (λ (ds : List Done). use_of (sight_of g ds)) (deeds-idle g h a z none)

pub uses-closed : (g : GeometryFields) (h : List Place) (a : Act) (z : ℕ) → zone_deed g h a z ≡ Some deed.Close → is_implicitly_opened (state g h z) ≡ true → uses g (and_then g h a) z ≡ closed_use (uses g h z)
uses-closed g h a z close implicit = ap (λ (ds : List Done). use_of (sight_of g ds)) (deeds-done g h a z deed.Close close) ∙ closed g (deeds h z) (done_by a deed.Close) refl implicit

-- An act that does nothing to any zone leaves the counts unchanged.
pub idle_is_uncounted : (g : GeometryFields) (h : List Place) (a : Act) → ((z : ℕ) → zone_deed g h a z ≡ None) → counts g (and_then g h a) ≡ counts g h
idle_is_uncounted g h a none = counted-same g (uses g h) (uses g (and_then g h a)) (λ z lt. uses-idle g h a z (none z))

-- ---- an act with an aim

pub aim-gives_way : (g : GeometryFields) (h : List Place) (a : Act) (aim : Aim) (z : ℕ) → aim_of g (command_of a) ≡ Some aim → evicted g h a ≡ Some z → GivesWay g h (Some aim.zone) z
aim-gives_way g h a aim z is e = rw is at (evicted-gives_way g h a z e)

pub deed-other : (g : GeometryFields) (h : List Place) (a : Act) (aim : Aim) (z : ℕ) → aim_of g (command_of a) ≡ Some aim → is_success (status g h a) ≡ true → z ≢ aim.zone
    → zone_deed g h a z ≡ or_close None (is_zone z (evicted g h a))
deed-other g h a aim z is ok other =
    deed-success g h a z ok ∙ rw is (rw (ne_eqb aim.zone z (λ same. other (sym same))) refl)

pub deed-aim : (g : GeometryFields) (h : List Place) (a : Act) (aim : Aim) → aim_of g (command_of a) ≡ Some aim → is_success (status g h a) ≡ true → zone_deed g h a aim.zone ≡ Some aim.deed
deed-aim g h a aim is ok = deed-success g h a aim.zone ok ∙ rw is (rw (eq-eqb aim.zone aim.zone refl) refl)

pub deed-evicted : (g : GeometryFields) (h : List Place) (a : Act) (aim : Aim) (z : ℕ) → aim_of g (command_of a) ≡ Some aim → is_success (status g h a) ≡ true → evicted g h a ≡ Some z → zone_deed g h a z ≡ Some deed.Close
deed-evicted g h a aim z is ok e = deed-other g h a aim z is ok ((aim-gives_way g h a aim z is e).other aim.zone refl) ∙ rw (e, eq-eqb z z refl) refl

-- An act that does a deed to one zone first closes the zone that gives way, and then counts what its own zone uses.
pub one_is_counted : (g : GeometryFields) (h : List Place) (a : Act) (aim : Aim) → aim_of g (command_of a) ≡ Some aim → aim.zone < g.zones → is_success (status g h a) ≡ true
    → counts g (and_then g h a) ≡ recounted (uses g h aim.zone) (uses g (and_then g h a) aim.zone) (after_close g h (evicted g h a) (counts g h))
one_is_counted g h a aim is lt ok = by_evicted (evicted g h a) refl
  where
    by_evicted : (o : Option ℕ) → evicted g h a ≡ o → counts g (and_then g h a) ≡ recounted (uses g h aim.zone) (uses g (and_then g h a) aim.zone) (after_close g h o (counts g h))
    by_evicted None e = counted-set g (uses g h) (uses g (and_then g h a)) aim.zone lt (λ z other. uses-idle g h a z (deed-other g h a aim z is ok other ∙ rw e refl))
    by_evicted (Some y) e =
        let gives = aim-gives_way g h a aim y is e in
        let closed_one = uses-closed g h a y (deed-evicted g h a aim y is ok e) gives.opened in
        counted-set_two g (uses g h) (uses g (and_then g h a)) y aim.zone (gives.other aim.zone refl) gives.within lt
        (λ z off_y off_t. uses-idle g h a z (deed-other g h a aim z is ok off_t ∙ rw (e, ne_eqb y z (λ same. off_y (sym same))) refl))
        ∙ ap (λ (u : Need). recounted (uses g h aim.zone) (uses g (and_then g h a) aim.zone) (recounted (uses g h y) u (counts g h))) closed_one
