-- The counts stay within their limits.
use Rattle.std.proofs.Common.{◌≡◌, ◌≢◌, ℕ, ◌+◌, ◌<◌, ◌≤◌, Bool, true, false, cond, List, [], ◌∷◌, ◌++◌, Option, Some, None, refl, sym, ap, ◌∙◌, subst, arith, inl, inr}
use Rattle.std.specs.Prelude.{◌==◌, ◌&&◌, ◌⊎◌, not, nat_lt, nat_le, is_some, reverse}
use Rattle.std.proofs.lemmas.Bool.{both_ways, and_cases, or_parts, not-false, eqb-true, leb-false, ltb-false}
use Rattle.std.proofs.lemmas.List.{reverse-reverse}
use Rattle.zns_types.specs.declared.fields.GeometryFields.{GeometryFields}
use Rattle.zns_types.specs.declared.state.State.{State}
use Rattle.zns_types.specs.declared.state.State.TheVariants.{ImplicitlyOpened, Closed}
use Rattle.zns_types.specs.States.{is_closed, is_opened, is_implicitly_opened}
use Rattle.zns_types.specs.Geometry.{IsGeometry}
use Rattle.zns_types.specs.Statuses.{is_success}
use Rattle.zns_types.specs.Rows.{first_holding}
use Rattle.zns_types.proofs.RowLemmas.{NoneHolds, none_holds, first_holding-append_none}
use Rattle.sqe_codec.specs.declared.cmd.Cmd.{Cmd}
use Rattle.sqe_codec.specs.declared.cmd.Cmd.TheVariants as cmd
use Rattle.zone_limits.specs.declared.limits.Limits.{Limits}
use Rattle.zone_limits.specs.declared.limits.Need.{Need}
use Rattle.zone_limits.specs.Resources.{at_limit, no_need, no_active_left, need_rows, evicts, IsWithin, AreWithin}
use Rattle.drive_rules.specs.declared.deed.Deed.{Deed}
use Rattle.drive_rules.specs.declared.deed.Deed.TheVariants as deed
use Rattle.drive_rules.specs.declared.aim.Aim.{Aim}
use Rattle.drive_rules.specs.ZoneRows.{Zone}
use Rattle.drive_rules.specs.Deeds.{need_for, takes_all, asks_window}
use Rattle.drive_rules.specs.Aims.{aim_of, sweep_of, sent_deed, open_code, commit_code}
use Rattle.drive_rules.specs.Tables.{Table, judging_rows, wants_room, front_rows, open_all_rows}
use Rattle.drive_rules.specs.Shown.{one}
use Rattle.zone_history.specs.Histories.{state_of, window_of}
use Rattle.zone_history.specs.Admitted.{AreAdmitted}
use Rattle.zone_history.proofs.Needs.{WasOrNeeded, covered}
use Rattle.zone_model.specs.declared.act.Act.{Act}
use Rattle.zone_model.specs.Places.{Place, command_of, deeds}
use Rattle.zone_model.specs.Zones.{state, zone, counted, uses, counts, closed_zones}
use Rattle.zone_model.specs.Answers.{status, own_rows, table_by, evictable, evicted, swept, or_close, zone_deed, and_then, answered_back, answered}
use Rattle.zone_model.proofs.Ranges.{count_below, count-le, count-le_but, count-le_both, count-le_swap, count-le_all, count-none}
use Rattle.zone_model.proofs.OneCounted.{aim-gives_way, deed-other, deed-aim, deed-evicted, uses-idle, uses-closed, idle_is_uncounted}
use Rattle.zone_model.proofs.Passing.{Passes, success-passes, aim-passes}
use Rattle.zone_model.proofs.Fronts.{send_front-passes}
use Rattle.zone_model.proofs.Sends.{sent-holds}
use Rattle.zone_model.proofs.Deeds.{deeds-done, done_by, deed-refused, deed-success, admitted, all_admitted}

-- ---- limits

-- a count that grows by at most one, where one is needed, stays within its limit if one is left
more_within : (limit old new : ℕ) (needed : Bool) → (needed && at_limit limit old) ≡ false → IsWithin limit old → new ≤ old + one needed → IsWithin limit new
more_within limit old new false left was le some = let within = was some in omega arith
more_within limit old new true left was le some = by_case (and_cases (not (limit == 0)) (nat_le limit old) left)
  where
    by_case : (not (limit == 0) ≡ false) ⊎ (nat_le limit old ≡ false) → new ≤ limit
    by_case (inl none) = let zero_limit = eqb-true limit 0 (not-false _ none) in absurd (omega arith)
    by_case (inr low) = let below = leb-false limit old low in omega arith

more_windows : (limit old new : ℕ) (needed : Bool) → (needed && nat_le limit old) ≡ false → old ≤ limit → new ≤ old + one needed → new ≤ limit
more_windows limit old new false left was le = omega arith
more_windows limit old new true left was le = let below = leb-false limit old left in omega arith

-- a count that grows by at most `more` stays within its limit if there is room for them
all_within : (limit old more new : ℕ) → (not (limit == 0) && nat_lt limit (old + more)) ≡ false → new ≤ old + more → IsWithin limit new
all_within limit old more new room le some = by_case (and_cases (not (limit == 0)) (nat_lt limit (old + more)) room)
  where
    by_case : (not (limit == 0) ≡ false) ⊎ (nat_lt limit (old + more) ≡ false) → new ≤ limit
    by_case (inl none) = let zero_limit = eqb-true limit 0 (not-false _ none) in absurd (omega arith)
    by_case (inr low) = let le_limit = ltb-false limit (old + more) low in omega arith

-- ---- one zone

-- the resources that a zone needs for what is done to it
abbrev needed : Option Deed → Zone → Need
needed None zone = no_need
needed (Some d) zone = need_for d zone

-- whatever is used afterwards was used before or is needed
pub record TakesNeeded (before need after : Need) : Type 0 where
  pub active : one after.active ≤ one before.active + one need.active
  pub opened : one after.opened ≤ one before.opened + one need.opened
  pub window : one after.window ≤ one before.window + one need.window

takes-none : (u : Need) → TakesNeeded u no_need u
takes-none u = record { active = omega arith; opened = omega arith; window = omega arith }

takes-one : (used was need : Bool) → WasOrNeeded used was need → one used ≤ one was + one need
takes-one false was need k = omega arith
takes-one true was need k = elim (k refl) [ inl before ↦ omega (arith, ap one before) | inr needs ↦ omega (arith, ap one needs) ]

zone-takes : (g : GeometryFields) (h : List Place) (a : Act) (z : ℕ) → IsGeometry g → AreAdmitted g (deeds h z) → TakesNeeded (uses g h z) (needed (zone_deed g h a z) (zone g h z)) (uses g (and_then g h a) z)
zone-takes g h a z is before = by_deed (zone_deed g h a z) refl
  where
    by_deed : (o : Option Deed) → zone_deed g h a z ≡ o → TakesNeeded (uses g h z) (needed o (zone g h z)) (uses g (and_then g h a) z)
    by_deed None e = subst (λ (u : Need). TakesNeeded (uses g h z) no_need u) (sym (uses-idle g h a z e)) (takes-none _)
    by_deed (Some d) e =
        let is_covered = covered g (deeds h z) (done_by a d) is (admitted g h a z d e, before) in
        rw (deeds-done g h a z d e) (record { active = takes-one _ _ _ is_covered.active; opened = takes-one _ _ _ is_covered.opened; window = takes-one _ _ _ is_covered.window })

-- ---- an act with an aim

-- the new counts are at most the old ones and what is needed
pub record Grows (old : Limits) (need : Need) (new : Limits) : Type 0 where
  pub active : new.active ≤ old.active + one need.active
  pub opened : new.opened ≤ old.opened + one need.opened
  pub windows : new.windows ≤ old.windows + one need.window

counted-grows : (g : GeometryFields) (old new : ℕ → Need) (t : ℕ) (need : Need) → ((z : ℕ) → z ≢ t → TakesNeeded (old z) no_need (new z)) → TakesNeeded (old t) need (new t) → Grows (counted g old) need (counted g new)
unfolding counted
counted-grows g old new t need others here = record {
  active = count-le_but (λ x. (new x).active) (λ x. (old x).active) t (one need.active) g.zones (λ x other. omega (arith, (others x other).active)) here.active;
  opened = count-le_but (λ x. (new x).opened) (λ x. (old x).opened) t (one need.opened) g.zones (λ x other. omega (arith, (others x other).opened)) here.opened;
  windows = count-le_but (λ x. (new x).window) (λ x. (old x).window) t (one need.window) g.zones (λ x other. omega (arith, (others x other).window)) here.window;
}

-- closing one zone for another leaves no more zones open
opened-swap : (g : GeometryFields) (old new : ℕ → Need) (y t : ℕ) → y < g.zones → (old y).opened ≡ true → (new y).opened ≡ false → ((z : ℕ) → z ≢ t → TakesNeeded (old z) no_need (new z)) → (counted g new).opened ≤ (counted g old).opened
unfolding counted
opened-swap g old new y t lt was gone others = count-le_swap (λ x. (new x).opened) (λ x. (old x).opened) y t g.zones lt was gone (λ x other. omega (arith, (others x other).opened))

within-from : (g : GeometryFields) (used : ℕ → Need) → IsWithin g.active_limit (counted g used).active → IsWithin g.open_limit (counted g used).opened → (counted g used).windows ≤ g.windows → AreWithin g (counted g used)
unfolding counted
within-from g used active opened windows = record {
  active = active;
  opened = opened;
  windows = windows;
  active_zones = count-le_all (λ x. (used x).active) g.zones;
  opened_zones = count-le_all (λ x. (used x).opened) g.zones;
  window_zones = count-le_all (λ x. (used x).window) g.zones;
}

none_left : (needs full : Bool) (o : Option ℕ) → (needs && full && not (is_some o)) ≡ false → o ≡ None → (needs && full) ≡ false
none_left false full o e none = refl
none_left true false o e none = refl
none_left true true None e none = e
none_left true true (Some y) e none = absurd (cc none)

-- if a row that would make another zone give way passes, and none gives way, there is room
open_left : (g : GeometryFields) (h : List Place) (a : Act) (aim : Aim) → aim_of g (command_of a) ≡ Some aim → Passes g h (table_by g h (command_of a) (Some aim)) → evicted g h a ≡ None
    → evicts g (counts g h) (need_for aim.deed (zone g h aim.zone)) ≡ false
unfolding evicted
open_left g h a aim is passes none = by_evicts (evicts g (counts g h) table.need) refl
  where
    table : Table
    table = table_by g h (command_of a) (Some aim)

    by_evicts : (b : Bool) → evicts g (counts g h) table.need ≡ b → b ≡ false
    by_evicts false e = refl
    by_evicts true e =
        let fails = none_holds (need_rows g (counts g h) table.need (is_some (evictable g h table.target))) passes.needs in
        let judged : first_holding (judging_rows table ++ no_active_left g (counts g h) table.need ∷ []) ≡ None =
        first_holding-append_none (judging_rows table) _ (first_holding-append_none table.front table.own passes.front ∙ passes.own) ∙ rw fails.0 refl in
        let wants : wants_room g (counts g h) (judging_rows table) table.need ≡ true = rw (judged, e) refl in
        let gone : evictable g h table.target ≡ None = rw wants at (rw is at none) in
        sym e ∙ none_left table.need.opened (at_limit g.open_limit (counts g h).opened) (evictable g h table.target) fails.1.0 gone

implicit-opened : (s : State) → is_implicitly_opened s ≡ true → is_opened s ≡ true
implicit-opened ImplicitlyOpened e = refl
implicit-opened _ e = absurd (cc e)

aim-within : (g : GeometryFields) (h : List Place) (a : Act) (aim : Aim) → ((z : ℕ) → TakesNeeded (uses g h z) (needed (zone_deed g h a z) (zone g h z)) (uses g (and_then g h a) z)) → aim_of g (command_of a) ≡ Some aim
    → is_success (status g h a) ≡ true → Passes g h (table_by g h (command_of a) (Some aim)) → AreWithin g (counts g h) → AreWithin g (counts g (and_then g h a))
aim-within g h a aim zones is ok passes was =
    within-from g (uses g (and_then g h a))
    (more_within g.active_limit _ _ need.active fails.0 was.active grows.active)
    (by_evicted (evicted g h a) refl)
    (more_windows g.windows _ _ need.window fails.1.1.0 was.windows grows.windows)
  where
    need : Need
    need = need_for aim.deed (zone g h aim.zone)

    fails : NoneHolds (need_rows g (counts g h) need (is_some (evictable g h (Some aim.zone))))
    fails = none_holds (need_rows g (counts g h) need (is_some (evictable g h (Some aim.zone)))) passes.needs

    close-needs : (evicts : Bool) (z : Zone) → needed (or_close None evicts) z ≡ no_need
    close-needs true z = refl
    close-needs false z = refl

    others : (z : ℕ) → z ≢ aim.zone → TakesNeeded (uses g h z) no_need (uses g (and_then g h a) z)
    others z other = subst (λ (n : Need). TakesNeeded (uses g h z) n (uses g (and_then g h a) z)) (ap (λ (o : Option Deed). needed o (zone g h z)) (deed-other g h a aim z is ok other) ∙ close-needs _ _) (zones z)

    here : TakesNeeded (uses g h aim.zone) need (uses g (and_then g h a) aim.zone)
    here = subst (λ (o : Option Deed). TakesNeeded (uses g h aim.zone) (needed o (zone g h aim.zone)) (uses g (and_then g h a) aim.zone)) (deed-aim g h a aim is ok) (zones aim.zone)

    grows : Grows (counts g h) need (counts g (and_then g h a))
    grows = counted-grows g (uses g h) (uses g (and_then g h a)) aim.zone need others here

    by_evicted : (o : Option ℕ) → evicted g h a ≡ o → IsWithin g.open_limit (counts g (and_then g h a)).opened
    by_evicted None e = more_within g.open_limit _ _ need.opened (open_left g h a aim is passes e) was.opened grows.opened
    by_evicted (Some y) e =
        let gives = aim-gives_way g h a aim y is e in
        let gone = ap (λ (u : Need). u.opened) (uses-closed g h a y (deed-evicted g h a aim y is ok e) gives.opened) in
        let le = opened-swap g (uses g h) (uses g (and_then g h a)) y aim.zone gives.within (implicit-opened _ gives.opened) gone others in
        more_within g.open_limit _ _ false refl was.opened (omega arith)

-- ---- an act that goes to all zones, or to none

-- the deed is an Open
abbrev opens_all : Option Deed → Bool
opens_all (Some (deed.Open window)) = true
opens_all _ = false

abbrev asks_all : Option Deed → Bool
asks_all None = false
asks_all (Some d) = asks_window d

-- An Open of all zones asks for no random write area, and has room for all Closed zones.
pub record HasRoomForAll (g : GeometryFields) (n : Limits) (closed : ℕ) (o : Option Deed) : Type 0 where
  pub windowless : asks_all o ≡ false
  pub room : opens_all o ≡ true → first_holding (open_all_rows g n closed) ≡ None

room_for_all : (g : GeometryFields) (h : List Place) (k : Cmd) → first_holding (front_rows g k) ≡ None → first_holding (own_rows g h k) ≡ None → HasRoomForAll g (counts g h) (closed_zones g h) (sweep_of k)
room_for_all g h (cmd.Send nsid slba act true option) front own = by_deed (sent_deed act option 0) refl
  where
    none_opened : (o : Option Deed) → asks_all o ≡ false → opens_all o ≡ false → HasRoomForAll g (counts g h) (closed_zones g h) o
    none_opened o windowless none = record { windowless = windowless; room = λ opens. absurd (both_ways _ none opens) }

    no_window : (act == open_code) ≡ true → option ≡ false
    no_window is = rw is at (or_parts (act == commit_code) ((act == open_code) && option) (send_front-passes g nsid slba act true option front).not_for_all).1

    by_deed : (o : Option Deed) → sent_deed act option 0 ≡ o → HasRoomForAll g (counts g h) (closed_zones g h) o
    by_deed None e = none_opened None refl refl
    by_deed (Some d) e =
        sent-holds (λ x. HasRoomForAll g (counts g h) (closed_zones g h) (Some x)) act option 0 d
        (record {
          close = none_opened _ refl refl;
          finish = none_opened _ refl refl;
          opens = λ is. record { windowless = no_window is; room = λ opens. rw is at own };
          reset = none_opened _ refl refl;
          offline = none_opened _ refl refl;
          commit = none_opened _ refl refl;
        })
        e
room_for_all g h (cmd.Send nsid slba act false option) front own = record { windowless = refl; room = λ e. absurd (cc e) }
room_for_all g h _ front own = record { windowless = refl; room = λ e. absurd (cc e) }

-- a sweep needs only open resources, and only for Closed zones
pub record NeedsOpened (need : Need) (closed : Bool) : Type 0 where
  pub active : need.active ≡ false
  pub opened : one need.opened ≤ one closed
  pub window : need.window ≡ false

none-needed : (b : Bool) (d : Deed) (z : Zone) → need_for d z ≡ no_need → needed (cond b (Some d) None) z ≡ no_need
none-needed true d z none = none
none-needed false d z none = refl

needs-none : (need : Need) (closed : Bool) → need ≡ no_need → NeedsOpened need closed
needs-none need closed none = rw none (record { active = refl; opened = omega arith; window = refl })

swept-open : (asks window : Bool) (s : State) (pointer : ℕ) → asks ≡ false → NeedsOpened (needed (swept (Some (deed.Open asks)) s) (record { state = s; window = window; pointer = pointer })) (is_closed s)
swept-open asks window Closed pointer windowless = record { active = refl; opened = omega arith; window = rw windowless refl }
swept-open asks window _ pointer windowless = record { active = refl; opened = omega arith; window = refl }

swept-need : (o : Option Deed) (z : Zone) → asks_all o ≡ false → NeedsOpened (needed (swept o z.state) z) (opens_all o && is_closed z.state)
swept-need None z windowless = needs-none no_need false refl
swept-need (Some (deed.Open asks)) z windowless = swept-open asks z.window z.state z.pointer windowless
swept-need (Some deed.Close) z windowless = needs-none _ false (none-needed (takes_all deed.Close z.state) deed.Close z refl)
swept-need (Some deed.Finish) z windowless = needs-none _ false (none-needed (takes_all deed.Finish z.state) deed.Finish z refl)
swept-need (Some deed.Reset) z windowless = needs-none _ false (none-needed (takes_all deed.Reset z.state) deed.Reset z refl)
swept-need (Some deed.Offline) z windowless = needs-none _ false (none-needed (takes_all deed.Offline z.state) deed.Offline z refl)
swept-need (Some _) z windowless = needs-none no_need false refl

pub record GrowsByOpened (old : Limits) (more : ℕ) (new : Limits) : Type 0 where
  pub active : new.active ≤ old.active
  pub opened : new.opened ≤ old.opened + more
  pub windows : new.windows ≤ old.windows

counted-swept : (g : GeometryFields) (old need new : ℕ → Need) (closed : ℕ → Bool) → ((z : ℕ) → TakesNeeded (old z) (need z) (new z)) → ((z : ℕ) → NeedsOpened (need z) (closed z)) → GrowsByOpened (counted g old) (count_below closed g.zones) (counted g new)
unfolding counted
counted-swept g old need new closed grow needs = record {
  active = count-le (λ x. (new x).active) (λ x. (old x).active) g.zones (λ x lt. omega (arith, (grow x).active, ap one (needs x).active));
  opened = count-le_both (λ x. (new x).opened) (λ x. (old x).opened) closed g.zones (λ x lt. omega (arith, (grow x).opened, (needs x).opened));
  windows = count-le (λ x. (new x).window) (λ x. (old x).window) g.zones (λ x lt. omega (arith, (grow x).window, ap one (needs x).window));
}

or_close-none : (o : Option Deed) → or_close o false ≡ o
or_close-none None = refl
or_close-none (Some d) = refl

none_gives_way : (g : GeometryFields) (h : List Place) (a : Act) → aim_of g (command_of a) ≡ None → evicted g h a ≡ None
unfolding evicted
none_gives_way g h a is = rw is (either _ None)
  where
    either : (b : Bool) (o : Option ℕ) → cond b o o ≡ o
    either true o = refl
    either false o = refl

deed-swept : (g : GeometryFields) (h : List Place) (a : Act) (z : ℕ) → is_success (status g h a) ≡ true → aim_of g (command_of a) ≡ None → zone_deed g h a z ≡ swept (sweep_of (command_of a)) (state g h z)
deed-swept g h a z ok is = deed-success g h a z ok ∙ rw (none_gives_way g h a is, is) (or_close-none _)

sweep-within : (g : GeometryFields) (h : List Place) (a : Act) (o : Option Deed) → ((z : ℕ) → TakesNeeded (uses g h z) (needed (swept o (state g h z)) (zone g h z)) (uses g (and_then g h a) z)) → HasRoomForAll g (counts g h) (closed_zones g h) o → AreWithin g (counts g h)
    → AreWithin g (counts g (and_then g h a))
unfolding closed_zones
sweep-within g h a o zones all was =
    within-from g (uses g (and_then g h a))
    (more_within g.active_limit (counts g h).active _ false refl was.active (omega (arith, grows.active)))
    (by_opens (opens_all o) refl)
    (more_windows g.windows (counts g h).windows _ false refl was.windows (omega (arith, grows.windows)))
  where
    grows : GrowsByOpened (counts g h) (count_below (λ z. opens_all o && is_closed (state g h z)) g.zones) (counts g (and_then g h a))
    grows = counted-swept g (uses g h) (λ z. needed (swept o (state g h z)) (zone g h z)) (uses g (and_then g h a)) (λ z. opens_all o && is_closed (state g h z)) zones (λ z. swept-need o (zone g h z) all.windowless)

    same : (b : Bool) → opens_all o ≡ b → count_below (λ z. opens_all o && is_closed (state g h z)) g.zones ≡ count_below (λ z. b && is_closed (state g h z)) g.zones
    same b e = ap (λ (x : Bool). count_below (λ z. x && is_closed (state g h z)) g.zones) e

    by_opens : (b : Bool) → opens_all o ≡ b → IsWithin g.open_limit (counts g (and_then g h a)).opened
    by_opens true e =
        let fails = none_holds (open_all_rows g (counts g h) (closed_zones g h)) (all.room e) in
        all_within g.open_limit (counts g h).opened (closed_zones g h) _ fails.0 (omega (arith, grows.opened, same true e))
    by_opens false e = more_within g.open_limit (counts g h).opened _ false refl was.opened (omega (arith, grows.opened, same false e, count-none g.zones))

-- ---- every history

within-step : (g : GeometryFields) (h : List Place) (a : Act) → IsGeometry g → ((z : ℕ) → AreAdmitted g (deeds h z)) → AreWithin g (counts g h) → AreWithin g (counts g (and_then g h a))
within-step g h a geometry before was = by_status (is_success (status g h a)) refl
  where
    zones : (z : ℕ) → TakesNeeded (uses g h z) (needed (zone_deed g h a z) (zone g h z)) (uses g (and_then g h a) z)
    zones z = zone-takes g h a z geometry (before z)

    by_aim : is_success (status g h a) ≡ true → (o : Option Aim) → aim_of g (command_of a) ≡ o → AreWithin g (counts g (and_then g h a))
    by_aim ok (Some aim) is = aim-within g h a aim zones is ok (aim-passes g h a aim ok is) was
    by_aim ok None is =
        let passes : Passes g h (table_by g h (command_of a) None) = rw is at (success-passes g h a ok) in
        sweep-within g h a (sweep_of (command_of a)) (λ z. rw (deed-swept g h a z ok is) at (zones z)) (room_for_all g h (command_of a) passes.front passes.own) was

    by_status : (b : Bool) → is_success (status g h a) ≡ b → AreWithin g (counts g (and_then g h a))
    by_status true ok = by_aim ok (aim_of g (command_of a)) refl
    by_status false refused = rw (idle_is_uncounted g h a (λ z. deed-refused g h a z refused)) was

within-none : (g : GeometryFields) → AreWithin g (counts g [])
unfolding counted deeds state_of window_of
within-none g =
    within-from g (uses g []) (λ some. omega (arith, count-none g.zones)) (λ some. omega (arith, count-none g.zones)) (omega (arith, count-none g.zones))

admitted-back : (g : GeometryFields) (acts : List Act) (z : ℕ) → AreAdmitted g (deeds (answered_back g acts) z)
unfolding answered
admitted-back g acts z = subst (λ (past : List Act). AreAdmitted g (deeds (answered_back g past) z)) (reverse-reverse acts) (all_admitted g (reverse acts) z)

within-back : (g : GeometryFields) → IsGeometry g → (acts : List Act) → AreWithin g (counts g (answered_back g acts))
unfolding answered_back
within-back g is [] = within-none g
within-back g is (a ∷ acts) = within-step g (answered_back g acts) a is (admitted-back g acts) (within-back g is acts)

pub within_limits : (g : GeometryFields) → IsGeometry g → (acts : List Act) → AreWithin g (counts g (answered g acts))
unfolding answered
within_limits g is acts = within-back g is (reverse acts)
