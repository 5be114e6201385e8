-- A resource that a zone uses after a deed that its rows admit, but not before it, is one that the deed needs.
use Rattle.std.proofs.Common.{◌≡◌, ℕ, Bool, IsTrue, true, false, List, None, Result, Ok, Err, refl}
use Rattle.std.specs.Prelude.{◌&&◌, ◌||◌, not, is_ok, if◌then◌else◌}
use Rattle.std.proofs.lemmas.Bool.{and_parts, not-false}
use Rattle.zns_types.specs.declared.fields.GeometryFields.{GeometryFields}
use Rattle.zns_types.specs.declared.state.State.{State}
use Rattle.zns_types.specs.declared.state.State.TheVariants.{Empty, ImplicitlyOpened, ExplicitlyOpened, Closed, ReadOnly, Full, Offline}
use Rattle.zns_types.specs.States.{is_empty, is_closed, is_active, is_opened}
use Rattle.zns_types.specs.Rows.{first_holding}
use Rattle.zns_types.specs.Statuses.{Status}
use Rattle.zns_types.proofs.RowLemmas.{none_holds}
use Rattle.zone_state.specs.declared.action.Action.TheVariants as action
use Rattle.zone_state.specs.Transitions.{go, after, refused, controller_finishes, finish_recommended, reset_recommended, turns_read_only, turns_offline, excursion}
use Rattle.zone_limits.specs.declared.limits.Limits.{Limits}
use Rattle.zone_limits.specs.declared.limits.Need.{Need}
use Rattle.drive_rules.specs.declared.deed.Deed.{Deed}
use Rattle.drive_rules.specs.declared.deed.Deed.TheVariants as deed
use Rattle.drive_rules.specs.ZoneRows.{Zone, write_rows, append_rows, open_rows, commit_rows}
use Rattle.drive_rules.specs.Deeds.{opens, need_for, Admits}
use Rattle.zone_cell.specs.Cells.{Cell, IsOf, TakesWrites, sight}
use Rattle.zone_cell.specs.Deeds.{after_deed}
use Rattle.zone_room.specs.Using.{HasNeeded, HasRoomFor}
use Rattle.zone_room.specs.Rooms.{cell_use}

pub record UsesNoMore (need before after : Need) : Type 0 where
  pub active : IsTrue after.active → before.active ≡ false → IsTrue need.active
  pub opened : IsTrue after.opened → before.opened ≡ false → IsTrue need.opened
  pub window : IsTrue after.window → before.window ≡ false → IsTrue need.window

-- ---- writes

write_takes : (g : GeometryFields) (zone : Zone) (from blocks : ℕ) → first_holding (write_rows g zone from blocks) ≡ None → TakesWrites zone.state
write_takes g zone from blocks none = let fails = none_holds (write_rows g zone from blocks) none in record { full = fails.0; read_only = fails.1.0; offline = fails.1.1.0 }

append_takes : (g : GeometryFields) (zone : Zone) (blocks : ℕ) → first_holding (append_rows g zone blocks) ≡ None → TakesWrites zone.state
append_takes g zone blocks none = let fails = none_holds (append_rows g zone blocks) none in record { full = fails.0; read_only = fails.1.0; offline = fails.1.1.0 }

inactive_empty : (s : State) → TakesWrites s → is_active s ≡ false → is_empty s ≡ true
inactive_empty Empty w e = refl
inactive_empty Full w e = absurd (cc w.full)
inactive_empty ReadOnly w e = absurd (cc w.read_only)
inactive_empty Offline w e = absurd (cc w.offline)
inactive_empty _ w e = absurd (cc e)

unopened_needs : (s : State) → TakesWrites s → is_opened s ≡ false → opens s ≡ true
unopened_needs Empty w e = refl
unopened_needs Closed w e = refl
unopened_needs Full w e = absurd (cc w.full)
unopened_needs ReadOnly w e = absurd (cc w.read_only)
unopened_needs Offline w e = absurd (cc w.offline)
unopened_needs _ w e = absurd (cc e)

no_new_window : (was on : Bool) → (was && on) ≡ true → was ≡ false → ⊥
no_new_window was on e off = cc (and_parts was on e).0

-- ---- an Open

opens_on : (s : State) → is_ok (go action.Open s) ≡ true → TakesWrites s
opens_on Full ok = absurd (cc ok)
opens_on ReadOnly ok = absurd (cc ok)
opens_on Offline ok = absurd (cc ok)
opens_on _ ok = record { full = refl; read_only = refl; offline = refl }

new_window : (was option on : Bool) → ((was || option) && on) ≡ true → was ≡ false → (option && not was) ≡ true
new_window false true on e off = refl
new_window false false on e off = absurd (cc e)
new_window true option on e off = absurd (cc off)

-- ---- a commit

closed_needs : (s : State) → is_active s ≡ true → is_opened s ≡ false → is_closed s ≡ true
closed_needs Closed on off = refl
closed_needs ImplicitlyOpened on off = absurd (cc off)
closed_needs ExplicitlyOpened on off = absurd (cc off)
closed_needs _ on off = absurd (cc on)

-- ---- the others

-- the second holds if the first does
abbrev implies : Bool → Bool → Bool
implies a b = if a then b else true

implied : (a b : Bool) → implies a b ≡ true → a ≡ true → b ≡ true
implied true b e on = e
implied false b e on = absurd (cc on)

-- a result of the table that leaves a zone in use only if it was before
abbrev keeps_use : State → Result State Status → Bool
keeps_use s (Ok t) = implies (is_active t) (is_active s) && implies (is_opened t) (is_opened s)
keeps_use s (Err code) = true

finishes_keeps : (s : State) → keeps_use s (controller_finishes s) ≡ true
finishes_keeps Empty = refl
finishes_keeps _ = refl

finish_keeps : (s : State) → keeps_use s (finish_recommended s) ≡ true
finish_keeps Empty = refl
finish_keeps _ = refl

reset_keeps : (s : State) → keeps_use s (reset_recommended s) ≡ true
reset_keeps Empty = refl
reset_keeps _ = refl

read_only_keeps : (s : State) → keeps_use s (turns_read_only s) ≡ true
read_only_keeps Empty = refl
read_only_keeps _ = refl

offline_keeps : (s : State) → keeps_use s (turns_offline s) ≡ true
offline_keeps Empty = refl
offline_keeps _ = refl

excursion_keeps : (one two three four five : Bool) (s : State)
    → keeps_use s (if one then controller_finishes s else if two then finish_recommended s else if three then reset_recommended s else if four then turns_read_only s else if five then turns_offline s else refused) ≡ true
excursion_keeps true two three four five s = finishes_keeps s
excursion_keeps false true three four five s = finish_keeps s
excursion_keeps false false true four five s = reset_keeps s
excursion_keeps false false false true five s = read_only_keeps s
excursion_keeps false false false false true s = offline_keeps s
excursion_keeps false false false false false s = refl

-- the state it led to
abbrev led_to : Result State Status → State → State
led_to r s = elim r [ Ok t ↦ t | Err code ↦ s ]

record KeepsUse (s t : State) : Type 0 where
  active : is_active t ≡ true → is_active s ≡ true
  opened : is_opened t ≡ true → is_opened s ≡ true

kept : (s : State) (r : Result State Status) → keeps_use s r ≡ true → KeepsUse s (led_to r s)
kept s (Ok t) e = let parts = and_parts _ _ e in record { active = implied (is_active t) (is_active s) parts.0; opened = implied (is_opened t) (is_opened s) parts.1 }
kept s (Err code) e = record { active = λ on. on; opened = λ on. on }

close_keeps : (s : State) → keeps_use s (go action.Close s) ≡ true
close_keeps Empty = refl
close_keeps _ = refl

finished_keeps : (s : State) → keeps_use s (go action.Finish s) ≡ true
finished_keeps Empty = refl
finished_keeps _ = refl

gone_keeps : (s : State) → keeps_use s (go action.Offline s) ≡ true
gone_keeps Empty = refl
gone_keeps _ = refl

-- ---- all of them

pub uses_no_more : (g : GeometryFields) (d : Deed) (payload : List ℕ) (c : Cell) → IsOf g c → Admits g (sight c) d → UsesNoMore (need_for d (sight c)) (cell_use c) (cell_use (after_deed g d payload c))
uses_no_more g (deed.Write from blocks) payload c of none =
    let takes = write_takes g (sight c) from blocks none in
    record { active = λ on off. inactive_empty c.state takes off; opened = λ on off. unopened_needs c.state takes off; window = λ on off. absurd (no_new_window c.window _ on off) }
uses_no_more g (deed.Append blocks) payload c of none =
    let takes = append_takes g (sight c) blocks none in
    record { active = λ on off. inactive_empty c.state takes off; opened = λ on off. unopened_needs c.state takes off; window = λ on off. absurd (no_new_window c.window _ on off) }
uses_no_more g (deed.Open window) payload c of none =
    let takes = opens_on c.state (not-false _ (none_holds (open_rows g (sight c) window) none).0) in
    record { active = λ on off. inactive_empty c.state takes off; opened = λ on off. unopened_needs c.state takes off; window = λ on off. new_window c.window window _ on off }
uses_no_more g (deed.Commit last) payload c of none =
    let active : is_active c.state ≡ true = of.active (not-false _ (none_holds (commit_rows g (sight c) last) none).0) in
    record { active = λ on off. absurd (cc (active, off)); opened = λ on off. closed_needs c.state active off; window = λ on off. absurd (no_new_window c.window _ on off) }
uses_no_more g deed.Close payload c of none =
    let keeps = kept c.state (go action.Close c.state) (close_keeps c.state) in
    record { active = λ on off. absurd (cc (keeps.active on, off)); opened = λ on off. absurd (cc (keeps.opened on, off)); window = λ on off. absurd (no_new_window c.window _ on off) }
uses_no_more g deed.Finish payload c of none =
    let keeps = kept c.state (go action.Finish c.state) (finished_keeps c.state) in
    record { active = λ on off. absurd (cc (keeps.active on, off)); opened = λ on off. absurd (cc (keeps.opened on, off)); window = λ on off. absurd (no_new_window c.window _ on off) }
uses_no_more g deed.Reset payload c of none = record { active = λ on off. absurd (cc on); opened = λ on off. absurd (cc on); window = λ on off. absurd (cc on) }
uses_no_more g deed.Offline payload c of none =
    let keeps = kept c.state (go action.Offline c.state) (gone_keeps c.state) in
    record { active = λ on off. absurd (cc (keeps.active on, off)); opened = λ on off. absurd (cc (keeps.opened on, off)); window = λ on off. absurd (no_new_window c.window _ on off) }
uses_no_more g (deed.Excursion kind) payload c of none =
    let keeps = kept c.state (excursion kind c.state) (excursion_keeps _ _ _ _ _ c.state) in
    record { active = λ on off. absurd (cc (keeps.active on, off)); opened = λ on off. absurd (cc (keeps.opened on, off)); window = λ on off. absurd (no_new_window c.window _ on off) }

-- if the resources that are needed are left, there is room for the new use
pub room_for : (g : GeometryFields) (n : Limits) (need before after : Need) → UsesNoMore need before after → HasNeeded g n need → HasRoomFor g n before after
room_for g n need before after uses left = record {
  active = λ on off. left.active (uses.active on off);
  opened = λ on off. left.opened (uses.opened on off);
  windows = λ on off. left.windows (uses.window on off);
}

-- ---- a zone that needs an open resource isn't opened

opens_unopened : (s : State) → opens s ≡ true → is_opened s ≡ false
opens_unopened Empty e = refl
opens_unopened Closed e = refl
opens_unopened _ e = absurd (cc e)

closed_unopened : (s : State) → is_closed s ≡ true → is_opened s ≡ false
closed_unopened Closed e = refl
closed_unopened _ e = absurd (cc e)

pub needs_unopened : (d : Deed) (zone : Zone) → IsTrue (need_for d zone).opened → is_opened zone.state ≡ false
needs_unopened (deed.Write from blocks) zone on = opens_unopened zone.state on
needs_unopened (deed.Append blocks) zone on = opens_unopened zone.state on
needs_unopened (deed.Open window) zone on = opens_unopened zone.state on
needs_unopened (deed.Commit last) zone on = closed_unopened zone.state on
needs_unopened _ zone on = absurd (cc on)
