-- What a zone uses after an action, which depends on its state alone.
use Rattle.std.proofs.Common.{◌≡◌, ℕ, Bool, true, false, Result, Err, refl, inl, inr}
use Rattle.std.specs.Prelude.{◌&&◌, ◌⊎◌, not}
use Rattle.std.proofs.lemmas.Bool.{and_parts, and_from, not-true, not_from_false}
use Rattle.zns_types.specs.declared.state.State.{State}
use Rattle.zns_types.specs.declared.state.State.TheVariants.{Empty, ImplicitlyOpened, ExplicitlyOpened, Closed}
use Rattle.zns_types.specs.States.{is_empty, is_active, is_opened, is_closed}
use Rattle.zns_types.specs.Statuses.{Status, invalid_zone_state_transition}
use Rattle.zone_state.specs.declared.action.Action.TheVariants as action
use Rattle.zone_state.specs.Transitions.{go, after, excursion, controller_finishes, finish_recommended, reset_recommended, turns_read_only, turns_offline}
use Rattle.zone_limits.specs.declared.limits.Need.{Need}
use Rattle.zone_limits.specs.Resources.{no_need}
use Rattle.drive_rules.specs.declared.deed.Deed.{Deed}
use Rattle.drive_rules.specs.declared.deed.Deed.TheVariants as deed
use Rattle.drive_rules.specs.ZoneRows.{Zone}
use Rattle.drive_rules.specs.Deeds.{action_of, asks_window, need_for, use_of, opens}
use Rattle.zone_history.proofs.Transitions.{led_to, by_kind, implies, implied}

-- a zone that goes from s to t uses no active or open resource that it neither used nor needed
pub record LeadsWithin (s t : State) (need : Need) : Type 0 where
  pub active : is_active t ≡ true → (is_active s ≡ true) ⊎ (need.active ≡ true)
  pub opened : is_opened t ≡ true → (is_opened s ≡ true) ⊎ (need.opened ≡ true)

-- ---- actions that take nothing

abbrev takes_none : State → Result State Status → Bool
takes_none s r = implies (is_active (led_to r s)) (is_active s) && implies (is_opened (led_to r s)) (is_opened s)

none_taken : (s : State) (r : Result State Status) (need : Need) → takes_none s r ≡ true → LeadsWithin s (led_to r s) need
none_taken s r need e =
    let parts = and_parts (implies (is_active (led_to r s)) (is_active s)) (implies (is_opened (led_to r s)) (is_opened s)) e in
    record { active = λ on. inl (implied _ _ parts.0 on); opened = λ on. inl (implied _ _ parts.1 on) }

close-none : (s : State) → takes_none s (go action.Close s) ≡ true
close-none Empty = refl
close-none _ = refl

finish-none : (s : State) → takes_none s (go action.Finish s) ≡ true
finish-none Empty = refl
finish-none _ = refl

reset-none : (s : State) → takes_none s (go action.Reset s) ≡ true
reset-none Empty = refl
reset-none _ = refl

offline-none : (s : State) → takes_none s (go action.Offline s) ≡ true
offline-none Empty = refl
offline-none _ = refl

controller_finishes-none : (s : State) → takes_none s (controller_finishes s) ≡ true
controller_finishes-none Empty = refl
controller_finishes-none _ = refl

finish_recommended-none : (s : State) → takes_none s (finish_recommended s) ≡ true
finish_recommended-none Empty = refl
finish_recommended-none _ = refl

reset_recommended-none : (s : State) → takes_none s (reset_recommended s) ≡ true
reset_recommended-none Empty = refl
reset_recommended-none _ = refl

turns_read_only-none : (s : State) → takes_none s (turns_read_only s) ≡ true
turns_read_only-none Empty = refl
turns_read_only-none _ = refl

turns_offline-none : (s : State) → takes_none s (turns_offline s) ≡ true
turns_offline-none Empty = refl
turns_offline-none _ = refl

refused-none : (s : State) → takes_none s (Err invalid_zone_state_transition) ≡ true
refused-none Empty = refl
refused-none _ = refl

excursion-none : (kind : ℕ) (s : State) → takes_none s (excursion kind s) ≡ true
excursion-none kind s =
    by_kind (λ r. takes_none s r ≡ true) kind s (λ first. controller_finishes-none s) (finish_recommended-none s) (reset_recommended-none s) (turns_read_only-none s) (turns_offline-none s) (refused-none s)

-- ---- actions that take what is needed

write_within : (s : State) → LeadsWithin s (after action.Write s) (record { active = is_empty s; opened = opens s; window = false })
write_within Empty = record { active = λ on. inr refl; opened = λ on. inr refl }
write_within ImplicitlyOpened = record { active = λ on. inl refl; opened = λ on. inl refl }
write_within ExplicitlyOpened = record { active = λ on. inl refl; opened = λ on. inl refl }
write_within Closed = record { active = λ on. inl refl; opened = λ on. inr refl }
write_within _ = record { active = λ on. absurd (cc on); opened = λ on. absurd (cc on) }

open_within : (s : State) (window : Bool) → LeadsWithin s (after action.Open s) (record { active = is_empty s; opened = opens s; window = window })
open_within Empty window = record { active = λ on. inr refl; opened = λ on. inr refl }
open_within ImplicitlyOpened window = record { active = λ on. inl refl; opened = λ on. inl refl }
open_within ExplicitlyOpened window = record { active = λ on. inl refl; opened = λ on. inl refl }
open_within Closed window = record { active = λ on. inl refl; opened = λ on. inr refl }
open_within _ window = record { active = λ on. absurd (cc on); opened = λ on. absurd (cc on) }

commit_within : (s : State) → LeadsWithin s (after action.Commit s) (record { active = false; opened = is_closed s; window = false })
commit_within ImplicitlyOpened = record { active = λ on. inl refl; opened = λ on. inl refl }
commit_within ExplicitlyOpened = record { active = λ on. inl refl; opened = λ on. inl refl }
commit_within Closed = record { active = λ on. inl refl; opened = λ on. inr refl }
commit_within _ = record { active = λ on. absurd (cc on); opened = λ on. absurd (cc on) }

-- What a zone uses after a deed was either used before or needed by the deed.
pub leads_within : (e : Deed) (zone : Zone) → LeadsWithin zone.state (after (action_of e) zone.state) (need_for e zone)
leads_within (deed.Write from blocks) zone = write_within zone.state
leads_within (deed.Append blocks) zone = write_within zone.state
leads_within (deed.Open window) zone = open_within zone.state (window && not zone.window)
leads_within (deed.Commit last) zone = commit_within zone.state
leads_within deed.Close zone = none_taken zone.state (go action.Close zone.state) no_need (close-none zone.state)
leads_within deed.Finish zone = none_taken zone.state (go action.Finish zone.state) no_need (finish-none zone.state)
leads_within deed.Reset zone = none_taken zone.state (go action.Reset zone.state) no_need (reset-none zone.state)
leads_within deed.Offline zone = none_taken zone.state (go action.Offline zone.state) no_need (offline-none zone.state)
leads_within (deed.Excursion kind) zone = none_taken zone.state (excursion kind zone.state) no_need (excursion-none kind zone.state)

-- ---- what a deed needs

-- only what isn't used yet is needed
pub record AsksNew (used need : Need) : Type 0 where
  pub active : need.active ≡ true → used.active ≡ false
  pub opened : need.opened ≡ true → used.opened ≡ false
  pub window : need.window ≡ true → used.window ≡ false

empty_unused : (s : State) → is_empty s ≡ true → is_active s ≡ false
empty_unused Empty e = refl
empty_unused _ e = absurd (cc e)

opens_unused : (s : State) → opens s ≡ true → is_opened s ≡ false
opens_unused Empty e = refl
opens_unused Closed e = refl
opens_unused _ e = absurd (cc e)

closed_unused : (s : State) → is_closed s ≡ true → is_opened s ≡ false
closed_unused Closed e = refl
closed_unused Empty e = absurd (cc e)
closed_unused _ e = absurd (cc e)

pub asks_new : (e : Deed) (zone : Zone) → AsksNew (use_of zone) (need_for e zone)
asks_new (deed.Write from blocks) zone = record { active = empty_unused zone.state; opened = opens_unused zone.state; window = λ asks. absurd (cc asks) }
asks_new (deed.Append blocks) zone = record { active = empty_unused zone.state; opened = opens_unused zone.state; window = λ asks. absurd (cc asks) }
asks_new (deed.Open window) zone = record {
  active = empty_unused zone.state;
  opened = opens_unused zone.state;
  window = λ asks. not-true _ (and_parts window (not zone.window) asks).1;
}
asks_new (deed.Commit last) zone = record { active = λ asks. absurd (cc asks); opened = closed_unused zone.state; window = λ asks. absurd (cc asks) }
asks_new _ zone = record { active = λ asks. absurd (cc asks); opened = λ asks. absurd (cc asks); window = λ asks. absurd (cc asks) }

-- only an Empty zone needs an active resource
pub needs_empty : (e : Deed) (zone : Zone) → (need_for e zone).active ≡ true → is_empty zone.state ≡ true
needs_empty (deed.Write from blocks) zone need = need
needs_empty (deed.Append blocks) zone need = need
needs_empty (deed.Open window) zone need = need
needs_empty _ zone need = absurd (cc need)

-- an Open that asks for a random write area needs one if the zone has none
pub needs_window : (e : Deed) (zone : Zone) → asks_window e ≡ true → zone.window ≡ false → (need_for e zone).window ≡ true
needs_window (deed.Open window) zone asks none = and_from window (not zone.window) asks (not_from_false _ none)
needs_window _ zone asks none = absurd (cc asks)
