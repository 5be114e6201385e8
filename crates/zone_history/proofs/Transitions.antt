-- The states from which actions and deeds lead, and where they lead.
use Rattle.std.proofs.Common.{◌≡◌, ℕ, Bool, true, false, cond, Result, Ok, Err, refl}
use Rattle.std.specs.Prelude.{◌==◌, ◌&&◌, not, is_ok}
use Rattle.std.proofs.lemmas.Bool.{and_parts, not-true}
use Rattle.zns_types.specs.declared.state.State.{State}
use Rattle.zns_types.specs.declared.state.State.TheVariants.{Empty, ImplicitlyOpened, ExplicitlyOpened, Closed, ReadOnly, Full, Offline}
use Rattle.zns_types.specs.States.{by_state, is_empty, is_active, is_full}
use Rattle.zns_types.specs.Statuses.{Status}
use Rattle.zone_state.specs.declared.action.Action.TheVariants as action
use Rattle.zone_state.specs.Transitions.{go, after, adds_blocks, excursion, refused, controller_finishes, finish_recommended, reset_recommended, turns_read_only, turns_offline}
use Rattle.drive_rules.specs.declared.deed.Deed.{Deed}
use Rattle.drive_rules.specs.declared.deed.Deed.TheVariants as deed
use Rattle.drive_rules.specs.Deeds.{action_of, is_finish}

-- Deeds that leave a zone's pointer and blocks. (An Open that asks for a random write area isn't one of them.)
abbrev pub is_still : Deed → Bool
is_still (deed.Open window) = not window
is_still deed.Close = true
is_still deed.Offline = true
is_still (deed.Excursion kind) = not (kind == 1)
is_still _ = false

-- Empty or active, so blocks can be added
abbrev pub is_live : State → Bool
is_live = by_state true true true true false false false

-- the state where a result of the table leads, or the same state if the table refuses
abbrev pub led_to : Result State Status → State → State
led_to r s = elim r [ Ok t ↦ t | Err _ ↦ s ]

abbrev pub implies : Bool → Bool → Bool
implies a b = cond a b true

pub implied : (a b : Bool) → implies a b ≡ true → a ≡ true → b ≡ true
implied true b e is = e
implied false b e is = absurd cc

-- a zone that is live or Full afterwards was so before, and no zone becomes Empty
abbrev keeps_kind : State → Result State Status → Bool
keeps_kind s (Ok t) = implies (is_live t) (is_live s) && not (is_empty t) && implies (is_full t) (is_full s)
keeps_kind s (Err c) = true

pub record KeepsKind (s t : State) : Type 0 where
  pub live : is_live t ≡ true → is_live s ≡ true
  pub not_empty : is_empty t ≡ false
  pub full : is_full t ≡ true → is_full s ≡ true

kind_kept : (s : State) (r : Result State Status) → keeps_kind s r ≡ true → is_ok r ≡ true → KeepsKind s (led_to r s)
kind_kept s (Ok t) e ok =
    let parts = and_parts (implies (is_live t) (is_live s) && not (is_empty t)) (implies (is_full t) (is_full s)) e in
    let first = and_parts (implies (is_live t) (is_live s)) (not (is_empty t)) parts.0 in
    record { live = implied (is_live t) (is_live s) first.0; not_empty = not-true _ first.1; full = implied (is_full t) (is_full s) parts.1 }
kind_kept s (Err c) e ok = absurd (cc ok)

open_keeps : (s : State) → keeps_kind s (go action.Open s) ≡ true
open_keeps Empty = refl
open_keeps _ = refl

close_keeps : (s : State) → keeps_kind s (go action.Close s) ≡ true
close_keeps Empty = refl
close_keeps _ = refl

offline_keeps : (s : State) → keeps_kind s (go action.Offline s) ≡ true
offline_keeps Empty = refl
offline_keeps _ = refl

finish_recommended-keeps : (s : State) → keeps_kind s (finish_recommended s) ≡ true
finish_recommended-keeps Empty = refl
finish_recommended-keeps _ = refl

reset_recommended-keeps : (s : State) → keeps_kind s (reset_recommended s) ≡ true
reset_recommended-keeps Empty = refl
reset_recommended-keeps _ = refl

turns_read_only-keeps : (s : State) → keeps_kind s (turns_read_only s) ≡ true
turns_read_only-keeps Empty = refl
turns_read_only-keeps _ = refl

turns_offline-keeps : (s : State) → keeps_kind s (turns_offline s) ≡ true
turns_offline-keeps Empty = refl
turns_offline-keeps _ = refl

-- what holds of each result that an excursion can have holds of the result of any kind
pub by_kind : (P : Result State Status → Type 0) (kind : ℕ) (s : State) → ((kind == 1) ≡ true → P (controller_finishes s)) → P (finish_recommended s) → P (reset_recommended s) → P (turns_read_only s)
    → P (turns_offline s) → P refused → P (excursion kind s)
by_kind P kind s one two three four five none = first (kind == 1) refl
  where
    either : (b : Bool) (x y : Result State Status) → P x → P y → P (cond b x y)
    either true x y px py = px
    either false x y px py = py

    rest : P (cond (kind == 2) (finish_recommended s) (cond (kind == 3) (reset_recommended s) (cond (kind == 4) (turns_read_only s) (cond (kind == 5) (turns_offline s) refused))))
    rest = either (kind == 2) _ _ two (either (kind == 3) _ _ three (either (kind == 4) _ _ four (either (kind == 5) _ _ five none)))

    first : (b : Bool) → (kind == 1) ≡ b → P (cond b (controller_finishes s) (cond (kind == 2) (finish_recommended s) (cond (kind == 3) (reset_recommended s) (cond (kind == 4) (turns_read_only s) (cond (kind == 5) (turns_offline s) refused)))))
    first true is = one is
    first false is = rest

still_excursion : (kind : ℕ) (s : State) → (kind == 1) ≡ false → is_ok (excursion kind s) ≡ true → KeepsKind s (led_to (excursion kind s) s)
still_excursion kind s other =
    by_kind (λ r. is_ok r ≡ true → KeepsKind s (led_to r s)) kind s (λ one ok. absurd (cc (one, other))) (kind_kept s _ (finish_recommended-keeps s)) (kind_kept s _ (reset_recommended-keeps s))
    (kind_kept s _ (turns_read_only-keeps s)) (kind_kept s _ (turns_offline-keeps s)) (λ ok. absurd (cc ok))

-- a deed that leaves a zone's pointer
pub still_keeps : (e : Deed) (s : State) → is_still e ≡ true → is_ok (go (action_of e) s) ≡ true → KeepsKind s (after (action_of e) s)
still_keeps (deed.Open window) s still ok = kind_kept s (go action.Open s) (open_keeps s) ok
still_keeps deed.Close s still ok = kind_kept s (go action.Close s) (close_keeps s) ok
still_keeps deed.Offline s still ok = kind_kept s (go action.Offline s) (offline_keeps s) ok
still_keeps (deed.Excursion kind) s still ok = still_excursion kind s (not-true _ still) ok
still_keeps _ s still ok = absurd (cc still)

pub still_adds : (e : Deed) → is_still e ≡ true → adds_blocks (action_of e) ≡ false
still_adds (deed.Write from blocks) still = absurd cc
still_adds (deed.Append blocks) still = absurd cc
still_adds (deed.Commit last) still = absurd cc
still_adds _ still = refl

-- ---- finishes and resets

pub finish_adds : (e : Deed) → is_finish e ≡ true → adds_blocks (action_of e) ≡ false
finish_adds (deed.Write from blocks) finish = absurd cc
finish_adds (deed.Append blocks) finish = absurd cc
finish_adds (deed.Commit last) finish = absurd cc
finish_adds _ finish = refl

full_where : (s : State) → is_ok (controller_finishes s) ≡ true → led_to (controller_finishes s) s ≡ Full
full_where ImplicitlyOpened ok = refl
full_where ExplicitlyOpened ok = refl
full_where Closed ok = refl
full_where _ ok = absurd (cc ok)

finish_to : (s : State) → is_ok (go action.Finish s) ≡ true → after action.Finish s ≡ Full
finish_to ReadOnly ok = absurd cc
finish_to Offline ok = absurd cc
finish_to _ ok = refl

-- a finish leads to Full, also when the controller does it
pub finish_full : (e : Deed) (s : State) → is_finish e ≡ true → is_ok (go (action_of e) s) ≡ true → after (action_of e) s ≡ Full
finish_full deed.Finish s finish ok = finish_to s ok
finish_full (deed.Excursion kind) s finish ok =
    let ok_of : is_ok (controller_finishes s) ≡ true = rw finish at ok in
    rw (finish, after) (full_where s ok_of)
finish_full _ s finish ok = absurd (cc finish)

pub reset_empty : (s : State) → is_ok (go action.Reset s) ≡ true → after action.Reset s ≡ Empty
reset_empty ReadOnly ok = absurd cc
reset_empty Offline ok = absurd cc
reset_empty _ ok = refl

-- ---- opens and writes

pub open_explicit : (s : State) → is_ok (go action.Open s) ≡ true → after action.Open s ≡ ExplicitlyOpened
open_explicit ReadOnly ok = absurd cc
open_explicit Full ok = absurd cc
open_explicit Offline ok = absurd cc
open_explicit _ ok = refl

pub open_live : (s : State) → is_ok (go action.Open s) ≡ true → is_live s ≡ true
open_live ReadOnly ok = absurd cc
open_live Full ok = absurd cc
open_live Offline ok = absurd cc
open_live _ ok = refl

pub write_live : (s : State) → is_ok (go action.Write s) ≡ true → is_live s ≡ true
write_live ReadOnly ok = absurd cc
write_live Full ok = absurd cc
write_live Offline ok = absurd cc
write_live _ ok = refl

pub write_active : (s : State) → is_ok (go action.Write s) ≡ true → is_active (after action.Write s) ≡ true
write_active ReadOnly ok = absurd cc
write_active Full ok = absurd cc
write_active Offline ok = absurd cc
write_active _ ok = refl

pub commit_active : (s : State) → is_ok (go action.Commit s) ≡ true → is_active (after action.Commit s) ≡ true
commit_active ImplicitlyOpened ok = refl
commit_active ExplicitlyOpened ok = refl
commit_active Closed ok = refl
commit_active _ ok = absurd (cc ok)

-- ---- states

pub active_live : (s : State) → is_active s ≡ true → is_live s ≡ true
active_live ImplicitlyOpened e = refl
active_live ExplicitlyOpened e = refl
active_live Closed e = refl
active_live _ e = absurd (cc e)

-- a live zone is Empty or active
pub live_empty : (s : State) → is_live s ≡ true → is_active s ≡ false → is_empty s ≡ true
live_empty Empty live e = refl
live_empty ImplicitlyOpened live e = absurd (cc e)
live_empty ExplicitlyOpened live e = absurd (cc e)
live_empty Closed live e = absurd (cc e)
live_empty _ live e = absurd (cc live)

pub record IsActiveOnly (s : State) : Type 0 where
  pub not_empty : is_empty s ≡ false
  pub not_full : is_full s ≡ false

pub active_only : (s : State) → is_active s ≡ true → IsActiveOnly s
active_only ImplicitlyOpened active = record { not_empty = refl; not_full = refl }
active_only ExplicitlyOpened active = record { not_empty = refl; not_full = refl }
active_only Closed active = record { not_empty = refl; not_full = refl }
active_only _ active = absurd (cc active)
