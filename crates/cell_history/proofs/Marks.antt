-- The effect of a deed on a zone's marks and states.
use Rattle.std.proofs.Common.{◌≡◌, ℕ, Bool, true, false, List, ◌∷◌, refl, sym, ◌∙◌}
use Rattle.std.specs.Prelude.{◌&&◌, ◌||◌, Result, Ok, Err}
use Rattle.std.proofs.lemmas.Bool.{and_right}
use Rattle.zns_types.specs.declared.state.State.{State}
use Rattle.zns_types.specs.declared.state.State.TheVariants.{Empty, ReadOnly, Offline}
use Rattle.zns_types.specs.States.{is_writable}
use Rattle.zns_types.specs.Statuses.{Status}
use Rattle.zone_state.specs.declared.action.Action.{Action}
use Rattle.zone_state.specs.declared.action.Action.TheVariants as action
use Rattle.zone_state.specs.Transitions.{go, after, controller_finishes, finish_recommended, reset_recommended, turns_read_only, turns_offline}
use Rattle.drive_rules.specs.Deeds.{is_reset, is_excursion, asks_window}
use Rattle.zone_history.specs.Histories.{Done, had, was_windowed}
use Rattle.zone_history.proofs.Transitions.{led_to, implies, implied, by_kind, is_live}

-- ---- marks that end with their state

pub or-none : (b : Bool) → (b || false) ≡ b
or-none true = refl
or-none false = refl

pub and-swap : (x y : Bool) → (x && y) ≡ (y && x)
and-swap true true = refl
and-swap true false = refl
and-swap false true = refl
and-swap false false = refl

off : (x y : Bool) → (x && false) ≡ (y && false)
off x y = and_right x false refl ∙ sym (and_right y false refl)

-- a mark that a zone had, or has now, while the state has a use for it
pub marked : (was now old new : Bool) → (new ≡ true → was ≡ true → old ≡ true) → (((was && old) || now) && new) ≡ ((now || was) && new)
marked was now old false k = off _ _
marked true true true true k = refl
marked true false true true k = refl
marked true now false true k = absurd (cc (k refl refl))
marked false true old true k = refl
marked false false old true k = refl

-- ---- looking back one deed

pub had-step : (d : Done) (ds : List Done) (kind : ℕ) → is_reset d.deed ≡ false → had (d ∷ ds) kind ≡ (is_excursion kind d.deed || had ds kind)
had-step d ds kind keeps = rw keeps refl

pub windowed-step : (d : Done) (ds : List Done) → is_reset d.deed ≡ false → was_windowed (d ∷ ds) ≡ (asks_window d.deed || was_windowed ds)
windowed-step d ds keeps = rw keeps refl

-- ---- states

pub live_writable : (s : State) → is_live s ≡ true → is_writable s ≡ true
live_writable ReadOnly e = absurd (cc e)
live_writable Offline e = absurd (cc e)
live_writable _ e = refl

-- a result that takes writes comes from a state that does
abbrev keeps_writable : State → Result State Status → Bool
keeps_writable s (Ok t) = implies (is_writable t) (is_writable s)
keeps_writable s (Err code) = true

finished_by-writable : (s : State) → keeps_writable s (controller_finishes s) ≡ true
finished_by-writable Empty = refl
finished_by-writable _ = refl

finish-writable : (s : State) → keeps_writable s (finish_recommended s) ≡ true
finish-writable Empty = refl
finish-writable _ = refl

reset-writable : (s : State) → keeps_writable s (reset_recommended s) ≡ true
reset-writable Empty = refl
reset-writable _ = refl

read_only-writable : (s : State) → keeps_writable s (turns_read_only s) ≡ true
read_only-writable Empty = refl
read_only-writable _ = refl

offline-writable : (s : State) → keeps_writable s (turns_offline s) ≡ true
offline-writable Empty = refl
offline-writable _ = refl

go-writable : (m : Action) (s : State) → keeps_writable s (go m s) ≡ true
go-writable action.Write Empty = refl
go-writable action.Write _ = refl
go-writable action.Commit Empty = refl
go-writable action.Commit _ = refl
go-writable action.Open Empty = refl
go-writable action.Open _ = refl
go-writable action.Close Empty = refl
go-writable action.Close _ = refl
go-writable action.Finish Empty = refl
go-writable action.Finish _ = refl
go-writable action.Reset Empty = refl
go-writable action.Reset _ = refl
go-writable action.Offline Empty = refl
go-writable action.Offline _ = refl
go-writable (action.Excursion kind) s =
    by_kind (λ r. keeps_writable s r ≡ true) kind s (λ one. finished_by-writable s) (finish-writable s) (reset-writable s) (read_only-writable s) (offline-writable s) refl

came_from : (s : State) (r : Result State Status) → keeps_writable s r ≡ true → is_writable (led_to r s) ≡ true → is_writable s ≡ true
came_from s (Ok t) keeps e = implied (is_writable t) (is_writable s) keeps e
came_from s (Err code) keeps e = e

-- no action leads from Read Only or Offline to another state that takes writes
pub writable-before : (m : Action) (s : State) → is_writable (after m s) ≡ true → is_writable s ≡ true
writable-before m s e = came_from s (go m s) (go-writable m s) e
