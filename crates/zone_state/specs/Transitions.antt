-- The zone state machine: Zoned Namespace Command Set Specification 1.1, 2.1.1.2 and 2.1.1.3.
use Rattle.std.specs.Prelude.{ℕ, Bool, true, false, ◌==◌, ◌&&◌, if◌then◌else◌, Result, Ok, Err}
use Rattle.zns_types.specs.declared.state.State.{State}
use Rattle.zns_types.specs.declared.state.State.TheVariants.{Empty, ImplicitlyOpened, ExplicitlyOpened, Closed, ReadOnly, Full, Offline}
use Rattle.zns_types.specs.States.{by_state}
use Rattle.zns_types.specs.Statuses.{Status, invalid_zone_operation, zone_full, zone_read_only, zone_offline, invalid_zone_state_transition}
use Rattle.zone_state.specs.declared.action.Action.{Action}
use Rattle.zone_state.specs.declared.action.Action.TheVariants as action

-- no transition
abbrev pub refused : Result State Status
refused = Err invalid_zone_state_transition

-- the zone is finished by the controller
abbrev pub controller_finishes : State → Result State Status
controller_finishes = by_state refused (Ok Full) (Ok Full) (Ok Full) refused refused refused

-- a finish is recommended
abbrev pub finish_recommended : State → Result State Status
finish_recommended = by_state refused (Ok ImplicitlyOpened) (Ok ExplicitlyOpened) (Ok Closed) refused refused refused

-- a reset is recommended
abbrev pub reset_recommended : State → Result State Status
reset_recommended = by_state refused (Ok ImplicitlyOpened) (Ok ExplicitlyOpened) (Ok Closed) (Ok Full) refused refused

-- the zone becomes Read Only
abbrev pub turns_read_only : State → Result State Status
turns_read_only = by_state (Ok ReadOnly) (Ok ReadOnly) (Ok ReadOnly) (Ok ReadOnly) (Ok ReadOnly) refused refused

-- the zone goes Offline
abbrev pub turns_offline : State → Result State Status
turns_offline = by_state (Ok Offline) (Ok Offline) (Ok Offline) (Ok Offline) (Ok Offline) (Ok Offline) refused

-- where an excursion leads, by its kind; an unknown kind leads nowhere
abbrev pub excursion : ℕ → State → Result State Status
excursion kind s =
    if kind == 1 then controller_finishes s
    else if kind == 2 then finish_recommended s
    else if kind == 3 then reset_recommended s
    else if kind == 4 then turns_read_only s
    else if kind == 5 then turns_offline s
    else refused

-- where an action leads from Empty, Implicitly Opened, Explicitly Opened, Closed, Full, Read Only and Offline
abbrev pub go : Action → State → Result State Status
go action.Write = by_state (Ok ImplicitlyOpened) (Ok ImplicitlyOpened) (Ok ExplicitlyOpened) (Ok ImplicitlyOpened) (Err zone_full) (Err zone_read_only) (Err zone_offline)
go action.Commit = by_state (Err invalid_zone_operation) (Ok ImplicitlyOpened) (Ok ExplicitlyOpened) (Ok ImplicitlyOpened) (Err invalid_zone_operation) (Err invalid_zone_operation) (Err invalid_zone_operation)
go action.Open = by_state (Ok ExplicitlyOpened) (Ok ExplicitlyOpened) (Ok ExplicitlyOpened) (Ok ExplicitlyOpened) refused refused refused
go action.Close = by_state refused (Ok Closed) (Ok Closed) (Ok Closed) refused refused refused
go action.Finish = by_state (Ok Full) (Ok Full) (Ok Full) (Ok Full) (Ok Full) refused refused
go action.Reset = by_state (Ok Empty) (Ok Empty) (Ok Empty) (Ok Empty) (Ok Empty) refused refused
go action.Offline = by_state refused refused refused refused refused (Ok Offline) (Ok Offline)
go (action.Excursion kind) = excursion kind

-- the state that an action leads to, or the same state if it leads nowhere
abbrev pub after : Action → State → State
after a s = elim (go a s) [ Ok t ↦ t | Err _ ↦ s ]

-- a write or a commit, by which a zone may become Full
abbrev pub adds_blocks : Action → Bool
adds_blocks action.Write = true
adds_blocks action.Commit = true
adds_blocks _ = false

-- where an action leads a zone whose pointer is then at an offset; a write or a commit up to the capacity leads to Full
abbrev pub state_after : ℕ → Action → ℕ → State → State
state_after capacity a pointer s = if adds_blocks a && (pointer == capacity) then Full else after a s
