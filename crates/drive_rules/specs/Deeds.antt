-- What a command does to one zone: which rows of the zone refuse it, and what it needs.
use Rattle.std.specs.Prelude.{◌≡◌, ℕ, ◌+◌, ◌-◌, Bool, true, false, not, ◌&&◌, ◌||◌, ◌==◌, List, [], ◌∷◌, None}
use Rattle.zns_types.specs.declared.fields.GeometryFields.{GeometryFields}
use Rattle.zns_types.specs.declared.state.State.{State}
use Rattle.zns_types.specs.States.{is_empty, is_closed, is_opened, is_active, is_full, is_read_only}
use Rattle.zns_types.specs.Statuses.{Status}
use Rattle.zns_types.specs.Rows.{Row, first_holding}
use Rattle.zone_state.specs.declared.action.Action.{Action}
use Rattle.zone_state.specs.declared.action.Action.TheVariants as action
use Rattle.zone_limits.specs.declared.limits.Need.{Need}
use Rattle.zone_limits.specs.Resources.{no_need}
use Rattle.drive_rules.specs.declared.deed.Deed.{Deed}
use Rattle.drive_rules.specs.declared.deed.Deed.TheVariants as deed
use Rattle.drive_rules.specs.ZoneRows.{Zone, write_rows, append_rows, open_rows, commit_rows, no_transition}

-- the action of the zone state machine
abbrev pub action_of : Deed → Action
action_of (deed.Write from blocks) = action.Write
action_of (deed.Append blocks) = action.Write
action_of (deed.Open window) = action.Open
action_of (deed.Commit last) = action.Commit
action_of deed.Close = action.Close
action_of deed.Finish = action.Finish
action_of deed.Reset = action.Reset
action_of deed.Offline = action.Offline
action_of (deed.Excursion kind) = action.Excursion kind

-- ---- what a deed is

abbrev pub is_reset : Deed → Bool
is_reset deed.Reset = true
is_reset _ = false

-- Finish, or an excursion by which the controller finishes the zone
abbrev pub is_finish : Deed → Bool
is_finish deed.Finish = true
is_finish (deed.Excursion kind) = kind == 1
is_finish _ = false

-- an excursion of a kind
abbrev pub is_excursion : ℕ → Deed → Bool
is_excursion kind (deed.Excursion k) = k == kind
is_excursion kind _ = false

-- an Open that asks for a random write area
abbrev pub asks_window : Deed → Bool
asks_window (deed.Open window) = window
asks_window _ = false

-- the number of blocks that a deed writes
abbrev pub blocks_of : Deed → ℕ
blocks_of (deed.Write from blocks) = blocks
blocks_of (deed.Append blocks) = blocks
blocks_of _ = 0

-- where they begin: for an Append, at the pointer
abbrev pub start_of : ℕ → Deed → ℕ
start_of pointer (deed.Write from blocks) = from
start_of pointer _ = pointer

-- What a deed asks of the pointer of a zone with a random write area: a commit, to cover its last block; a Write, to end at most a window
-- past the pointer.
abbrev pub bound_of : GeometryFields → Deed → ℕ
bound_of g (deed.Write from blocks) = from + blocks - g.window
bound_of g (deed.Commit last) = last + 1
bound_of g _ = 0

-- ---- refusals and needs

-- The refusals that the zone alone decides, in their order.
abbrev pub rows_for : GeometryFields → Deed → Zone → List (Row Status)
rows_for g (deed.Write from blocks) zone = write_rows g zone from blocks
rows_for g (deed.Append blocks) zone = append_rows g zone blocks
rows_for g (deed.Open window) zone = open_rows g zone window
rows_for g (deed.Commit last) zone = commit_rows g zone last
rows_for g d zone = no_transition (action_of d) zone.state ∷ []

-- whether a write or an Open makes a zone in this state opened that wasn't
abbrev pub opens : State → Bool
opens s = is_empty s || is_closed s

-- What a deed needs. A write or an Open needs an active resource from Empty, and an open one from Empty and Closed. An Open that asks for a
-- random write area needs one if the zone has none. A commit needs an open resource from Closed. Anything else needs nothing.
abbrev pub need_for : Deed → Zone → Need
need_for (deed.Write from blocks) zone = record { active = is_empty zone.state; opened = opens zone.state; window = false }
need_for (deed.Append blocks) zone = record { active = is_empty zone.state; opened = opens zone.state; window = false }
need_for (deed.Open window) zone = record { active = is_empty zone.state; opened = opens zone.state; window = window && not zone.window }
need_for (deed.Commit last) zone = record { active = false; opened = is_closed zone.state; window = false }
need_for _ zone = no_need

-- no row of the zone refuses the deed
abbrev pub Admits : GeometryFields → Zone → Deed → Type 0
Admits g zone d = first_holding (rows_for g d zone) ≡ None

-- what a zone uses: an active resource, an open one, a random write area
abbrev pub use_of : Zone → Need
use_of zone = record { active = is_active zone.state; opened = is_opened zone.state; window = zone.window }

-- what a zone uses once it is closed: no open resource
abbrev pub closed_use : Need → Need
closed_use used = record used { opened = false }

-- the states that a deed on all zones takes: Zoned Namespace Command Set Specification 1.1, 3.4.3.1
abbrev pub takes_all : Deed → State → Bool
takes_all deed.Close = is_opened
takes_all deed.Finish = is_active
takes_all (deed.Open window) = is_closed
takes_all deed.Reset = λ s. is_active s || is_full s
takes_all deed.Offline = is_read_only
takes_all _ = λ _. false
