-- The refusals that a zone alone decides.
use Rattle.std.specs.Prelude.{ℕ, ◌+◌, ◌%◌, Bool, not, ◌&&◌, ◌==◌, nat_lt, if◌then◌else◌, List, [], ◌∷◌, is_ok}
use Rattle.zns_types.specs.declared.fields.GeometryFields.{GeometryFields}
use Rattle.zns_types.specs.declared.state.State.{State}
use Rattle.zns_types.specs.States.{is_full, is_read_only, is_offline}
use Rattle.zns_types.specs.Statuses.{Status, invalid_zone_operation, zone_boundary_error, zone_full, zone_read_only, zone_offline, zone_invalid_write, invalid_zone_state_transition}
use Rattle.zns_types.specs.Rows.{Row, when}
use Rattle.zrwa_commit.specs.Windows.{is_admitted}
use Rattle.zrwa_commit.specs.Windows as area
use Rattle.zone_state.specs.declared.action.Action.{Action}
use Rattle.zone_state.specs.declared.action.Action.TheVariants as action
use Rattle.zone_state.specs.Transitions.{go}

-- what a row looks at in a zone: its state, whether it has a random write area, and the offset of its write pointer
pub record Zone : Type 0 where
  pub state : State
  pub window : Bool
  pub pointer : ℕ

-- no write goes to a zone in these states
abbrev pub closed_to_writes : State → List (Row Status) → List (Row Status)
closed_to_writes s more = when (is_full s) zone_full ∷ when (is_read_only s) zone_read_only ∷ when (is_offline s) zone_offline ∷ more

-- a Write starts at the pointer; with a random write area it starts at or after it, and ends within two windows
abbrev pub is_misplaced : GeometryFields → Zone → ℕ → ℕ → Bool
is_misplaced g zone start end =
    if zone.window then not (is_admitted g zone.pointer start end) else not (start == zone.pointer)

-- a Write of `blocks` blocks from an offset on
abbrev pub write_rows : GeometryFields → Zone → ℕ → ℕ → List (Row Status)
write_rows g zone start blocks =
    closed_to_writes zone.state (
    when (is_misplaced g zone start (start + blocks)) zone_invalid_write
    ∷ when (nat_lt g.capacity (start + blocks)) zone_boundary_error
    ∷ [])

-- an Append of `blocks` blocks
abbrev pub append_rows : GeometryFields → Zone → ℕ → List (Row Status)
append_rows g zone blocks =
    closed_to_writes zone.state (
    when zone.window invalid_zone_operation
    ∷ when (nat_lt g.capacity (zone.pointer + blocks)) zone_boundary_error
    ∷ [])

-- the state refuses the action
abbrev pub no_transition : Action → State → Row Status
no_transition a s = when (not (is_ok (go a s))) invalid_zone_state_transition

-- an Open, which may ask for a random write area
abbrev pub open_rows : GeometryFields → Zone → Bool → List (Row Status)
open_rows g zone asks_window =
    no_transition action.Open zone.state
    ∷ when (asks_window && (g.windows == 0)) invalid_zone_operation
    ∷ when (asks_window && not (zone.pointer % g.granule == 0)) invalid_zone_operation
    ∷ []

-- a commit of the random write area up to a last block
abbrev pub commit_rows : GeometryFields → Zone → ℕ → List (Row Status)
commit_rows g zone last =
    when (not zone.window) invalid_zone_operation ∷ area.commit_rows g zone.pointer last
