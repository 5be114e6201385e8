-- How a cell answers a deed, and the effect of the deed on it.
use Rattle.std.specs.Prelude.{◌≡◌, ℕ, ◌*◌, ◌^◌, ◌<◌, ◌≤◌, false, List, [], ◌∷◌, length, Option, Some, None, Result, Ok, Err}
use Rattle.zns_types.specs.declared.fields.GeometryFields.{GeometryFields}
use Rattle.zns_types.specs.declared.state.State.{State}
use Rattle.zns_types.specs.Statuses.{Status}
use Rattle.zns_types.specs.Geometry.{block_len}
use Rattle.zns_types.specs.Rows.{Row, first_holding}
use Rattle.zone_state.specs.declared.action.Action.{Action}
use Rattle.zone_state.specs.declared.action.Action.TheVariants as action
use Rattle.zone_limits.specs.declared.limits.Need.{Need}
use Rattle.zone_limits.specs.Resources.{no_need}
use Rattle.drive_rules.specs.declared.deed.Deed.{Deed}
use Rattle.drive_rules.specs.declared.deed.Deed.TheVariants as deed
use Rattle.drive_rules.specs.Deeds.{action_of, rows_for, need_for, Admits}
use Rattle.drive_rules.specs.ZoneRows.{closed_to_writes, no_transition}
use Rattle.zone_cell.specs.Cells.{Cell, sight, count_of, after_action, after_write, after_commit}

-- a row's refusal, or what is needed
abbrev pub need_or_refusal : Option Status → Need → Result Need Status
need_or_refusal None need = Ok need
need_or_refusal (Some code) need = Err code

-- what the zone alone says of a deed
abbrev pub judgement : GeometryFields → Deed → Cell → Result Need Status
judgement g d c = need_or_refusal (first_holding (rows_for g d (sight c))) (need_for d (sight c))

-- what a state alone says of an action that needs nothing
abbrev pub state_judgement : Action → State → Result Need Status
state_judgement a s = need_or_refusal (first_holding (no_transition a s ∷ [])) no_need

-- the status with which a state refuses every write, whatever rows follow
abbrev pub ClosesBy : State → Status → Type 0
ClosesBy s code = (more : List (Row Status)) → first_holding (closed_to_writes s more) ≡ Some code

-- no row of the zone refuses a Write of host data at an offset
abbrev pub CanPut : GeometryFields → ℕ → List ℕ → Cell → Type 0
CanPut g from payload c = Admits g (sight c) (deed.Write from (count_of c payload))

-- no row of the zone refuses an Append of host data
abbrev pub CanAppend : GeometryFields → List ℕ → Cell → Type 0
CanAppend g payload c = Admits g (sight c) (deed.Append (count_of c payload))

-- the zone after a deed that none of its rows refuses, with the host data of the deed's command
abbrev pub after_deed : GeometryFields → Deed → List ℕ → Cell → Cell
after_deed g (deed.Write from blocks) payload c = after_write g from payload c
after_deed g (deed.Append blocks) payload c = after_write g c.pointer payload c
after_deed g (deed.Open window) payload c = after_action g action.Open window c
after_deed g (deed.Commit last) payload c = after_commit g last c
after_deed g d payload c = after_action g (action_of d) false c

-- host data of exactly `blocks` blocks, at least one
pub record HasBlocks (g : GeometryFields) (blocks : ℕ) (payload : List ℕ) : Type 0 where
  pub some : 1 ≤ blocks
  pub whole : length payload ≡ blocks * block_len g

-- a Write and an Append come with host data of all their blocks
abbrev pub IsBlocksFor : GeometryFields → Deed → List ℕ → Type 0
IsBlocksFor g (deed.Write from blocks) payload = HasBlocks g blocks payload
IsBlocksFor g (deed.Append blocks) payload = HasBlocks g blocks payload
IsBlocksFor g _ payload = Unit {0}

-- a Write starts at an offset of 32 bits
abbrev pub HasSmallOffset : Deed → Type 0
HasSmallOffset (deed.Write from blocks) = from < 2 ^ 32
HasSmallOffset _ = Unit {0}
