-- The status of an act, what it does to each zone, and the answers to a whole history.
use Rattle.std.specs.Prelude.{ℕ, Bool, false, not, ◌&&◌, ◌==◌, if◌then◌else◌, List, [], ◌∷◌, reverse, Option, Some, None, is_some, find}
use Rattle.zns_types.specs.declared.fields.GeometryFields.{GeometryFields}
use Rattle.zns_types.specs.declared.state.State.{State}
use Rattle.zns_types.specs.States.{is_implicitly_opened}
use Rattle.zns_types.specs.Statuses.{Status, is_success}
use Rattle.zns_types.specs.Rows.{Row}
use Rattle.sqe_codec.specs.declared.cmd.Cmd.{Cmd}
use Rattle.sqe_codec.specs.declared.cmd.Cmd.TheVariants as cmd
use Rattle.sqe_codec.specs.Commands.{cid_of}
use Rattle.zone_state.specs.declared.action.Action.{Action}
use Rattle.drive_rules.specs.declared.deed.Deed.{Deed}
use Rattle.drive_rules.specs.declared.deed.Deed.TheVariants as deed
use Rattle.drive_rules.specs.declared.aim.Aim.{Aim}
use Rattle.drive_rules.specs.Deeds.{action_of, takes_all}
use Rattle.drive_rules.specs.Aims.{aim_of, sweep_of}
use Rattle.drive_rules.specs.Tables.{Table, aim_table, plain_table, table_rows, judging_rows, wants_room, first_refusal, read_rows, send_all_rows, event_rows}
use Rattle.zone_model.specs.declared.act.Act.{Act}
use Rattle.zone_model.specs.Places.{Place, command_of}
use Rattle.zone_model.specs.Zones.{state, zone, zones, counts, closed_zones}
use Rattle.zone_model.specs.Notices.{pending, waiting, fires_by}

-- ---- the status

-- the rows, after those of its front, of a command that doesn't go to a single zone
abbrev pub own_rows : GeometryFields → List Place → Cmd → List (Row Status)
own_rows g h (cmd.Read nsid slba blocks) = read_rows g (state g h) slba blocks
own_rows g h (cmd.Send nsid slba act all option) = send_all_rows g (counts g h) (closed_zones g h) all act
own_rows g h cmd.Event = event_rows (pending h) (waiting h)
own_rows g h _ = []

-- a command's table of refusals, by the zone that it goes to, if it goes to one
abbrev pub table_by : GeometryFields → List Place → Cmd → Option Aim → Table
table_by g h k None = plain_table g k (own_rows g h k)
table_by g h k (Some aim) = aim_table g k aim (zone g h aim.zone)

abbrev pub table_of : GeometryFields → List Place → Cmd → Table
table_of g h k = table_by g h k (aim_of g k)

-- the lowest-numbered Implicitly Opened zone other than the target
abbrev pub evictable : GeometryFields → List Place → Option ℕ → Option ℕ
evictable g h None = None
evictable g h (Some target) = find (λ z. is_implicitly_opened (state g h z) && not (z == target)) (zones g)

abbrev pub all_rows : GeometryFields → List Place → Table → List (Row Status)
all_rows g h t = table_rows g (counts g h) (is_some (evictable g h t.target)) t

-- The status of an act is the code of the first row of its command's table that holds, or Success.
unfoldable pub status : GeometryFields → List Place → Act → Status
status g h a = first_refusal (all_rows g h (table_of g h (command_of a)))

-- ---- what an act does to a zone

abbrev pub evicted_by : GeometryFields → List Place → Table → Option ℕ
evicted_by g h t = if wants_room g (counts g h) (judging_rows t) t.need then evictable g h t.target else None

-- The zone that is closed for an act: there is one if the act needs an open resource at the open limit and no earlier row refuses it.
unfoldable pub evicted : GeometryFields → List Place → Act → Option ℕ
evicted g h a = evicted_by g h (table_of g h (command_of a))

-- a deed that is done to every zone whose state takes it
abbrev pub swept : Option Deed → State → Option Deed
swept None s = None
swept (Some d) s = if takes_all d s then Some d else None

-- what a command itself does to a zone, by the zone that it goes to, if it goes to one
abbrev pub commanded_by : GeometryFields → List Place → Cmd → Option Aim → ℕ → Option Deed
commanded_by g h k None z = swept (sweep_of k) (state g h z)
commanded_by g h k (Some aim) z = if aim.zone == z then Some aim.deed else None

abbrev pub commanded : GeometryFields → List Place → Cmd → ℕ → Option Deed
commanded g h k z = commanded_by g h k (aim_of g k) z

abbrev pub is_zone : ℕ → Option ℕ → Bool
is_zone z None = false
is_zone z (Some y) = y == z

-- the deed of the command, or else a Close if it evicts the zone
abbrev pub or_close : Option Deed → Bool → Option Deed
or_close (Some d) evicts = Some d
or_close None evicts = if evicts then Some deed.Close else None

-- What an act does to a zone. A refused act does nothing.
unfoldable pub zone_deed : GeometryFields → List Place → Act → ℕ → Option Deed
zone_deed g h a z = if is_success (status g h a) then or_close (commanded g h (command_of a) z) (is_zone z (evicted g h a)) else None

abbrev pub move_of : Option Deed → Option Action
move_of None = None
move_of (Some d) = Some (action_of d)

-- the action by which an act moves a zone in the zone state machine
abbrev pub zone_move : GeometryFields → List Place → Act → ℕ → Option Action
zone_move g h a z = move_of (zone_deed g h a z)

-- ---- histories

-- The number of the event request that an act answers.
unfoldable pub fires : GeometryFields → List Place → Act → Option ℕ
fires g h a = if is_success (status g h a) then fires_by h (cid_of a.sqe.bytes) (command_of a) else None

unfoldable pub answer : GeometryFields → List Place → Act → Place
answer g h a = record { act = a; status = status g h a; deed = zone_deed g h a; fired = fires g h a }

-- a history with one more act
abbrev pub and_then : GeometryFields → List Place → Act → List Place
and_then g h a = answer g h a ∷ h

-- the history of acts, given from the newest on
unfoldable pub answered_back : GeometryFields → List Act → List Place
answered_back g [] = []
answered_back g (a ∷ acts) = and_then g (answered_back g acts) a

-- The answers of a drive to acts, which are given in order; the newest answer comes first.
unfoldable pub answered : GeometryFields → List Act → List Place
answered g acts = answered_back g (reverse acts)
