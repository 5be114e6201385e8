-- The refusals of each command, as a table of rows in their order: functions of plain data.
use Rattle.std.specs.Prelude.{ℕ, ◌+◌, ◌*◌, ◌-◌, ◌^◌, ◌%◌, Bool, true, not, ◌&&◌, ◌||◌, ◌==◌, nat_lt, nat_le, if◌then◌else◌, List, [], ◌∷◌, ◌++◌, length, Option, Some, None, is_some, is_none, unwrap_or}
use Rattle.std.specs.List.{list_any, range_with_len}
use Rattle.zns_types.specs.declared.fields.GeometryFields.{GeometryFields}
use Rattle.zns_types.specs.declared.state.State.{State}
use Rattle.zns_types.specs.States.{is_offline}
use Rattle.zns_types.specs.Geometry.{block_len, all_blocks, zone_of, offset_of, greatest_transfer}
use Rattle.zns_types.specs.Statuses.{Status, success, invalid_opcode, invalid_field, invalid_namespace, lba_out_of_range, event_limit_exceeded, invalid_log_page, zone_boundary_error, zone_offline, too_many_open_zones}
use Rattle.zns_types.specs.Rows.{Row, when, first_holding}
use Rattle.sqe_codec.specs.declared.cmd.Cmd.{Cmd}
use Rattle.sqe_codec.specs.declared.cmd.Cmd.TheVariants as cmd
use Rattle.zone_limits.specs.declared.limits.Limits.{Limits}
use Rattle.zone_limits.specs.declared.limits.Need.{Need}
use Rattle.zone_limits.specs.Resources.{no_need, no_active_left, need_rows, evicts}
use Rattle.identify_zns.specs.Pages.{page_of}
use Rattle.drive_rules.specs.declared.aim.Aim.{Aim}
use Rattle.drive_rules.specs.ZoneRows.{Zone}
use Rattle.drive_rules.specs.Deeds.{rows_for, need_for}
use Rattle.drive_rules.specs.Aims.{open_code, commit_code, sent_deed}

-- ---- rows that several commands have

-- the one namespace is number 1
abbrev pub other_namespace : ℕ → Row Status
other_namespace nsid = when (not (nsid == 1)) invalid_namespace

abbrev pub is_too_long : GeometryFields → ℕ → Bool
is_too_long g bytes = nat_lt (greatest_transfer g) bytes

abbrev pub too_long : GeometryFields → ℕ → Row Status
too_long g bytes = when (is_too_long g bytes) invalid_field

-- blocks that end past the namespace
abbrev pub past_end : GeometryFields → ℕ → ℕ → Row Status
past_end g slba blocks = when (nat_lt (all_blocks g) (slba + blocks)) lba_out_of_range

-- a block past the namespace
abbrev pub no_block : GeometryFields → ℕ → Row Status
no_block g slba = when (nat_le (all_blocks g) slba) lba_out_of_range

-- a block that is no zone's first
abbrev pub no_first_block : GeometryFields → ℕ → Row Status
no_first_block g slba = when (not (offset_of g slba == 0)) invalid_field

-- ---- the rows that no zone decides

abbrev pub flush_rows : ℕ → List (Row Status)
flush_rows nsid = when (not (nsid == 1) && not (nsid == 0xffffffff)) invalid_namespace ∷ []

abbrev pub write_front : GeometryFields → ℕ → ℕ → ℕ → List (Row Status)
write_front g nsid slba blocks = other_namespace nsid ∷ too_long g (blocks * block_len g) ∷ past_end g slba blocks ∷ []

-- the last block's zone
abbrev pub last_zone : GeometryFields → ℕ → ℕ → ℕ
last_zone g slba blocks = zone_of g (slba + blocks - 1)

-- blocks of several zones, on a drive where no Read may cross zones
abbrev pub crosses_zones : GeometryFields → ℕ → ℕ → Row Status
crosses_zones g slba blocks = when (not (zone_of g slba == last_zone g slba blocks) && (g.flags % 2 == 0)) zone_boundary_error

abbrev pub read_front : GeometryFields → ℕ → ℕ → ℕ → List (Row Status)
read_front g nsid slba blocks =
    other_namespace nsid
    ∷ too_long g (blocks * block_len g)
    ∷ past_end g slba blocks
    ∷ crosses_zones g slba blocks
    ∷ []

abbrev pub append_front : GeometryFields → ℕ → ℕ → ℕ → List (Row Status)
append_front g nsid zslba blocks =
    other_namespace nsid
    ∷ too_long g (blocks * block_len g)
    ∷ no_block g zslba
    ∷ no_first_block g zslba
    ∷ when (not (g.zasl == 0) && nat_lt (2 ^ (12 + g.zasl)) (blocks * block_len g)) invalid_field
    ∷ []

-- A Zone Management Send: a commit, and an Open that asks for a random write area, go to one zone alone.
abbrev pub send_front : GeometryFields → ℕ → ℕ → ℕ → Bool → Bool → List (Row Status)
send_front g nsid slba act all option =
    other_namespace nsid
    ∷ when (not (is_some (sent_deed act option 0))) invalid_field
    ∷ when (all && ((act == commit_code) || ((act == open_code) && option))) invalid_field
    ∷ when (not all && nat_le (all_blocks g) slba) lba_out_of_range
    ∷ when (not all && not (act == commit_code) && not (offset_of g slba == 0)) invalid_field
    ∷ []

-- a Zone Management Receive: action 0 is a report, and a filter is 0 to 7
abbrev pub receive_rows : GeometryFields → ℕ → ℕ → ℕ → ℕ → ℕ → List (Row Status)
receive_rows g nsid slba bytes act filter =
    other_namespace nsid
    ∷ too_long g bytes
    ∷ when (not (act == 0)) invalid_field
    ∷ when (nat_lt 7 filter) invalid_field
    ∷ no_block g slba
    ∷ []

-- the log page of changed zones
abbrev pub changed_zone_list : ℕ
changed_zone_list = 0xbf

abbrev pub log_rows : GeometryFields → ℕ → ℕ → ℕ → ℕ → List (Row Status)
log_rows g nsid page bytes offset =
    when (not (page == changed_zone_list)) invalid_log_page
    ∷ other_namespace nsid
    ∷ too_long g bytes
    ∷ when (not (offset == 0)) invalid_field
    ∷ []

-- Identify, by the pages that there are; two of them are of the namespace
abbrev pub identify_rows : GeometryFields → ℕ → ℕ → ℕ → List (Row Status)
identify_rows g nsid cns csi =
    when (is_none (page_of cns csi g)) invalid_field
    ∷ when (((cns == 0x00) || (cns == 0x05)) && not (nsid == 1)) invalid_namespace
    ∷ []

-- the asynchronous event configuration
abbrev pub event_configuration : ℕ
event_configuration = 0x0b

abbrev pub feature_rows : ℕ → List (Row Status)
feature_rows feature = when (not (feature == event_configuration)) invalid_field ∷ []

abbrev pub excursion_front : GeometryFields → ℕ → ℕ → ℕ → List (Row Status)
excursion_front g nsid slba kind =
    other_namespace nsid
    ∷ when (nat_lt kind 1 || nat_lt 5 kind) invalid_field
    ∷ no_block g slba
    ∷ no_first_block g slba
    ∷ []

-- an opcode that isn't listed
abbrev pub unknown_rows : List (Row Status)
unknown_rows = when true invalid_opcode ∷ []

-- the rows of a command that don't depend on a zone, in their order
abbrev pub front_rows : GeometryFields → Cmd → List (Row Status)
front_rows g (cmd.Flush nsid) = flush_rows nsid
front_rows g (cmd.Write nsid slba blocks) = write_front g nsid slba blocks
front_rows g (cmd.Read nsid slba blocks) = read_front g nsid slba blocks
front_rows g (cmd.Append nsid zslba blocks) = append_front g nsid zslba blocks
front_rows g (cmd.Send nsid slba act all option) = send_front g nsid slba act all option
front_rows g (cmd.Receive nsid slba bytes act filter partial) = receive_rows g nsid slba bytes act filter
front_rows g (cmd.Identify nsid cns csi) = identify_rows g nsid cns csi
front_rows g (cmd.GetLog nsid page bytes offset retain) = log_rows g nsid page bytes offset
front_rows g (cmd.SetFeature feature value) = feature_rows feature
front_rows g (cmd.GetFeature feature) = feature_rows feature
front_rows g cmd.Event = []
front_rows g (cmd.Excursion nsid slba kind) = excursion_front g nsid slba kind
front_rows g (cmd.Unknown opcode) = unknown_rows

-- ---- the rows of commands that go to no one zone

-- the zones from one to another
abbrev pub zones_between : ℕ → ℕ → List ℕ
zones_between from to = range_with_len from (to + 1 - from)

-- a Read of blocks in zones of these states
abbrev pub read_rows : GeometryFields → (ℕ → State) → ℕ → ℕ → List (Row Status)
read_rows g state_of slba blocks =
    when (list_any (λ z. is_offline (state_of z)) (zones_between (zone_of g slba) (last_zone g slba blocks))) zone_offline ∷ []

-- an Open of all Closed zones, whose number is `closed`
abbrev pub open_all_rows : GeometryFields → Limits → ℕ → List (Row Status)
open_all_rows g n closed = when (not (g.open_limit == 0) && nat_lt g.open_limit (n.opened + closed)) too_many_open_zones ∷ []

-- a Send to all zones
abbrev pub send_all_rows : GeometryFields → Limits → ℕ → Bool → ℕ → List (Row Status)
send_all_rows g n closed all act = if all && (act == open_code) then open_all_rows g n closed else []

-- at most four event requests wait
abbrev pub event_rows : Bool → List ℕ → List (Row Status)
event_rows pending waiting = when (not pending && nat_le 4 (length waiting)) event_limit_exceeded ∷ []

-- ---- tables

-- A command's table: the rows that don't depend on a zone, those of its zone or of the drive's marks, what it needs, and the zone that
-- needs it, or none.
pub record Table : Type 0 where
  pub front : List (Row Status)
  pub own : List (Row Status)
  pub need : Need
  pub target : Option ℕ

-- the rows of a table before those on resources
abbrev pub judging_rows : Table → List (Row Status)
judging_rows t = t.front ++ t.own

-- All rows of a table, with these resources in use. If another zone can be closed, too many open zones don't refuse the command.
abbrev pub table_rows : GeometryFields → Limits → Bool → Table → List (Row Status)
table_rows g n evictable t = judging_rows t ++ need_rows g n t.need evictable

-- Every row before "too many open zones" passes, an open resource is needed, and the open limit is reached: another zone
-- has to give way, or the command is refused.
abbrev pub wants_room : GeometryFields → Limits → List (Row Status) → Need → Bool
wants_room g n rows need = is_none (first_holding (rows ++ no_active_left g n need ∷ [])) && evicts g n need

-- the table of a command for a deed to one zone
abbrev pub aim_table : GeometryFields → Cmd → Aim → Zone → Table
aim_table g k aim zone = record { front = front_rows g k; own = rows_for g aim.deed zone; need = need_for aim.deed zone; target = Some aim.zone }

-- the table of a command that goes to no one zone
abbrev pub plain_table : GeometryFields → Cmd → List (Row Status) → Table
plain_table g k own = record { front = front_rows g k; own = own; need = no_need; target = None }

-- the code of the first row that holds, or Success
abbrev pub first_refusal : List (Row Status) → Status
first_refusal rs = unwrap_or (first_holding rs) success
