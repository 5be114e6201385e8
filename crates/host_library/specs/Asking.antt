-- The commands of a host, and the zone that each is about.
use Rattle.std.specs.Prelude.{◌≡◌, ℕ, ◌+◌, ◌*◌, ◌/◌, ◌≤◌, Bool, true, false, not, ◌&&◌, ◌||◌, ◌==◌, nat_lt, nat_le, if◌then◌else◌, List, length, Option, Some, None, slice_range}
use Rattle.zns_types.specs.declared.fields.GeometryFields.{GeometryFields}
use Rattle.zns_types.specs.Geometry.{all_blocks, block_len, first, zone_of, offset_of}
use Rattle.sqe_codec.specs.declared.cmd.Cmd.{Cmd}
use Rattle.sqe_codec.specs.declared.cmd.Cmd.TheVariants as cmd
use Rattle.sqe_codec.specs.Commands.{transfer_len, reply_len}
use Rattle.sqe_codec.specs.Ranges.{IsWritable}
use Rattle.sqe_codec.specs.Writing.{entry_of}
use Rattle.drive_rules.specs.declared.deed.Deed.{Deed}
use Rattle.drive_rules.specs.declared.deed.Deed.TheVariants as deed
use Rattle.zone_model.specs.declared.act.Act.{Act}
use Rattle.zone_model.specs.Places.{command_of}
use Rattle.solo_drive.specs.Drives.{HasLengths}
use Rattle.host_library.specs.declared.shadow.Shadow.{Shadow}
use Rattle.host_library.specs.Shadows.{unknown, is_known, shadow_after, shadow_shown}

-- ---- acts

-- the queue that a host uses
abbrev pub host_queue : ℕ
host_queue = 1

-- the bytes of a report of one zone
abbrev pub report_len : ℕ
report_len = 128

-- the act of a command, with the number that the host gives it
abbrev pub act_for : Cmd → ℕ → List ℕ → Act
act_for k cid payload = record { queue = host_queue; sqe = record { bytes = entry_of k cid }; payload = payload }

-- host data of 1 to 65,536 whole blocks
pub record IsData (g : GeometryFields) (payload : List ℕ) : Type 0 where
  pub some : 1 ≤ length payload / block_len g
  pub few : length payload / block_len g ≤ 65536
  pub whole : length payload / block_len g * block_len g ≡ length payload

-- its blocks
abbrev pub blocks_in : GeometryFields → List ℕ → ℕ
blocks_in g payload = length payload / block_len g

-- ---- the commands of the calls

abbrev pub write_at : GeometryFields → ℕ → List ℕ → Cmd
write_at g lba payload = cmd.Write 1 lba (blocks_in g payload)

abbrev pub append_to : GeometryFields → ℕ → List ℕ → Cmd
append_to g zone payload = cmd.Append 1 (first g zone) (blocks_in g payload)

-- a write from an offset in a zone on
abbrev pub put_at : GeometryFields → ℕ → ℕ → List ℕ → Cmd
put_at g zone offset payload = write_at g (first g zone + offset) payload

-- the codes of Zone Management Send that a host uses: Zoned Namespace Command Set Specification 1.1, 3.4.3
abbrev pub open_code : ℕ
open_code = 0x03

abbrev pub reset_code : ℕ
reset_code = 0x04

abbrev pub commit_code : ℕ
commit_code = 0x11

-- a Zone Management Send to the zone of a block
abbrev pub sent_to : ℕ → ℕ → Bool → Cmd
sent_to slba code option = cmd.Send 1 slba code false option

abbrev pub open_with_window : GeometryFields → ℕ → Cmd
open_with_window g zone = sent_to (first g zone) open_code true

abbrev pub commit_to : GeometryFields → ℕ → ℕ → Cmd
commit_to g zone last = sent_to (first g zone + last) commit_code false

abbrev pub reset_of : GeometryFields → ℕ → Cmd
reset_of g zone = sent_to (first g zone) reset_code false

-- a report of one zone
abbrev pub report_of : GeometryFields → ℕ → Cmd
report_of g zone = cmd.Receive 1 (first g zone) report_len 0 0 true

-- ---- the commands in a ring

-- the commands that a host sends
abbrev pub is_asked : GeometryFields → Cmd → Bool
is_asked g (cmd.Write nsid slba blocks) = true
is_asked g (cmd.Append nsid zslba blocks) = true
is_asked g (cmd.Send nsid slba act all option) = not all && ((act == open_code) || (act == reset_code) || (act == commit_code))
is_asked g (cmd.Receive nsid slba bytes act filter partial) = (bytes == report_len) && (act == 0) && (filter == 0) && partial
is_asked g _ = false

-- a command of a host that an entry spells, with its host data
pub record IsCommand (g : GeometryFields) (k : Cmd) (payload : List ℕ) : Type 0 where
  pub writable : IsWritable k
  pub kind : is_asked g k ≡ true
  pub transfer : length payload ≡ transfer_len g k
  pub reply : reply_len g k ≤ report_len

-- an act of a host
pub record IsAsked (g : GeometryFields) (a : Act) : Type 0 where
  pub queue : a.queue ≡ host_queue
  pub lengths : HasLengths g a report_len
  pub kind : is_asked g (command_of a) ≡ true

-- ---- the zone that a command is about

-- the zone of a block, if the namespace has the block
abbrev pub zone_at : GeometryFields → ℕ → Option ℕ
zone_at g lba = if nat_lt lba (all_blocks g) then Some (zone_of g lba) else None

-- A write past the namespace is about no zone.
abbrev pub zone_about : GeometryFields → Cmd → Option ℕ
zone_about g (cmd.Write nsid slba blocks) = if nat_le (slba + blocks) (all_blocks g) then zone_at g slba else None
zone_about g (cmd.Append nsid zslba blocks) = zone_at g zslba
zone_about g (cmd.Send nsid slba act all option) = zone_at g slba
zone_about g (cmd.Receive nsid slba bytes act filter partial) = zone_at g slba
zone_about g _ = None

-- what a Zone Management Send of the host does to its zone
abbrev pub deed_sent : ℕ → Bool → ℕ → Option Deed
deed_sent code option last =
    if code == open_code then Some (deed.Open option)
    else if code == reset_code then Some deed.Reset
    else if code == commit_code then Some (deed.Commit last)
    else None

-- what a command of the host does to its zone
abbrev pub deed_of : GeometryFields → Cmd → Option Deed
deed_of g (cmd.Write nsid slba blocks) = Some (deed.Write (offset_of g slba) blocks)
deed_of g (cmd.Append nsid zslba blocks) = Some (deed.Append blocks)
deed_of g (cmd.Send nsid slba act all option) = deed_sent act option (offset_of g slba)
deed_of g _ = None

-- a known shadow after a deed; an unknown one stays unknown
abbrev pub shadow_led : GeometryFields → Option Deed → Shadow → Shadow
shadow_led g None s = s
shadow_led g (Some d) s = if is_known s.stage then shadow_after g d s else unknown

-- A zone's shadow after a command that succeeded. A report has the zone's descriptor after its head of 64 bytes.
abbrev pub shadow_done : GeometryFields → Cmd → List ℕ → Shadow → Shadow
shadow_done g (cmd.Receive nsid slba bytes act filter partial) out s = shadow_shown g (zone_of g slba) (slice_range out 64 128)
shadow_done g k out s = shadow_led g (deed_of g k) s
