-- What a command asks for: a deed to one zone, or one to every zone whose state takes it.
use Rattle.std.specs.Prelude.{ℕ, Bool, ◌==◌, if◌then◌else◌, Option, Some, None}
use Rattle.zns_types.specs.declared.fields.GeometryFields.{GeometryFields}
use Rattle.zns_types.specs.Geometry.{zone_of, offset_of}
use Rattle.sqe_codec.specs.declared.cmd.Cmd.{Cmd}
use Rattle.sqe_codec.specs.declared.cmd.Cmd.TheVariants as cmd
use Rattle.drive_rules.specs.declared.deed.Deed.{Deed}
use Rattle.drive_rules.specs.declared.deed.Deed.TheVariants as deed
use Rattle.drive_rules.specs.declared.aim.Aim.{Aim}

-- the codes of Zone Management Send that have rows of their own
abbrev pub open_code : ℕ
open_code = 0x03

abbrev pub commit_code : ℕ
commit_code = 0x11

-- The deed that a Zone Management Send asks for, from the code of its action: an Open may ask for a random write area, and a commit names
-- its last block. (Zoned Namespace Command Set Specification 1.1, 3.4.3.)
abbrev pub sent_deed : ℕ → Bool → ℕ → Option Deed
sent_deed code option last =
    if code == 0x01 then Some deed.Close
    else if code == 0x02 then Some deed.Finish
    else if code == open_code then Some (deed.Open option)
    else if code == 0x04 then Some deed.Reset
    else if code == 0x05 then Some deed.Offline
    else if code == commit_code then Some (deed.Commit last)
    else None

-- a deed, or none, to a zone
abbrev pub aimed_at : ℕ → Option Deed → Option Aim
aimed_at zone None = None
aimed_at zone (Some d) = Some (record { zone = zone; deed = d })

-- the deed that a command asks for on one zone, and that zone
abbrev pub aim_of : GeometryFields → Cmd → Option Aim
aim_of g (cmd.Write nsid slba blocks) = Some (record { zone = zone_of g slba; deed = deed.Write (offset_of g slba) blocks })
aim_of g (cmd.Append nsid zslba blocks) = Some (record { zone = zone_of g zslba; deed = deed.Append blocks })
aim_of g (cmd.Send nsid slba act all option) = if all then None else aimed_at (zone_of g slba) (sent_deed act option (offset_of g slba))
aim_of g (cmd.Excursion nsid slba kind) = Some (record { zone = zone_of g slba; deed = deed.Excursion kind })
aim_of g _ = None

-- the deed that a command asks for on every zone whose state takes it
abbrev pub sweep_of : Cmd → Option Deed
sweep_of (cmd.Send nsid slba act all option) = if all then sent_deed act option 0 else None
sweep_of _ = None
