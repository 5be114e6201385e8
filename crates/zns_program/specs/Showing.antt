-- The text that shows a session: a line with the drive's numbers, and a line for each command.
use Rattle.std.specs.Prelude.{ℕ, ◌+◌, List, [], ◌∷◌, ◌++◌, length, codes}
use Rattle.std.specs.Fmt.{decimal}
use Rattle.hex.specs.Hex.{encode_lower}
use Rattle.zns_types.specs.declared.fields.GeometryFields.{GeometryFields}
use Rattle.zns_types.specs.Geometry.{block_len}
use Rattle.sqe_codec.specs.declared.cmd.Cmd.{Cmd}
use Rattle.sqe_codec.specs.declared.cmd.Cmd.TheVariants as cmd
use Rattle.sqe_codec.specs.Commands.{cid_of}
use Rattle.zone_model.specs.declared.act.Act.{Act}
use Rattle.zone_model.specs.Places.{command_of}
use Rattle.zone_model.specs.Sessions.{Recorded}
use Rattle.text_lines.specs.Texts.{line}

abbrev pub drive_line : GeometryFields → ℕ → List ℕ
drive_line g acts = line (
    codes "zones" ∷ decimal g.zones
    ∷ codes "size" ∷ decimal g.zone_size
    ∷ codes "capacity" ∷ decimal g.capacity
    ∷ codes "block" ∷ decimal (block_len g)
    ∷ codes "active" ∷ decimal g.active_limit
    ∷ codes "open" ∷ decimal g.open_limit
    ∷ codes "windows" ∷ decimal g.windows
    ∷ codes "granule" ∷ decimal g.granule
    ∷ codes "window" ∷ decimal g.window
    ∷ codes "queues" ∷ decimal g.queues
    ∷ codes "depth" ∷ decimal g.depth
    ∷ codes "commands" ∷ decimal acts
    ∷ [])

abbrev pub name_of : Cmd → List ℕ
name_of (cmd.Flush nsid) = codes "Flush"
name_of (cmd.Write nsid slba blocks) = codes "Write"
name_of (cmd.Read nsid slba blocks) = codes "Read"
name_of (cmd.Append nsid zslba blocks) = codes "Append"
name_of (cmd.Send nsid slba act all option) = codes "Send"
name_of (cmd.Receive nsid slba bytes act filter partial) = codes "Receive"
name_of (cmd.Identify nsid cns csi) = codes "Identify"
name_of (cmd.GetLog nsid page bytes offset retain) = codes "GetLog"
name_of (cmd.SetFeature feature value) = codes "SetFeature"
name_of (cmd.GetFeature feature) = codes "GetFeature"
name_of cmd.Event = codes "Event"
name_of (cmd.Excursion nsid slba kind) = codes "Excursion"
name_of (cmd.Unknown opcode) = codes "Unknown"

-- the line of an act, by its number from 0: its queue, its command number, its command's name, and its entry's bytes
abbrev pub act_line : ℕ → Act → List ℕ
act_line number a = line (
    decimal number
    ∷ codes "queue" ∷ decimal a.queue
    ∷ codes "cid" ∷ decimal (cid_of a.sqe.bytes)
    ∷ name_of (command_of a)
    ∷ encode_lower a.sqe.bytes
    ∷ [])

-- the lines of acts, the first of which has this number
abbrev pub act_lines : ℕ → List Act → List ℕ
act_lines number [] = []
act_lines number (a ∷ acts) = act_line number a ++ act_lines (number + 1) acts

unfoldable pub shown : Recorded → List ℕ
shown s = drive_line s.geometry (length s.acts) ++ act_lines 0 s.acts
