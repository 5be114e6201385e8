-- A history of what was asked and answered, the newest place first. A place says what one act did; the drive's present state is found by
-- looking back over the places.
use Rattle.std.specs.Prelude.{ℕ, ◌+◌, Bool, true, false, not, ◌&&◌, ◌==◌, if◌then◌else◌, List, [], ◌∷◌, Option, Some, None, is_some}
use Rattle.zns_types.specs.declared.fields.GeometryFields.{GeometryFields}
use Rattle.zns_types.specs.Statuses.{Status, is_success}
use Rattle.zns_types.specs.Geometry.{zone_of}
use Rattle.sqe_codec.specs.declared.cmd.Cmd.{Cmd}
use Rattle.sqe_codec.specs.declared.cmd.Cmd.TheVariants as cmd
use Rattle.sqe_codec.specs.Commands.{command}
use Rattle.drive_rules.specs.declared.deed.Deed.{Deed}
use Rattle.zone_history.specs.Histories.{Done}
use Rattle.zone_model.specs.declared.act.Act.{Act}

-- An act, its status, what it did to each zone, and the number of the event request that it answered.
pub record Place : Type 0 where
  pub act : Act
  pub status : Status
  pub deed : ℕ → Option Deed
  pub fired : Option ℕ

-- the act succeeded
abbrev pub took : Place → Bool
took p = is_success p.status

-- the command of an act: queue 0 is the admin queue
abbrev pub command_of : Act → Cmd
command_of a = command (a.queue == 0) a.sqe.bytes

-- ---- what was done to a zone

-- deeds, with one more if there is one
abbrev pub with_deed : Option Deed → List ℕ → List Done → List Done
with_deed None payload ds = ds
with_deed (Some d) payload ds = record { deed = d; payload = payload } ∷ ds

-- What was done to a zone, newest deed first.
unfoldable pub deeds : List Place → ℕ → List Done
deeds [] z = []
deeds (p ∷ h) z = with_deed (p.deed z) p.act.payload (deeds h z)

-- ---- what a place did to the notices

-- the command makes the controller act on a zone
abbrev pub is_excursion : Cmd → Bool
is_excursion (cmd.Excursion nsid slba kind) = true
is_excursion _ = false

-- the excursion's zone became one of the changed zones
abbrev pub changes : GeometryFields → ℕ → Cmd → Bool
changes g z (cmd.Excursion nsid slba kind) = zone_of g slba == z
changes g z _ = false

unfoldable pub changed_zone : GeometryFields → ℕ → Place → Bool
changed_zone g z p = took p && changes g z (command_of p.act)

unfoldable pub had_excursion : Place → Bool
had_excursion p = took p && is_excursion (command_of p.act)

-- a log page is read with Retain Asynchronous Event clear
abbrev pub reads_and_clears : Cmd → Bool
reads_and_clears (cmd.GetLog nsid page bytes offset retain) = not retain
reads_and_clears _ = false

unfoldable pub cleared : Place → Bool
cleared p = took p && reads_and_clears (command_of p.act)

abbrev pub is_event_request : Cmd → Bool
is_event_request cmd.Event = true
is_event_request _ = false

-- an event request succeeded but was not answered at once
unfoldable pub waited : Place → Bool
waited p = took p && is_event_request (command_of p.act) && not (is_some p.fired)

-- the places since the changed zones were last read and cleared
abbrev pub since_cleared : List Place → List Place
since_cleared [] = []
since_cleared (p ∷ h) = if cleared p then [] else p ∷ since_cleared h

abbrev pub total : (Place → ℕ) → List Place → ℕ
total f [] = 0
total f (p ∷ ps) = f p + total f ps
