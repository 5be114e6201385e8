-- The changed zones and the events that report them: NVM Express Base Specification 2.0, 5.2 (Asynchronous Event Request), and Zoned
-- Namespace Command Set Specification 1.1, 4.1.3 and 4.1.4.
use Rattle.std.specs.Prelude.{ℕ, Bool, false, not, ◌&&◌, ◌||◌, if◌then◌else◌, List, [], ◌∷◌, ◌++◌, drop, filter, Option, Some, None, is_some}
use Rattle.std.specs.List.{list_any}
use Rattle.zns_types.specs.declared.fields.GeometryFields.{GeometryFields}
use Rattle.zns_types.specs.Fields.{bit}
use Rattle.sqe_codec.specs.declared.cmd.Cmd.{Cmd}
use Rattle.sqe_codec.specs.declared.cmd.Cmd.TheVariants as cmd
use Rattle.sqe_codec.specs.Commands.{cid_of}
use Rattle.zone_model.specs.Places.{Place, took, command_of, changed_zone, had_excursion, cleared, waited, since_cleared, total}
use Rattle.zone_model.specs.Zones.{zones}
use Rattle.drive_rules.specs.Shown.{one}

-- The zones that a successful excursion changed since they were last read and cleared, rising.
unfoldable pub changed : GeometryFields → List Place → List ℕ
changed g h = filter (λ z. list_any (changed_zone g z) (since_cleared h)) (zones g)

-- Zone Descriptor Changed notices: bit 27 of the asynchronous event configuration.
abbrev pub enabled_by : Bool → Cmd → Bool → Bool
enabled_by took (cmd.SetFeature feature value) before = if took then bit 27 value else before
enabled_by took _ before = before

unfoldable pub enabled : List Place → Bool
enabled [] = false
enabled (p ∷ h) = enabled_by (took p) (command_of p.act) (enabled h)

-- An event was reported, and the changed zones have not been read and cleared since.
unfoldable pub masked : List Place → Bool
masked h = list_any (λ p. is_some p.fired) (since_cleared h)

-- an excursion succeeded while notices were enabled, and the changed zones have not been read and cleared since
abbrev pub noticed : List Place → Bool
noticed [] = false
noticed (p ∷ h) = if cleared p then false else (had_excursion p && enabled h) || noticed h

-- An event is there to be reported.
unfoldable pub pending : List Place → Bool
pending h = not (masked h) && noticed h

-- the identifiers of the event requests that were not answered at once, in order
abbrev pub requests : List Place → List ℕ
requests [] = []
requests (p ∷ h) = if waited p then requests h ++ cid_of p.act.sqe.bytes ∷ [] else requests h

-- how many of these requests an excursion has answered
abbrev pub answered_requests : List Place → ℕ
answered_requests h = total (λ p. one (had_excursion p && is_some p.fired)) h

-- The identifiers of the event requests that wait, the oldest first.
unfoldable pub waiting : List Place → List ℕ
waiting h = drop (answered_requests h) (requests h)

abbrev pub first_of : List ℕ → Option ℕ
first_of [] = None
first_of (x ∷ xs) = Some x

-- the event request that an act answers when it succeeds: for an excursion, the oldest that waits; for an event request, itself if there is
-- an event to report
abbrev pub fires_by : List Place → ℕ → Cmd → Option ℕ
fires_by h cid (cmd.Excursion nsid slba kind) = if enabled h && not (masked h) then first_of (waiting h) else None
fires_by h cid cmd.Event = if pending h then Some cid else None
fires_by h cid _ = None
