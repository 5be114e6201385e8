-- What sending the oldest command does.
use Rattle.std.specs.Prelude.{◌≡◌, ℕ, if◌then◌else◌, List, [], ◌∷◌, ◌++◌, length, take, slice_index, slice_set, Option, Some, None, Result, Ok, Err}
use Rattle.zns_types.specs.declared.fields.GeometryFields.{GeometryFields}
use Rattle.zns_types.specs.Fields.{bits, dword}
use Rattle.zns_types.specs.Statuses.{Status, is_success}
use Rattle.sqe_codec.specs.declared.cmd.Cmd.{Cmd}
use Rattle.sqe_codec.specs.Commands.{cid_of}
use Rattle.cqe_codec.specs.Entries.{sets_unused}
use Rattle.zone_model.specs.declared.act.Act.{Act}
use Rattle.zone_model.specs.Places.{Place, command_of}
use Rattle.zone_model.specs.Answers.{status, answered}
use Rattle.zone_model.specs.Entries.{dwords_of}
use Rattle.zone_model.specs.Replies.{reply_bytes}
use Rattle.host_library.specs.declared.done.Done.{Done}
use Rattle.host_library.specs.declared.shadow.Shadow.{Shadow}
use Rattle.host_library.specs.declared.host_err.HostErr.{HostErr}
use Rattle.host_library.specs.declared.host_err.HostErr.TheVariants as error
use Rattle.host_library.specs.Links.{Answer}
use Rattle.host_library.specs.Shadows.{unknown}
use Rattle.host_library.specs.Asking.{zone_about, shadow_done}
use Rattle.host_library.specs.Hosts.{Hosted, shadow_in}

-- ---- what an entry says

-- the status that an entry carries
abbrev pub status_in : List ℕ → Status
status_in entry = record { sct = bits 27 25 (dword 3 entry); sc = bits 24 17 (dword 3 entry) }

-- What comes of a command, from its entry: torn, if bits are set that no entry uses; refused; or done.
abbrev pub verdict_of : ℕ → List ℕ → ℕ → Result Done HostErr
verdict_of cid entry len =
    if sets_unused entry then Err (error.Torn (slice_index entry 15))
    else if is_success (status_in entry) then Ok (record { cid = cid; dw0 = dword 0 entry; dw1 = dword 1 entry; len = len })
    else Err (error.Refused (status_in entry))

-- what comes of an act, from the link's answer
abbrev pub verdict_by : Act → Answer → Result Done HostErr
verdict_by a (Ok answer) = verdict_of (cid_of a.sqe.bytes) answer.0 answer.1
verdict_by a (Err payload) = Err error.LinkFault

-- what comes of an act, from the definitions
abbrev pub verdict_told : GeometryFields → List Place → Act → Result Done HostErr
verdict_told g h a =
    if is_success (status g h a) then Ok (record { cid = cid_of a.sqe.bytes; dw0 = (dwords_of g h a).dw0; dw1 = (dwords_of g h a).dw1; len = length (reply_bytes g h a) })
    else Err (error.Refused (status g h a))

-- ---- shadows

-- the shadows after that of one zone changed, if there is one
abbrev pub with_changed : Option ℕ → (Shadow → Shadow) → List Shadow → List Shadow
with_changed None f shadows = shadows
with_changed (Some z) f shadows = slice_set shadows z (f (shadow_in shadows z))

-- The shadows after a command. A refused command changes none, and one whose link failed or whose entry was torn makes its zone's unknown.
abbrev pub shadows_after : GeometryFields → Cmd → Result Done HostErr → List ℕ → List Shadow → List Shadow
shadows_after g k (Ok done) out shadows = with_changed (zone_about g k) (shadow_done g k out) shadows
shadows_after g k (Err (error.Refused code)) out shadows = shadows
shadows_after g k (Err _) out shadows = with_changed (zone_about g k) (λ _. unknown) shadows

-- ---- the call

-- the commands that wait afterwards: the oldest again, if the link failed
abbrev pub ring_after : Act → List Act → Result Done HostErr → List Act
ring_after a rest (Err error.LinkFault) = a ∷ rest
ring_after a rest _ = rest

-- what the call returns
abbrev pub pumped : Result Done HostErr → Result (Option Done) HostErr
pumped (Ok done) = Ok (Some done)
pumped (Err e) = Err e

module _ {L : Type 0} where
  -- the host after its oldest command was sent
  abbrev pub host_after : Hosted L → L → Act → List Act → Result Done HostErr → List ℕ → Hosted L
  host_after h link a rest verdict out = record h {
    link = link;
    ring = ring_after a rest verdict;
    shadows = shadows_after h.geometry (command_of a) verdict out h.shadows;
  }

  -- The oldest command was sent, once: what the link may have answered to it decides what comes of the command and what
  -- the host becomes.
  pub record Sends (step : Act → Answer → L → Type 0) (before after : Hosted L) (given : Result (Option Done) HostErr) (out : List ℕ) : Type 0 where
    pub act : Act
    pub rest : List Act
    pub oldest : before.ring ≡ act ∷ rest
    pub answer : Answer
    pub sent : step act answer after.link
    pub result : given ≡ pumped (verdict_by act answer)
    pub host : after ≡ host_after before after.link act rest (verdict_by act answer) out

-- ---- by the history

-- what a told history says of a call that sent an act
pub record IsTold (g : GeometryFields) (acts : List Act) (a : Act) (told : Option (List Act)) (given : Result (Option Done) HostErr) (out : List ℕ) : Type 0 where
  pub result : given ≡ pumped (verdict_told g (answered g acts) a)
  pub history : told ≡ Some (acts ++ a ∷ [])
  pub read : take (length (reply_bytes g (answered g acts) a)) out ≡ reply_bytes g (answered g acts) a
