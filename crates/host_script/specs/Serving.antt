-- What serving a script does with its host, line by line.
use Rattle.std.specs.Prelude.{◌≡◌, ℕ, ◌+◌, ◌*◌, ◌%◌, ◌^◌, ◌≤◌, List, [], ◌∷◌, ◌++◌, length, take, Option, Result, Ok, Err}
use Rattle.zns_types.specs.declared.fields.GeometryFields.{GeometryFields}
use Rattle.zns_types.specs.Statuses.{Status}
use Rattle.zone_model.specs.declared.act.Act.{Act}
use Rattle.zone_model.specs.Answers.{answered}
use Rattle.zone_model.specs.Replies.{reply_bytes}
use Rattle.host_library.specs.declared.done.Done.{Done}
use Rattle.host_library.specs.declared.loop_link.LoopLink.{LoopLink}
use Rattle.host_library.specs.declared.host_err.HostErr.{HostErr}
use Rattle.host_library.specs.declared.host_err.HostErr.TheVariants as error
use Rattle.host_library.specs.Hosts.{Hosted}
use Rattle.host_library.specs.Pumping.{verdict_told, pumped}
use Rattle.host_script.specs.declared.line.Line.{Line}
use Rattle.host_script.specs.Scripts.{done_line, refused_line}

-- the outcome of a command: it was done, or refused with a status
abbrev pub Outcome : Type 0
Outcome = Result Done Status

-- what comes of a command with this outcome
abbrev pub verdict_of_outcome : Outcome → Result Done HostErr
verdict_of_outcome (Ok done) = Ok done
verdict_of_outcome (Err s) = Err (error.Refused s)

abbrev pub answer_of : Outcome → Result (Option Done) HostErr
answer_of outcome = pumped (verdict_of_outcome outcome)

-- a host's answer gives the outcome of a command
pub record IsOutcome (given : Result (Option Done) HostErr) : Type 0 where
  pub outcome : Outcome
  pub same : given ≡ answer_of outcome

-- what is written for a line, from the outcome of its command and from what was read
abbrev pub outcome_line : GeometryFields → Line → Outcome → List ℕ → List ℕ
outcome_line g l (Ok done) read = done_line g l (done.dw0 + 2 ^ 32 * done.dw1) read
outcome_line g l (Err s) read = refused_line s

-- the acts that a host's drive has served
abbrev pub acts_of_host : Hosted LoopLink → List Act
acts_of_host h = h.link.drive.acts

-- Between two lines no command waits, and the number of the next one is the number of the drive's acts.
pub record IsIdle (h : Hosted LoopLink) : Type 0 where
  pub ring : h.ring ≡ []
  pub next : h.next ≡ length (acts_of_host h) % 2 ^ 16

-- The one command that waited was sent, with this outcome, and this is what it read.
pub record IsSent (before after : Hosted LoopLink) (a : Act) (outcome : Outcome) (out : List ℕ) : Type 0 where
  pub ring : after.ring ≡ []
  pub next : after.next ≡ before.next
  pub geometry : after.geometry ≡ before.geometry
  pub acts : acts_of_host after ≡ acts_of_host before ++ a ∷ []
  pub spare : before.link.drive.spare ≤ after.link.drive.spare + 1
  pub same : verdict_of_outcome outcome ≡ verdict_told before.geometry (answered before.geometry (acts_of_host before)) a
  pub read : take (length (reply_bytes before.geometry (answered before.geometry (acts_of_host before)) a)) out ≡ reply_bytes before.geometry (answered before.geometry (acts_of_host before)) a
