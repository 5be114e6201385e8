-- What becomes of a command.
use Rattle.std.specs.Prelude.{◌≡◌, ℕ, true, false, List, length, Option, None}
use Rattle.zns_types.specs.declared.fields.GeometryFields.{GeometryFields}
use Rattle.zns_types.specs.Statuses.{Status, success, event_limit_exceeded}
use Rattle.sqe_codec.specs.declared.cmd.Cmd.{Cmd}
use Rattle.sqe_codec.specs.declared.cmd.Cmd.TheVariants as cmd
use Rattle.changed_log.specs.declared.waited.Waited.{Waited}
use Rattle.changed_log.specs.declared.waited.Waited.TheVariants as waited
use Rattle.zone_model.specs.declared.act.Act.{Act}
use Rattle.zone_model.specs.Places.{Place, command_of}
use Rattle.zone_model.specs.Answers.{status, fires}
use Rattle.zone_model.specs.Entries.{dwords_of, event_dwords, waits}
use Rattle.zone_model.specs.Replies.{reply_bytes}
use Rattle.drive_book.specs.declared.outcome.Outcome.{Outcome}

abbrev pub refusal_with : Status → Outcome
refusal_with code = record { code = code; dw0 = 0; dw1 = 0; len = 0; event = None; waits = false }

-- success, with an empty result
abbrev pub plain_success : Outcome
plain_success = refusal_with success

-- what an event request is told
abbrev pub told : Outcome
told = record plain_success { dw0 = event_dwords.dw0; dw1 = event_dwords.dw1 }

-- what becomes of an event request
abbrev pub request_outcome : Waited → Outcome
request_outcome waited.Fired = told
request_outcome waited.Limit = refusal_with event_limit_exceeded
request_outcome waited.Kept = record told { waits = true }

-- the event request that an excursion answers
abbrev pub event_by : Cmd → Option ℕ → Option ℕ
event_by (cmd.Excursion nsid slba kind) fired = fired
event_by _ fired = None

abbrev pub event_of : GeometryFields → List Place → Act → Option ℕ
event_of g h a = event_by (command_of a) (fires g h a)

-- This is what becomes of an act after a history.
pub record OutcomeStands (g : GeometryFields) (h : List Place) (a : Act) (o : Outcome) : Type 0 where
  pub code : o.code ≡ status g h a
  pub dw0 : o.dw0 ≡ (dwords_of g h a).dw0
  pub dw1 : o.dw1 ≡ (dwords_of g h a).dw1
  pub len : o.len ≡ length (reply_bytes g h a)
  pub event : o.event ≡ event_of g h a
  pub waits : o.waits ≡ waits g h a
