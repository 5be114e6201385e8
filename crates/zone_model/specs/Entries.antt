-- The completion queue entries that an act posts.
use Rattle.std.specs.Prelude.{ℕ, ◌+◌, ◌/◌, ◌%◌, ◌^◌, Bool, not, ◌&&◌, ◌==◌, if◌then◌else◌, List, [], ◌∷◌, Option, Some, is_some, is_none}
use Rattle.zns_types.specs.declared.fields.GeometryFields.{GeometryFields}
use Rattle.zns_types.specs.Geometry.{zone_of, first}
use Rattle.zns_types.specs.Statuses.{Status, success, is_success, do_not_retry}
use Rattle.sqe_codec.specs.declared.cmd.Cmd.{Cmd}
use Rattle.sqe_codec.specs.declared.cmd.Cmd.TheVariants as cmd
use Rattle.sqe_codec.specs.Commands.{cid_of}
use Rattle.cqe_codec.specs.declared.cqe.Cqe.{Cqe}
use Rattle.zone_model.specs.declared.act.Act.{Act}
use Rattle.zone_model.specs.Places.{Place, command_of, is_event_request, had_excursion, waited, total}
use Rattle.zone_model.specs.Zones.{pointer}
use Rattle.drive_rules.specs.Shown.{one}
use Rattle.zone_model.specs.Notices.{enabled}
use Rattle.zone_model.specs.Answers.{status, fires}

-- the number of acts on a queue
unfoldable pub acts_on : ℕ → List Place → ℕ
acts_on queue h = total (λ p. one (p.act.queue == queue)) h

-- the number of entries that a place posted on a queue: its own, unless it waits, and on queue 0 also that of the event request that its
-- excursion answered
abbrev pub posted_on : ℕ → Place → ℕ
posted_on queue p = one ((p.act.queue == queue) && not (waited p)) + one ((queue == 0) && had_excursion p && is_some p.fired)

unfoldable pub entries_on : ℕ → List Place → ℕ
entries_on queue h = total (posted_on queue) h

-- how many entries a queue's ring holds
abbrev pub depth_of : GeometryFields → ℕ → ℕ
depth_of g queue = g.depth

-- the head that a queue's entries show: the number of its acts so far, with the newest, modulo the depth of its ring
abbrev pub head_of : GeometryFields → ℕ → ℕ → ℕ
head_of g queue acts = acts % depth_of g queue

-- the phase tag of a queue's k-th entry, counted from 0: 1 in the first round of the ring, 0 in the second, and so on
abbrev pub phase_of : GeometryFields → ℕ → ℕ → Bool
phase_of g queue k = k / depth_of g queue % 2 == 0

-- dwords 0 and 1 of a completion entry
pub record Dwords : Type 0 where
  pub dw0 : ℕ
  pub dw1 : ℕ

abbrev pub no_dwords : Dwords
no_dwords = record { dw0 = 0; dw1 = 0 }

-- a block's number, low half first
abbrev pub block_dwords : ℕ → Dwords
block_dwords lba = record { dw0 = lba % 2 ^ 32; dw1 = lba / 2 ^ 32 }

-- a Zone Descriptor Changed event, the log page that lists the zones, and namespace 1
abbrev pub event_dwords : Dwords
event_dwords = record { dw0 = 0x00bfef02; dw1 = 1 }

-- the dwords that a command gives when it succeeds
abbrev pub dwords_by : GeometryFields → List Place → Option ℕ → Cmd → Dwords
dwords_by g h fired (cmd.Append nsid zslba blocks) = block_dwords (first g (zone_of g zslba) + pointer g h (zone_of g zslba))
dwords_by g h fired (cmd.GetFeature feature) = record { dw0 = if enabled h then 0x08000000 else 0; dw1 = 0 }
dwords_by g h fired cmd.Event = event_dwords
dwords_by g h fired _ = no_dwords

-- Dwords 0 and 1 of an act's entry.
unfoldable pub dwords_of : GeometryFields → List Place → Act → Dwords
dwords_of g h a = if is_success (status g h a) then dwords_by g h (fires g h a) (command_of a) else no_dwords

-- the entry of a queue, given the number of acts and of entries that it has had, for the command with this identifier
abbrev pub entry : GeometryFields → ℕ → ℕ → ℕ → ℕ → Status → Dwords → Cqe
entry g queue acts entries cid status dwords = record {
  dw0 = dwords.dw0;
  dw1 = dwords.dw1;
  head = head_of g queue acts;
  sqid = queue;
  cid = cid;
  phase = phase_of g queue entries;
  code = status;
  dnr = do_not_retry status;
}

-- the act's own entry
abbrev pub own_entry : GeometryFields → List Place → Act → Cqe
own_entry g h a = entry g a.queue (acts_on a.queue h + 1) (entries_on a.queue h) (cid_of a.sqe.bytes) (status g h a) (dwords_of g h a)

-- the entry of the event request that an act on the admin queue answers, which comes after the act's own
abbrev pub event_entry : GeometryFields → List Place → ℕ → Cqe
event_entry g h cid = entry g 0 (acts_on 0 h + 1) (entries_on 0 h + 1) cid success event_dwords

-- an event request that succeeds and isn't answered at once
abbrev pub waits : GeometryFields → List Place → Act → Bool
waits g h a = is_success (status g h a) && is_event_request (command_of a) && is_none (fires g h a)

abbrev pub event_entries : GeometryFields → List Place → Cmd → Option ℕ → List Cqe
event_entries g h (cmd.Excursion nsid slba kind) (Some cid) = event_entry g h cid ∷ []
event_entries g h _ _ = []

-- An act posts its own entry, unless it is an event request that waits, and then the entry of the event request that it answers.
unfoldable pub posted : GeometryFields → List Place → Act → List Cqe
posted g h a = if waits g h a then [] else own_entry g h a ∷ event_entries g h (command_of a) (fires g h a)
