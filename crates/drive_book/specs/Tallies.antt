-- The tallies of queues, and the entries that are made from them.
use Rattle.std.specs.Prelude.{ℕ, ◌+◌, ◌^◌, ◌<◌, if◌then◌else◌, List, [], ◌∷◌, slice_index_or, slice_set, Option, Some, None}
use Rattle.zns_types.specs.declared.fields.GeometryFields.{GeometryFields}
use Rattle.cqe_codec.specs.declared.cqe.Cqe.{Cqe}
use Rattle.zone_model.specs.Entries.{entry}
use Rattle.drive_book.specs.declared.outcome.Outcome.{Outcome}
use Rattle.drive_book.specs.declared.tally.Tally.{Tally}
use Rattle.drive_book.specs.Outcomes.{told}

-- a queue that has had nothing
abbrev pub no_tally : Tally
no_tally = record { acts = 0; entries = 0 }

abbrev pub tally_at : ℕ → List Tally → Tally
tally_at queue ts = slice_index_or ts queue no_tally

-- one more act, and two more entries, can be counted
pub record HasRoomAt (queue : ℕ) (ts : List Tally) : Type 0 where
  pub acts : (tally_at queue ts).acts + 1 < 2 ^ 64
  pub entries : (tally_at queue ts).entries + 2 < 2 ^ 64

-- one more act of a queue
abbrev pub with_act : ℕ → List Tally → List Tally
with_act queue ts = slice_set ts queue (record { acts = (tally_at queue ts).acts + 1; entries = (tally_at queue ts).entries })

-- one more entry of a queue
abbrev pub with_entry : ℕ → List Tally → List Tally
with_entry queue ts = slice_set ts queue (record { acts = (tally_at queue ts).acts; entries = (tally_at queue ts).entries + 1 })

-- the next entry of a queue, for the command with this identifier
abbrev pub entry_at : GeometryFields → ℕ → ℕ → Outcome → List Tally → Cqe
entry_at g queue cid o ts = entry g queue (tally_at queue ts).acts (tally_at queue ts).entries cid o.code (record { dw0 = o.dw0; dw1 = o.dw1 })

-- the entry of an event request on queue 0 that was answered, if one was
abbrev pub event_entry_by : GeometryFields → Option ℕ → List Tally → List Cqe
event_entry_by g None ts = []
event_entry_by g (Some cid) ts = entry_at g 0 cid told ts ∷ []

-- the entries of one more act of a queue, from what became of it
abbrev pub entries_by : GeometryFields → ℕ → ℕ → Outcome → List Tally → List Cqe
entries_by g queue cid o ts =
    if o.waits then []
    else entry_at g queue cid o (with_act queue ts) ∷ event_entry_by g o.event (with_entry queue (with_act queue ts))

-- one more entry of queue 0, for an event that was told
abbrev pub with_event : Option ℕ → List Tally → List Tally
with_event None ts = ts
with_event (Some cid) ts = with_entry 0 ts

-- the tallies after one more act of a queue, from what became of it
abbrev pub after_post : ℕ → Outcome → List Tally → List Tally
after_post queue o ts = if o.waits then with_act queue ts else with_event o.event (with_entry queue (with_act queue ts))
