-- Worked examples on orders, and on the bytes of sessions and results, computed.
use Rattle.std.proofs.Common.{◌≡◌, ℕ, List, [], ◌∷◌, ◌++◌, map, take, drop, length, refl}
use Rattle.std.specs.Prelude.{replicate}
use Rattle.sqe_codec.specs.Commands.{io_command, admin_command, cid_of}
use Rattle.zone_history.specs.Histories.{pointer_since, state_of, window_of, block_of, attributes_of}
use Rattle.zone_model.specs.declared.act.Act.{Act}
use Rattle.zone_model.specs.Places.{deeds, had_excursion, cleared, waited, changed_zone}
use Rattle.zone_model.specs.Zones.{counted, closed_zones}
use Rattle.zone_model.specs.Notices.{enabled, changed, masked, pending, waiting}
use Rattle.zone_model.specs.Answers.{status, evicted, zone_deed, fires, answer, answered_back, answered}
use Rattle.zone_model.specs.Entries.{acts_on, entries_on, dwords_of, posted}
use Rattle.zone_model.specs.Replies.{reply_bytes}
use Rattle.zone_model.specs.Sessions.{Recorded, merge, own_order, header_bytes, record_bytes, spelling, result_bytes, result_of}
use Rattle.zone_model.proofs.ExampleDrive.{drive, act_on, filled, set_notices, event_request, excursion, put, report_from}

-- ---- orders

-- Identify on the admin queue and Flush on two others, with identifiers that tell them apart
abbrev pub three_queues : Recorded
three_queues = record { geometry = record drive { queues = 3 }; acts = act_on 1 0x00 10 0 0 0 0 [] ∷ act_on 2 0x00 20 0 0 0 0 [] ∷ act_on 1 0x00 11 0 0 0 0 [] ∷ act_on 0 0x06 30 0 0 0 0 [] ∷ act_on 2 0x00 21 0 0 0 0 [] ∷ [] }

abbrev pub numbers : List Act → List ℕ
numbers acts = map (λ (a : Act). cid_of a.sqe.bytes) acts

own-order : own_order three_queues.acts ≡ 1 ∷ 2 ∷ 1 ∷ 0 ∷ 2 ∷ []
own-order = refl

-- each queue's acts in their own order
merge-orders : map (λ order. numbers (merge three_queues order)) ((1 ∷ 2 ∷ 1 ∷ 0 ∷ 2 ∷ []) ∷ (2 ∷ 2 ∷ 0 ∷ 1 ∷ 1 ∷ []) ∷ (0 ∷ 1 ∷ 2 ∷ 2 ∷ 1 ∷ []) ∷ []) ≡ (10 ∷ 20 ∷ 11 ∷ 30 ∷ 21 ∷ []) ∷ (20 ∷ 21 ∷ 30 ∷ 10 ∷ 11 ∷ []) ∷ (30 ∷ 10 ∷ 20 ∷ 21 ∷ 11 ∷ []) ∷ []
merge-orders = refl

-- ---- sessions

header : header_bytes (record drive { mdts = 5; zasl = 3; flags = 1 }) 2 ≡ (0x5a ∷ 0x4e ∷ 0x53 ∷ 0x51 ∷ 0x30 ∷ 0x30 ∷ 0x30 ∷ 0x31 ∷ []) ++ ((9 ∷ 5 ∷ 3 ∷ 1 ∷ 4 ∷ 0 ∷ 0 ∷ 0 ∷ 64 ∷ 0 ∷ 0 ∷ 0 ∷ 0 ∷ 0 ∷ 0 ∷ 0 ∷ 48 ∷ 0 ∷ 0 ∷ 0 ∷ 0 ∷ 0 ∷ 0 ∷ 0 ∷ []) ++ ((3 ∷ 0 ∷ 0 ∷ 0 ∷ 2 ∷ 0 ∷ 0 ∷ 0 ∷ 1 ∷ 0 ∷ 0 ∷ 0 ∷ 4 ∷ 0 ∷ 8 ∷ 0 ∷ 2 ∷ 0 ∷ 64 ∷ 0 ∷ 2 ∷ 0 ∷ 0 ∷ 0 ∷ []) ++ replicate 8 0))
header = refl

-- a session of one Write of one block
abbrev pub one_write : Recorded
one_write = record { geometry = drive; acts = put 0 1 ∷ [] }

record-head : take 8 (record_bytes (put 0 1)) ≡ 1 ∷ 0 ∷ 0 ∷ 0 ∷ 0 ∷ 2 ∷ 0 ∷ 0 ∷ []
record-head = refl

record-rest : drop 8 (record_bytes (put 0 1)) ≡ (put 0 1).sqe.bytes ++ filled 1 0x11
record-rest = refl

one_write-length : length (spelling one_write) ≡ 648
unfolding spelling
one_write-length = refl

-- ---- results

-- one queue in the order, one completion entry, no bytes read, and the first zone
one_write-facts :
    (take 100 (result_of one_write (1 ∷ [])) ≡ (0x5a ∷ 0x4e ∷ 0x53 ∷ 0x52 ∷ 0x30 ∷ 0x30 ∷ 0x30 ∷ 0x31 ∷ 1 ∷ 0 ∷ 0 ∷ 0 ∷ 1 ∷ 0 ∷ 1 ∷ 0 ∷ []) ++ (replicate 8 0 ++ ((1 ∷ 0 ∷ 1 ∷ 0 ∷ 1 ∷ 0 ∷ 1 ∷ 0 ∷ 0 ∷ 0 ∷ 0 ∷ 0 ∷ []) ++ ((2 ∷ 0x20 ∷ replicate 6 0) ++ ((48 ∷ replicate 15 0) ++ (1 ∷ replicate 39 0))))))
    × (length (result_of one_write (1 ∷ [])) ≡ 4388)
unfolding io_command admin_command deeds pointer_since state_of window_of block_of attributes_of counted closed_zones had_excursion cleared waited changed_zone changed enabled masked pending waiting status evicted zone_deed fires answer answered_back answered acts_on entries_on dwords_of posted reply_bytes result_bytes
one_write-facts = (refl, refl)

-- the entries and the bytes of two acts, and then the first zone
reply-parts : drop 16 (take 72 (result_bytes drive (1 ∷ 1 ∷ []) (put 0 1 ∷ report_from 0 4 0 0 ∷ []))) ≡ (1 ∷ 0 ∷ []) ++ (replicate 8 0 ++ ((1 ∷ 0 ∷ 1 ∷ 0 ∷ 1 ∷ 0 ∷ 1 ∷ 0 ∷ 0 ∷ 0 ∷ 0 ∷ 0 ∷ 1 ∷ 0 ∷ []) ++ (replicate 8 0 ++ ((2 ∷ 0 ∷ 1 ∷ 0 ∷ 1 ∷ 0 ∷ 1 ∷ 0 ∷ 4 ∷ 0 ∷ 0 ∷ 0 ∷ 4 ∷ 0 ∷ 0 ∷ 0 ∷ []) ++ (2 ∷ 0x20 ∷ replicate 6 0)))))
unfolding io_command admin_command deeds pointer_since state_of window_of block_of attributes_of counted closed_zones had_excursion cleared waited changed_zone changed enabled masked pending waiting status evicted zone_deed fires answer answered_back answered acts_on entries_on dwords_of posted reply_bytes result_bytes
reply-parts = refl

-- an event request that waits has no entry, and the act that answers it has two
event-parts : drop 18 (take 68 (result_bytes drive (0 ∷ 0 ∷ 0 ∷ []) (set_notices 1 ∷ event_request 9 ∷ excursion 3 64 4 ∷ []))) ≡ (1 ∷ 0 ∷ []) ++ (replicate 8 0 ++ ((1 ∷ 0 ∷ 0 ∷ 0 ∷ 1 ∷ 0 ∷ 1 ∷ 0 ∷ 0 ∷ 0 ∷ 0 ∷ 0 ∷ []) ++ ((0 ∷ 0 ∷ 0 ∷ 0 ∷ 0 ∷ 0 ∷ 2 ∷ 0 ∷ []) ++ (replicate 8 0 ++ (3 ∷ 0 ∷ 0 ∷ 0 ∷ 3 ∷ 0 ∷ 1 ∷ 0 ∷ 2 ∷ 0xef ∷ 0xbf ∷ 0 ∷ [])))))
unfolding io_command admin_command deeds pointer_since state_of window_of block_of attributes_of counted closed_zones had_excursion cleared waited changed_zone changed enabled masked pending waiting status evicted zone_deed fires answer answered_back answered acts_on entries_on dwords_of posted reply_bytes result_bytes
event-parts = refl
