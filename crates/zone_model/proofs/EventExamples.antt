-- Worked examples on events and the log page of changed zones, with their order and what clears them, computed.
use Rattle.std.proofs.Common.{◌≡◌, ℕ, true, false, List, [], ◌∷◌, ◌++◌, map, take, refl}
use Rattle.std.specs.Prelude.{replicate}
use Rattle.std.specs.List.{flat_map}
use Rattle.zns_types.specs.declared.fields.GeometryFields.{GeometryFields}
use Rattle.sqe_codec.specs.Commands.{io_command, admin_command}
use Rattle.cqe_codec.specs.declared.cqe.Cqe.{Cqe}
use Rattle.cqe_codec.specs.Entries.{entry_bytes}
use Rattle.zone_history.specs.Histories.{pointer_since, state_of, window_of, block_of, attributes_of}
use Rattle.zone_model.specs.declared.act.Act.{Act}
use Rattle.zone_model.specs.Places.{deeds, had_excursion, cleared, waited, changed_zone}
use Rattle.zone_model.specs.Zones.{counted, closed_zones}
use Rattle.zone_model.specs.Notices.{enabled, changed, masked, pending, waiting}
use Rattle.zone_model.specs.Answers.{status, evicted, zone_deed, fires, answer, answered_back, answered}
use Rattle.zone_model.specs.Entries.{acts_on, entries_on, dwords_of, posted}
use Rattle.zone_model.specs.Replies.{reply_bytes}
use Rattle.zone_model.proofs.ExampleDrive.{drive, act_on, posts, reads, set_notices, event_request, excursion, read_changed, add, read_log}

-- notices are enabled, an event request waits, and zone 1 becomes Read Only
abbrev pub read_only_zone : List Act
read_only_zone = set_notices 1 ∷ event_request 9 ∷ excursion 3 64 4 ∷ []

-- its entries: a Success; nothing; a Success, and the event
read_only_zone-posts : map (flat_map entry_bytes) (posts drive [] read_only_zone) ≡ (replicate 8 0 ++ (1 ∷ 0 ∷ 0 ∷ 0 ∷ 1 ∷ 0 ∷ 1 ∷ 0 ∷ [])) ∷ [] ∷ (replicate 8 0 ++ (3 ∷ 0 ∷ 0 ∷ 0 ∷ 3 ∷ 0 ∷ 1 ∷ 0 ∷ 0x02 ∷ 0xef ∷ 0xbf ∷ 0 ∷ 1 ∷ 0 ∷ 0 ∷ 0 ∷ 3 ∷ 0 ∷ 0 ∷ 0 ∷ 9 ∷ 0 ∷ 1 ∷ 0 ∷ [])) ∷ []
unfolding io_command admin_command deeds pointer_since state_of window_of block_of attributes_of counted closed_zones had_excursion cleared waited changed_zone changed enabled masked pending waiting status evicted zone_deed fires answer answered_back answered acts_on entries_on dwords_of posted reply_bytes
read_only_zone-posts = refl

-- the log page then lists zone 1, and nothing when it is read again
changed_once : map (take 16) (reads drive (answered drive read_only_zone) (read_changed 4 ∷ read_changed 5 ∷ [])) ≡ (1 ∷ 0 ∷ 0 ∷ 0 ∷ 0 ∷ 0 ∷ 0 ∷ 0 ∷ 64 ∷ 0 ∷ 0 ∷ 0 ∷ 0 ∷ 0 ∷ 0 ∷ 0 ∷ []) ∷ replicate 16 0 ∷ []
unfolding io_command admin_command deeds pointer_since state_of window_of block_of attributes_of counted closed_zones had_excursion cleared waited changed_zone changed enabled masked pending waiting status evicted zone_deed fires answer answered_back answered acts_on entries_on dwords_of posted reply_bytes
changed_once = refl

-- four event requests wait, and a fifth is refused
five_requests : map (flat_map entry_bytes) (posts drive [] (event_request 1 ∷ event_request 2 ∷ event_request 3 ∷ event_request 4 ∷ event_request 5 ∷ [])) ≡ [] ∷ [] ∷ [] ∷ [] ∷ (replicate 8 0 ++ (5 ∷ 0 ∷ 0 ∷ 0 ∷ 5 ∷ 0 ∷ 0x0b ∷ 0x82 ∷ [])) ∷ []
unfolding io_command admin_command deeds pointer_since state_of window_of block_of attributes_of counted closed_zones had_excursion cleared waited changed_zone changed enabled masked pending waiting status evicted zone_deed fires answer answered_back answered acts_on entries_on dwords_of posted reply_bytes
five_requests = refl

-- an excursion while no request waits leaves an event, which answers the next request
pending-facts :
    (map (map (λ (c : Cqe). c.cid)) (posts drive [] (set_notices 1 ∷ excursion 2 64 4 ∷ event_request 6 ∷ [])) ≡ (1 ∷ []) ∷ (2 ∷ []) ∷ (6 ∷ []) ∷ [])
    × (map (map (λ (c : Cqe). c.dw0)) (posts drive [] (set_notices 1 ∷ excursion 2 64 4 ∷ event_request 6 ∷ [])) ≡ (0 ∷ []) ∷ (0 ∷ []) ∷ (0x00bfef02 ∷ []) ∷ [])
unfolding io_command admin_command deeds pointer_since state_of window_of block_of attributes_of counted closed_zones had_excursion cleared waited changed_zone changed enabled masked pending waiting status evicted zone_deed fires answer answered_back answered acts_on entries_on dwords_of posted reply_bytes
pending-facts = (refl, refl)

-- the identifiers of the commands that the entries of each act answer
abbrev pub answered_by : List Act → List (List ℕ)
answered_by acts = map (map (λ (c : Cqe). c.cid)) (posts drive [] acts)

-- disables notices
abbrev pub unset_notices : ℕ → Act
unset_notices cid = act_on 0 0x09 cid 0x0b 0x07ffffff 0 0 []

-- reads the changed zones and keeps them
abbrev pub retain_changed : ℕ → Act
retain_changed cid = act_on 0 0x02 cid 0x03ff80bf 0 0 0 []

-- the oldest request is answered, and the next one only after the changed zones have been read
oldest-first : answered_by (set_notices 1 ∷ event_request 6 ∷ event_request 7 ∷ excursion 2 64 4 ∷ excursion 3 128 4 ∷ read_changed 4 ∷ excursion 5 192 4 ∷ []) ≡ (1 ∷ []) ∷ [] ∷ [] ∷ (2 ∷ 6 ∷ []) ∷ (3 ∷ []) ∷ (4 ∷ []) ∷ (5 ∷ 7 ∷ []) ∷ []
unfolding io_command admin_command deeds pointer_since state_of window_of block_of attributes_of counted closed_zones had_excursion cleared waited changed_zone changed enabled masked pending waiting status evicted zone_deed fires answer answered_back answered acts_on entries_on dwords_of posted reply_bytes
oldest-first = refl

-- a read that retains the event, or that is refused, clears nothing
retained : answered_by (set_notices 1 ∷ event_request 6 ∷ event_request 7 ∷ excursion 2 64 4 ∷ retain_changed 4 ∷ excursion 5 192 4 ∷ []) ≡ (1 ∷ []) ∷ [] ∷ [] ∷ (2 ∷ 6 ∷ []) ∷ (4 ∷ []) ∷ (5 ∷ []) ∷ []
unfolding io_command admin_command deeds pointer_since state_of window_of block_of attributes_of counted closed_zones had_excursion cleared waited changed_zone changed enabled masked pending waiting status evicted zone_deed fires answer answered_back answered acts_on entries_on dwords_of posted reply_bytes
retained = refl

refused_read : answered_by (set_notices 1 ∷ event_request 6 ∷ event_request 7 ∷ excursion 2 64 4 ∷ read_log 0xbf 1024 4 ∷ excursion 5 192 4 ∷ []) ≡ (1 ∷ []) ∷ [] ∷ [] ∷ (2 ∷ 6 ∷ []) ∷ (1 ∷ []) ∷ (5 ∷ []) ∷ []
unfolding io_command admin_command deeds pointer_since state_of window_of block_of attributes_of counted closed_zones had_excursion cleared waited changed_zone changed enabled masked pending waiting status evicted zone_deed fires answer answered_back answered acts_on entries_on dwords_of posted reply_bytes
refused_read = refl

-- each zone once, rising; refused excursions are left out
abbrev pub page_of_two : List ℕ
page_of_two = 2 ∷ 0 ∷ 0 ∷ 0 ∷ 0 ∷ 0 ∷ 0 ∷ 0 ∷ 64 ∷ 0 ∷ 0 ∷ 0 ∷ 0 ∷ 0 ∷ 0 ∷ 0 ∷ 192 ∷ 0 ∷ 0 ∷ 0 ∷ 0 ∷ 0 ∷ 0 ∷ 0 ∷ []

retained-page : map (take 24) (reads drive (answered drive (excursion 1 192 4 ∷ excursion 2 64 5 ∷ excursion 3 128 2 ∷ excursion 3 64 5 ∷ excursion 4 192 5 ∷ [])) (retain_changed 4 ∷ retain_changed 5 ∷ [])) ≡ page_of_two ∷ page_of_two ∷ []
unfolding io_command admin_command deeds pointer_since state_of window_of block_of attributes_of counted closed_zones had_excursion cleared waited changed_zone changed enabled masked pending waiting status evicted zone_deed fires answer answered_back answered acts_on entries_on dwords_of posted reply_bytes
retained-page = refl

-- an excursion while notices are disabled is never reported, not even later
not_enabled : answered_by (excursion 1 64 4 ∷ set_notices 2 ∷ event_request 6 ∷ []) ≡ (1 ∷ []) ∷ (2 ∷ []) ∷ [] ∷ []
unfolding io_command admin_command deeds pointer_since state_of window_of block_of attributes_of counted closed_zones had_excursion cleared waited changed_zone changed enabled masked pending waiting status evicted zone_deed fires answer answered_back answered acts_on entries_on dwords_of posted reply_bytes
not_enabled = refl

-- a pending event is reported once, even though notices are disabled by then
enabled_then : answered_by (set_notices 1 ∷ excursion 2 64 4 ∷ unset_notices 3 ∷ event_request 6 ∷ event_request 7 ∷ excursion 4 128 4 ∷ []) ≡ (1 ∷ []) ∷ (2 ∷ []) ∷ (3 ∷ []) ∷ (6 ∷ []) ∷ [] ∷ (4 ∷ []) ∷ []
unfolding io_command admin_command deeds pointer_since state_of window_of block_of attributes_of counted closed_zones had_excursion cleared waited changed_zone changed enabled masked pending waiting status evicted zone_deed fires answer answered_back answered acts_on entries_on dwords_of posted reply_bytes
enabled_then = refl

-- an excursion that was read from the log isn't reported
cleared_event : answered_by (set_notices 1 ∷ excursion 2 64 4 ∷ read_changed 3 ∷ event_request 6 ∷ []) ≡ (1 ∷ []) ∷ (2 ∷ []) ∷ (3 ∷ []) ∷ [] ∷ []
unfolding io_command admin_command deeds pointer_since state_of window_of block_of attributes_of counted closed_zones had_excursion cleared waited changed_zone changed enabled masked pending waiting status evicted zone_deed fires answer answered_back answered acts_on entries_on dwords_of posted reply_bytes
cleared_event = refl

-- nor is a refused excursion
refused_excursion : answered_by (set_notices 1 ∷ event_request 6 ∷ excursion 2 64 1 ∷ excursion 3 64 4 ∷ []) ≡ (1 ∷ []) ∷ [] ∷ (2 ∷ []) ∷ (3 ∷ 6 ∷ []) ∷ []
unfolding io_command admin_command deeds pointer_since state_of window_of block_of attributes_of counted closed_zones had_excursion cleared waited changed_zone changed enabled masked pending waiting status evicted zone_deed fires answer answered_back answered acts_on entries_on dwords_of posted reply_bytes
refused_excursion = refl

-- the feature's last setting
abbrev pub get_notices : Act
get_notices = act_on 0 0x0a 1 0x0b 0 0 0 []

feature-results : map (map (λ (c : Cqe). c.dw0)) (posts drive [] (get_notices ∷ set_notices 1 ∷ get_notices ∷ act_on 0 0x09 1 0x0a 0 0 0 [] ∷ get_notices ∷ unset_notices 1 ∷ get_notices ∷ [])) ≡ (0 ∷ []) ∷ (0 ∷ []) ∷ (0x08000000 ∷ []) ∷ (0 ∷ []) ∷ (0x08000000 ∷ []) ∷ (0 ∷ []) ∷ (0 ∷ []) ∷ []
unfolding io_command admin_command deeds pointer_since state_of window_of block_of attributes_of counted closed_zones had_excursion cleared waited changed_zone changed enabled masked pending waiting status evicted zone_deed fires answer answered_back answered acts_on entries_on dwords_of posted reply_bytes
feature-results = refl

-- In a ring of two entries: an event's entry counts for queue 0 but not as an act, and turns the phase of the entries after it; queue 1
-- counts for itself.
abbrev pub two_queues : List Act
two_queues = set_notices 1 ∷ event_request 6 ∷ add 64 1 ∷ excursion 2 64 4 ∷ set_notices 3 ∷ add 64 1 ∷ add 128 1 ∷ []

abbrev pub ring_of_two : GeometryFields
ring_of_two = record drive { depth = 2 }

two_queues-facts :
    (map (map (λ (c : Cqe). c.head)) (posts ring_of_two [] two_queues) ≡ (1 ∷ []) ∷ [] ∷ (1 ∷ []) ∷ (1 ∷ 1 ∷ []) ∷ (0 ∷ []) ∷ (0 ∷ []) ∷ (1 ∷ []) ∷ [])
    × (map (map (λ (c : Cqe). c.phase)) (posts ring_of_two [] two_queues) ≡ (true ∷ []) ∷ [] ∷ (true ∷ []) ∷ (true ∷ false ∷ []) ∷ (false ∷ []) ∷ (true ∷ []) ∷ (false ∷ []) ∷ [])
    × (map (map (λ (c : Cqe). c.sqid)) (posts ring_of_two [] two_queues) ≡ (0 ∷ []) ∷ [] ∷ (1 ∷ []) ∷ (0 ∷ 0 ∷ []) ∷ (0 ∷ []) ∷ (1 ∷ []) ∷ (1 ∷ []) ∷ [])
unfolding io_command admin_command deeds pointer_since state_of window_of block_of attributes_of counted closed_zones had_excursion cleared waited changed_zone changed enabled masked pending waiting status evicted zone_deed fires answer answered_back answered acts_on entries_on dwords_of posted reply_bytes
two_queues-facts = (refl, refl, refl)

-- a refused Append has no result
two_queues-results : map (map (λ (c : Cqe). c.dw0)) (posts ring_of_two [] two_queues) ≡ (0 ∷ []) ∷ [] ∷ (64 ∷ []) ∷ (0 ∷ 0x00bfef02 ∷ []) ∷ (0 ∷ []) ∷ (0 ∷ []) ∷ (128 ∷ []) ∷ []
unfolding io_command admin_command deeds pointer_since state_of window_of block_of attributes_of counted closed_zones had_excursion cleared waited changed_zone changed enabled masked pending waiting status evicted zone_deed fires answer answered_back answered acts_on entries_on dwords_of posted reply_bytes
two_queues-results = refl
