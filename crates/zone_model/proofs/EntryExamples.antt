-- Worked examples on completion entries and on bytes that are read, computed.
use Rattle.std.proofs.Common.{◌≡◌, true, false, List, [], ◌∷◌, ◌++◌, map, length, refl}
use Rattle.std.specs.Prelude.{replicate}
use Rattle.std.specs.List.{flat_map}
use Rattle.zns_types.specs.declared.fields.GeometryFields.{GeometryFields}
use Rattle.sqe_codec.specs.Commands.{io_command, admin_command}
use Rattle.cqe_codec.specs.declared.cqe.Cqe.{Cqe}
use Rattle.cqe_codec.specs.Entries.{entry_bytes}
use Rattle.zone_descriptor.specs.Descriptors.{descriptor_bytes}
use Rattle.zone_history.specs.Histories.{pointer_since, state_of, window_of, block_of, attributes_of}
use Rattle.zone_model.specs.declared.act.Act.{Act}
use Rattle.zone_model.specs.Places.{deeds, had_excursion, cleared, waited, changed_zone}
use Rattle.zone_model.specs.Zones.{descriptor, counted, closed_zones}
use Rattle.zone_model.specs.Notices.{enabled, changed, masked, pending, waiting}
use Rattle.zone_model.specs.Answers.{status, evicted, zone_deed, fires, answer, answered_back, answered}
use Rattle.zone_model.specs.Entries.{acts_on, entries_on, dwords_of, posted}
use Rattle.zone_model.specs.Replies.{reply_bytes}
use Rattle.zone_model.specs.Sessions.{result_bytes}
use Rattle.zone_model.proofs.ExampleDrive.{drive, filled, write, read, append, open_zone, open_with_window, posts, reads, set_notices, event_request}

-- the entry of a refused write has Do Not Retry, and that of a command that lacks an open resource doesn't
away_from_pointer-posts : map (flat_map entry_bytes) (posts drive [] (write 0 1 (filled 1 0x11) ∷ write 2 1 (filled 1 0x11) ∷ [])) ≡ (replicate 8 0 ++ (1 ∷ 0 ∷ 1 ∷ 0 ∷ 1 ∷ 0 ∷ 1 ∷ 0 ∷ [])) ∷ (replicate 8 0 ++ (2 ∷ 0 ∷ 1 ∷ 0 ∷ 1 ∷ 0 ∷ 0x79 ∷ 0x83 ∷ [])) ∷ []
unfolding io_command admin_command deeds pointer_since state_of window_of block_of attributes_of counted closed_zones had_excursion cleared waited changed_zone changed enabled masked pending waiting status evicted zone_deed fires answer answered_back answered acts_on entries_on dwords_of posted reply_bytes result_bytes
away_from_pointer-posts = refl

no_open_zone-posts : flat_map entry_bytes (posted drive (answered drive (open_zone 0 ∷ open_zone 64 ∷ [])) (write 128 1 (filled 1 0x11))) ≡ replicate 8 0 ++ (3 ∷ 0 ∷ 1 ∷ 0 ∷ 1 ∷ 0 ∷ 0x7d ∷ 0x03 ∷ [])
unfolding io_command admin_command deeds pointer_since state_of window_of block_of attributes_of counted closed_zones had_excursion cleared waited changed_zone changed enabled masked pending waiting status evicted zone_deed fires answer answered_back answered acts_on entries_on dwords_of posted reply_bytes result_bytes
no_open_zone-posts = refl

-- an Append's result is its first block
append-results : map (map (λ (c : Cqe). c.dw0)) (posts drive [] (append 64 2 (filled 2 0x11) ∷ append 64 2 (filled 2 0x22) ∷ [])) ≡ (64 ∷ []) ∷ (66 ∷ []) ∷ []
unfolding io_command admin_command deeds pointer_since state_of window_of block_of attributes_of counted closed_zones had_excursion cleared waited changed_zone changed enabled masked pending waiting status evicted zone_deed fires answer answered_back answered acts_on entries_on dwords_of posted reply_bytes result_bytes
append-results = refl

-- in a ring of two entries heads wrap around, and the phase turns with each round; a request that waits has no entry
abbrev pub shallow : GeometryFields
shallow = record drive { depth = 2 }

abbrev pub rounds : List Act
rounds = set_notices 1 ∷ event_request 2 ∷ set_notices 3 ∷ set_notices 4 ∷ set_notices 5 ∷ set_notices 6 ∷ []

rounds-facts :
    (map (map (λ (c : Cqe). c.head)) (posts shallow [] rounds) ≡ (1 ∷ []) ∷ [] ∷ (1 ∷ []) ∷ (0 ∷ []) ∷ (1 ∷ []) ∷ (0 ∷ []) ∷ [])
    × (map (map (λ (c : Cqe). c.phase)) (posts shallow [] rounds) ≡ (true ∷ []) ∷ [] ∷ (true ∷ []) ∷ (false ∷ []) ∷ (false ∷ []) ∷ (true ∷ []) ∷ [])
unfolding io_command admin_command deeds pointer_since state_of window_of block_of attributes_of counted closed_zones had_excursion cleared waited changed_zone changed enabled masked pending waiting status evicted zone_deed fires answer answered_back answered acts_on entries_on dwords_of posted reply_bytes result_bytes
rounds-facts = (refl, refl)

-- a Read of blocks that were written, with zeros before them
read_written : reads drive (answered drive (open_with_window 0 ∷ write 4 2 (filled 2 0x11) ∷ write 5 1 (filled 1 0x22) ∷ [])) (read 3 3 ∷ []) ≡ (filled 1 0 ++ (filled 1 0x11 ++ filled 1 0x22)) ∷ []
unfolding io_command admin_command deeds pointer_since state_of window_of block_of attributes_of counted closed_zones had_excursion cleared waited changed_zone changed enabled masked pending waiting status evicted zone_deed fires answer answered_back answered acts_on entries_on dwords_of posted reply_bytes result_bytes
read_written = refl

-- a Read across two zones, on a drive that allows it and on one that doesn't
abbrev pub crossing : GeometryFields
crossing = record drive { flags = 1 }

read_across-facts :
    (map length (reads drive (answered drive (write 64 1 (filled 1 0x44) ∷ [])) (read 60 8 ∷ [])) ≡ 0 ∷ [])
    × (reads crossing (answered crossing (write 64 1 (filled 1 0x44) ∷ [])) (read 60 8 ∷ []) ≡ (filled 4 0 ++ (filled 1 0x44 ++ filled 3 0)) ∷ [])
unfolding io_command admin_command deeds pointer_since state_of window_of block_of attributes_of counted closed_zones had_excursion cleared waited changed_zone changed enabled masked pending waiting status evicted zone_deed fires answer answered_back answered acts_on entries_on dwords_of posted reply_bytes result_bytes
read_across-facts = (refl, refl)

-- the descriptors of a zone that was written and of an Empty one
written-descriptors : map (λ z. descriptor_bytes (descriptor drive (answered drive (write 0 1 (filled 1 0x11) ∷ [])) z)) (0 ∷ 1 ∷ []) ≡ ((0x02 ∷ 0x20 ∷ replicate 6 0) ++ (0x30 ∷ replicate 15 0) ++ (0x01 ∷ replicate 39 0)) ∷ ((0x02 ∷ 0x10 ∷ replicate 6 0) ++ (0x30 ∷ replicate 7 0) ++ (0x40 ∷ replicate 7 0) ++ (0x40 ∷ replicate 39 0)) ∷ []
unfolding io_command admin_command deeds pointer_since state_of window_of block_of attributes_of counted closed_zones had_excursion cleared waited changed_zone changed enabled masked pending waiting status evicted zone_deed fires answer answered_back answered acts_on entries_on dwords_of posted reply_bytes result_bytes
written-descriptors = refl

-- the result of an empty session: the order, four descriptors and the page
empty_result : length (result_bytes drive [] []) ≡ 4364
unfolding io_command admin_command deeds pointer_since state_of window_of block_of attributes_of counted closed_zones had_excursion cleared waited changed_zone changed enabled masked pending waiting status evicted zone_deed fires answer answered_back answered acts_on entries_on dwords_of posted reply_bytes result_bytes
empty_result = refl
