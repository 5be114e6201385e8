-- Worked examples on reports, on the log page at its limit, and on the zones that an act reaches, computed.
use Rattle.std.proofs.Common.{◌≡◌, ℕ, ◌-◌, ◌*◌, ◌<◌, ◌≤◌, true, false, List, [], ◌∷◌, ◌++◌, map, take, length, refl}
use Rattle.std.specs.Prelude.{replicate}
use Rattle.std.specs.List.{flat_map, range_with_len}
use Rattle.std.proofs.lemmas.Bool.{le-ltb, lt-ltb}
use Rattle.byteorder.specs.Endian.{little_bytes}
use Rattle.zns_types.specs.declared.fields.GeometryFields.{GeometryFields}
use Rattle.zns_types.specs.declared.state.State.{State}
use Rattle.zns_types.specs.declared.state.State.TheVariants.{Empty, ImplicitlyOpened, ExplicitlyOpened, Closed, ReadOnly, Full, Offline}
use Rattle.zns_types.specs.Geometry.{first}
use Rattle.sqe_codec.specs.Commands.{io_command, admin_command}
use Rattle.zone_descriptor.specs.Descriptors.{descriptor_bytes}
use Rattle.drive_rules.specs.Reports.{passes, changed_page}
use Rattle.zone_history.specs.Histories.{pointer_since, state_of, window_of, block_of, attributes_of}
use Rattle.zone_model.specs.Places.{Place, deeds, had_excursion, cleared, waited, changed_zone}
use Rattle.zone_model.specs.Zones.{descriptor, counted, closed_zones}
use Rattle.zone_model.specs.Notices.{enabled, changed, masked, pending, waiting}
use Rattle.zone_model.specs.Answers.{status, evicted, zone_deed, fires, answer, answered_back, answered}
use Rattle.zone_model.specs.Entries.{acts_on, entries_on, dwords_of, posted}
use Rattle.zone_model.specs.Replies.{reply_bytes}
use Rattle.zone_model.specs.Reach.{reach}
use Rattle.zone_model.proofs.ExampleDrive.{drive, act_on, read, open_zone, commit_to, reads, event_request, excursion, read_changed, put, add, finish, send_all, report_from, identify}

-- ---- reports

abbrev pub all_states : List State
all_states = Empty ∷ ImplicitlyOpened ∷ ExplicitlyOpened ∷ Closed ∷ Full ∷ ReadOnly ∷ Offline ∷ []

-- filter 0 passes all states, and each other filter one
filters : map (λ kind. map (passes kind) all_states) (range_with_len 0 8) ≡ replicate 7 true ∷ (true ∷ false ∷ false ∷ false ∷ false ∷ false ∷ false ∷ []) ∷ (false ∷ true ∷ false ∷ false ∷ false ∷ false ∷ false ∷ []) ∷ (false ∷ false ∷ true ∷ false ∷ false ∷ false ∷ false ∷ []) ∷ (false ∷ false ∷ false ∷ true ∷ false ∷ false ∷ false ∷ []) ∷ (false ∷ false ∷ false ∷ false ∷ true ∷ false ∷ false ∷ []) ∷ (false ∷ false ∷ false ∷ false ∷ false ∷ true ∷ false ∷ []) ∷ (false ∷ false ∷ false ∷ false ∷ false ∷ false ∷ true ∷ []) ∷ []
filters = refl

-- zone 1 has been written, and the others are Empty
abbrev pub one_written : List Place
one_written = answered drive (put 64 1 ∷ [])

abbrev pub shown : ℕ → List ℕ
shown z = descriptor_bytes (descriptor drive one_written z)

-- the head of a report of `number` zones
abbrev pub head : ℕ → List ℕ
head number = number ∷ replicate 63 0

-- room for two of four zones: all four are counted, or with Partial only the two
reports-whole : reads drive one_written (report_from 0 192 0 0 ∷ report_from 0 192 0 1 ∷ []) ≡ (head 4 ++ (shown 0 ++ shown 1)) ∷ (head 2 ++ (shown 0 ++ shown 1)) ∷ []
unfolding io_command admin_command deeds pointer_since state_of window_of block_of attributes_of counted closed_zones had_excursion cleared waited changed_zone changed enabled masked pending waiting status evicted zone_deed fires answer answered_back answered acts_on entries_on dwords_of posted reply_bytes
reports-whole = refl

-- reports of the Empty zones, of the Implicitly Opened one, and of the Full ones, of which there are none
reports-filtered : reads drive one_written (report_from 0 320 1 0 ∷ report_from 0 192 1 1 ∷ report_from 0 128 2 0 ∷ report_from 0 128 5 1 ∷ []) ≡ (head 3 ++ (shown 0 ++ (shown 2 ++ (shown 3 ++ replicate 64 0)))) ∷ (head 2 ++ (shown 0 ++ shown 2)) ∷ (head 1 ++ shown 1) ∷ (head 0 ++ replicate 64 0) ∷ []
unfolding io_command admin_command deeds pointer_since state_of window_of block_of attributes_of counted closed_zones had_excursion cleared waited changed_zone changed enabled masked pending waiting status evicted zone_deed fires answer answered_back answered acts_on entries_on dwords_of posted reply_bytes
reports-filtered = refl

-- reports that start at the zone of a block
reports-from : reads drive one_written (report_from 100 320 0 0 ∷ report_from 255 128 0 0 ∷ []) ≡ (head 3 ++ (shown 1 ++ (shown 2 ++ (shown 3 ++ replicate 64 0)))) ∷ (head 1 ++ shown 3) ∷ []
unfolding io_command admin_command deeds pointer_since state_of window_of block_of attributes_of counted closed_zones had_excursion cleared waited changed_zone changed enabled masked pending waiting status evicted zone_deed fires answer answered_back answered acts_on entries_on dwords_of posted reply_bytes
reports-from = refl

-- descriptors are never cut short, but the head may be
reports-short : reads drive one_written (report_from 0 4 0 0 ∷ report_from 0 124 0 0 ∷ report_from 0 124 0 1 ∷ report_from 0 188 0 1 ∷ []) ≡ (4 ∷ 0 ∷ 0 ∷ 0 ∷ []) ∷ (head 4 ++ replicate 60 0) ∷ (head 0 ++ replicate 60 0) ∷ (head 1 ++ (shown 0 ++ replicate 60 0)) ∷ []
unfolding io_command admin_command deeds pointer_since state_of window_of block_of attributes_of counted closed_zones had_excursion cleared waited changed_zone changed enabled masked pending waiting status evicted zone_deed fires answer answered_back answered acts_on entries_on dwords_of posted reply_bytes
reports-short = refl

-- ---- the log page

-- up to 511 zones are listed
pub listing-page : (g : GeometryFields) (zones : List ℕ) → length zones ≤ 511
    → changed_page g zones ≡ little_bytes 2 (length zones) ++ (replicate 6 0 ++ (flat_map (λ z. little_bytes 8 (first g z)) zones ++ replicate (4096 - 8 - 8 * length zones) 0))
listing-page g zones few = rw (le-ltb 511 (length zones) few) refl

-- for more zones than a page lists, the page only says that there are too many
pub overflowing-page : (g : GeometryFields) (zones : List ℕ) → 511 < length zones → changed_page g zones ≡ little_bytes 2 0xffff ++ replicate 4094 0
overflowing-page g zones more = rw (lt-ltb 511 (length zones) more) refl

-- the page's first 12 bytes, and 4,100 bytes
log-facts :
    (map (take 16) (reads drive (answered drive (excursion 1 64 4 ∷ [])) (act_on 0 0x02 1 0x000280bf 0 0 0 [] ∷ [])) ≡ (1 ∷ 0 ∷ 0 ∷ 0 ∷ 0 ∷ 0 ∷ 0 ∷ 0 ∷ 64 ∷ 0 ∷ 0 ∷ 0 ∷ []) ∷ [])
    × (map length (reads drive (answered drive (excursion 1 64 4 ∷ [])) (act_on 0 0x02 1 0x000280bf 0 0 0 [] ∷ act_on 0 0x02 1 0x040080bf 0 0 0 [] ∷ [])) ≡ 12 ∷ 4100 ∷ [])
unfolding io_command admin_command deeds pointer_since state_of window_of block_of attributes_of counted closed_zones had_excursion cleared waited changed_zone changed enabled masked pending waiting status evicted zone_deed fires answer answered_back answered acts_on entries_on dwords_of posted reply_bytes
log-facts = (refl, refl)

-- ---- reach

abbrev pub all_zones : List ℕ
all_zones = 0 ∷ 1 ∷ 2 ∷ 3 ∷ []

-- Writes and Reads reach the zones of their blocks, if all of these exist
reach-blocks : map (reach drive) (put 64 1 ∷ put 120 16 ∷ put 255 2 ∷ read 60 8 ∷ read 0 256 ∷ read 250 10 ∷ []) ≡ (1 ∷ []) ∷ (1 ∷ 2 ∷ []) ∷ [] ∷ (0 ∷ 1 ∷ []) ∷ all_zones ∷ [] ∷ []
unfolding io_command admin_command
reach-blocks = refl

-- an Append, a Send and an excursion reach the zone of the block
reach-zone : map (reach drive) (add 130 100 ∷ add 256 1 ∷ open_zone 64 ∷ open_zone 255 ∷ finish 256 ∷ commit_to 70 ∷ excursion 1 128 4 ∷ excursion 1 256 4 ∷ []) ≡ (2 ∷ []) ∷ [] ∷ (1 ∷ []) ∷ (3 ∷ []) ∷ [] ∷ (1 ∷ []) ∷ (2 ∷ []) ∷ [] ∷ []
unfolding io_command admin_command
reach-zone = refl

-- acts that reach all zones
reach-all : map (reach drive) (send_all 0x04 ∷ report_from 128 64 0 0 ∷ report_from 256 64 0 0 ∷ []) ≡ all_zones ∷ all_zones ∷ all_zones ∷ []
unfolding io_command admin_command
reach-all = refl

-- acts that reach no zone
reach-none : map (reach drive) (act_on 1 0x00 1 0 0 0 0 [] ∷ event_request 1 ∷ read_changed 1 ∷ identify 0 0 ∷ act_on 1 0x19 1 64 0 0 0 [] ∷ []) ≡ [] ∷ [] ∷ [] ∷ [] ∷ [] ∷ []
unfolding io_command admin_command
reach-none = refl
