-- Worked examples on texts, computed.
use Rattle.std.proofs.Common.{◌≡◌, false, List, [], ◌∷◌, ◌++◌, map, refl}
use Rattle.std.specs.Prelude.{replicate, codes}
use Rattle.std.specs.Fmt.{digits}
use Rattle.hex.specs.Hex.{encode_with}
use Rattle.sqe_codec.specs.declared.cmd.Cmd.TheVariants as cmd
use Rattle.sqe_codec.specs.Commands.{io_command, admin_command, cid_of}
use Rattle.zone_history.specs.Histories.{pointer_since, state_of, window_of, block_of, attributes_of}
use Rattle.zone_model.specs.declared.act.Act.{Act}
use Rattle.zone_model.specs.Places.{command_of, deeds, had_excursion, cleared, waited, changed_zone}
use Rattle.zone_model.specs.Zones.{counted, closed_zones}
use Rattle.zone_model.specs.Notices.{enabled, changed, masked, pending, waiting}
use Rattle.zone_model.specs.Answers.{status, evicted, zone_deed, fires, answer, answered_back, answered}
use Rattle.zone_model.specs.Sessions.{Recorded}
use Rattle.zone_model.proofs.ExampleDrive.{drive, filled}
use Rattle.zone_model.proofs.ExampleDrive as act
use Rattle.zns_program.specs.Showing.{shown}
use Rattle.zns_program.specs.Summaries.{summary}
use Rattle.zns_program.specs.Generating.{next, made_command, made_act, made_acts, made}

-- a session of one Write
abbrev pub one_write : Recorded
one_write = record { geometry = drive; acts = act.write 0 1 (filled 1 0x11) ∷ [] }

one_write-shown : shown one_write
    ≡ codes "zones 4 size 64 capacity 48 block 512 active 3 open 2 windows 1 granule 4 window 8 queues 2 depth 64 commands 1"
    ++ 10 ∷ codes "0 queue 1 cid 1 Write 0100010001000000" ++ replicate 112 48 ++ 10 ∷ []
unfolding digits encode_with io_command admin_command shown
one_write-shown = refl

-- the summary of this session
one_write-summary : summary one_write
    ≡ codes "commands 1" ++ 10 ∷ codes "success 1" ++ 10 ∷ codes "refused 0" ++ 10 ∷ codes "active 1" ++ 10 ∷ codes "open 1" ++ 10 ∷ codes "windows 0" ++ 10 ∷ codes "pointers 1" ++ 10 ∷ []
unfolding io_command admin_command deeds pointer_since state_of window_of block_of attributes_of counted closed_zones had_excursion cleared waited changed_zone changed enabled masked pending waiting status evicted zone_deed fires answer answered_back answered digits summary
one_write-summary = refl

none-summary : summary (made 5 0)
    ≡ codes "commands 0" ++ 10 ∷ codes "success 0" ++ 10 ∷ codes "refused 0" ++ 10 ∷ codes "active 0" ++ 10 ∷ codes "open 0" ++ 10 ∷ codes "windows 0" ++ 10 ∷ codes "pointers 0" ++ 10 ∷ []
unfolding io_command admin_command deeds pointer_since state_of window_of block_of attributes_of counted closed_zones had_excursion cleared waited changed_zone changed enabled masked pending waiting status evicted zone_deed fires answer answered_back answered digits summary made
none-summary = refl

-- the first commands of the session that the number 1 determines: their queues, command numbers, commands, and the bytes that their host
-- data repeats
abbrev pub made_from_1 : List Act
made_from_1 = made_acts 8 0 1

made_from_1-queues : map (λ (a : Act). a.queue) made_from_1 ≡ 3 ∷ 1 ∷ 1 ∷ 1 ∷ 2 ∷ 2 ∷ 1 ∷ 1 ∷ []
unfolding next made_command made_act
made_from_1-queues = refl

made_from_1-cids : map (λ (a : Act). cid_of a.sqe.bytes) made_from_1 ≡ 0 ∷ 1 ∷ 2 ∷ 3 ∷ 4 ∷ 5 ∷ 6 ∷ 7 ∷ []
unfolding next made_command made_act
made_from_1-cids = refl

made_from_1-commands : map command_of made_from_1
    ≡ cmd.Write 1 49254 1 ∷ cmd.Append 1 40960 1 ∷ cmd.Write 1 45170 1 ∷ cmd.Append 1 40960 1
    ∷ cmd.Receive 1 16384 512 0 0 false ∷ cmd.Send 1 57344 4 false false ∷ cmd.Append 1 16384 1 ∷ cmd.Append 1 61440 1 ∷ []
unfolding io_command next made_command made_act
made_from_1-commands = refl

made_from_1-bytes : map (λ (a : Act). a.payload) made_from_1
    ≡ filled 1 230 ∷ filled 1 246 ∷ filled 1 242 ∷ filled 1 12 ∷ [] ∷ [] ∷ filled 1 160 ∷ filled 1 18 ∷ []
unfolding next made_command made_act
made_from_1-bytes = refl
