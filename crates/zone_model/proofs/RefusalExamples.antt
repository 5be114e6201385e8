-- Worked examples on the order of refusals, computed: acts that two rows refuse, and acts at the edge of a row.
use Rattle.std.proofs.Common.{◌≡◌, List, [], ◌∷◌, refl}
use Rattle.zns_types.specs.Statuses.{success, invalid_opcode, invalid_field, invalid_namespace, lba_out_of_range, invalid_log_page, invalid_zone_operation, zone_boundary_error, zone_full, zone_read_only, zone_offline, zone_invalid_write, zrwa_resources_unavailable, too_many_active_zones, too_many_open_zones, invalid_zone_state_transition}
use Rattle.sqe_codec.specs.Commands.{io_command, admin_command}
use Rattle.zone_history.specs.Histories.{pointer_since, state_of, window_of}
use Rattle.zone_model.specs.Places.{Place, deeds, had_excursion, cleared, waited}
use Rattle.zone_model.specs.Zones.{counted, closed_zones}
use Rattle.zone_model.specs.Notices.{enabled, masked, pending, waiting}
use Rattle.zone_model.specs.Answers.{status, evicted, zone_deed, fires, answer, answered_back, answered}
use Rattle.zone_model.proofs.ExampleDrive.{drive, act_on, read, send, open_zone, open_with_window, commit_to, excursion, narrow, plain, of_namespace, put, add, close_zone, finish, reset, send_all, report_from, identify, read_log, answers, crowded}

-- Writes of too many blocks, also to another namespace or past the end; one past the end, and one up to it
write-fronts : answers narrow [] (of_namespace 2 (put 0 33) ∷ put 250 33 ∷ put 0 32 ∷ put 255 2 ∷ put 255 1 ∷ []) ≡ invalid_namespace ∷ invalid_field ∷ success ∷ lba_out_of_range ∷ zone_invalid_write ∷ []
unfolding io_command admin_command deeds pointer_since state_of window_of counted closed_zones had_excursion cleared waited enabled masked pending waiting status evicted zone_deed fires answer answered_back answered
write-fronts = refl

-- zone 0 is Read Only, zone 1 Full, zone 2 Offline
abbrev pub shut : List Place
shut = answered drive (excursion 1 0 4 ∷ finish 64 ∷ excursion 2 128 5 ∷ [])

-- in each state a Write away from the pointer and past the capacity; then to an Empty zone one past the capacity, and one up to it
write-states : answers drive shut (put 1 48 ∷ put 65 48 ∷ put 129 48 ∷ put 193 48 ∷ put 192 49 ∷ put 192 48 ∷ []) ≡ zone_read_only ∷ zone_full ∷ zone_offline ∷ zone_invalid_write ∷ zone_boundary_error ∷ success ∷ []
unfolding io_command admin_command deeds pointer_since state_of window_of counted closed_zones had_excursion cleared waited enabled masked pending waiting status evicted zone_deed fires answer answered_back answered
write-states = refl

-- Writes to an Empty, a Closed and an open zone when no resource is left
write-resources : answers drive (crowded drive) (put 192 49 ∷ put 192 1 ∷ put 129 48 ∷ put 129 1 ∷ put 0 1 ∷ []) ≡ zone_boundary_error ∷ too_many_active_zones ∷ zone_boundary_error ∷ too_many_open_zones ∷ success ∷ []
unfolding io_command admin_command deeds pointer_since state_of window_of counted closed_zones had_excursion cleared waited enabled masked pending waiting status evicted zone_deed fires answer answered_back answered
write-resources = refl

-- Appends of too many blocks, past the end, away from the first block, and past their own limit
append-facts :
    (answers narrow [] (of_namespace 2 (add 0 33) ∷ add 256 33 ∷ add 257 1 ∷ add 256 1 ∷ add 1 1 ∷ add 0 17 ∷ add 0 16 ∷ []) ≡ invalid_namespace ∷ invalid_field ∷ lba_out_of_range ∷ lba_out_of_range ∷ invalid_field ∷ invalid_field ∷ success ∷ [])
    × (answers narrow (answered narrow (finish 0 ∷ [])) (add 1 1 ∷ add 0 17 ∷ add 0 1 ∷ []) ≡ invalid_field ∷ invalid_field ∷ zone_full ∷ [])
    × (answers drive shut (add 0 49 ∷ add 64 49 ∷ add 128 49 ∷ add 192 49 ∷ add 192 48 ∷ []) ≡ zone_read_only ∷ zone_full ∷ zone_offline ∷ zone_boundary_error ∷ success ∷ [])
    × (answers drive (crowded drive) (add 192 49 ∷ add 192 1 ∷ add 128 48 ∷ add 128 47 ∷ add 0 1 ∷ []) ≡ zone_boundary_error ∷ too_many_active_zones ∷ zone_boundary_error ∷ too_many_open_zones ∷ success ∷ [])
unfolding io_command admin_command deeds pointer_since state_of window_of counted closed_zones had_excursion cleared waited enabled masked pending waiting status evicted zone_deed fires answer answered_back answered
append-facts = (refl, refl, refl, refl)

-- an Append past the capacity, to a zone with a random write area
append-window : answers drive (answered drive (open_with_window 0 ∷ [])) (add 0 49 ∷ []) ≡ invalid_zone_operation ∷ []
unfolding io_command admin_command deeds pointer_since state_of window_of counted closed_zones had_excursion cleared waited enabled masked pending waiting status evicted zone_deed fires answer answered_back answered
append-window = refl

-- zone 1 is Offline; the first Reads are too long, or of another namespace
read-rows : answers narrow (answered narrow (excursion 1 64 5 ∷ [])) (of_namespace 2 (read 0 33) ∷ read 250 33 ∷ read 250 10 ∷ read 60 8 ∷ read 64 1 ∷ read 127 1 ∷ read 128 1 ∷ read 255 1 ∷ []) ≡ invalid_namespace ∷ invalid_field ∷ lba_out_of_range ∷ zone_boundary_error ∷ zone_offline ∷ zone_offline ∷ success ∷ success ∷ []
unfolding io_command admin_command deeds pointer_since state_of window_of counted closed_zones had_excursion cleared waited enabled masked pending waiting status evicted zone_deed fires answer answered_back answered
read-rows = refl

-- on a drive where a Read may cross zones, it must find none of its zones Offline
read-across-offline : answers (record drive { flags = 1 }) (answered drive (excursion 1 64 5 ∷ [])) (read 60 8 ∷ read 0 64 ∷ read 127 2 ∷ read 128 66 ∷ []) ≡ zone_offline ∷ success ∷ zone_offline ∷ success ∷ []
unfolding io_command admin_command deeds pointer_since state_of window_of counted closed_zones had_excursion cleared waited enabled masked pending waiting status evicted zone_deed fires answer answered_back answered
read-across-offline = refl

-- an unknown action; a commit of all zones, and an Open of all with a random write area; blocks past the end and inside a zone
send-fronts : answers drive (answered drive (finish 64 ∷ [])) (of_namespace 2 (send 999 0x010) ∷ send 999 0x010 ∷ send 999 0x111 ∷ send 999 0x303 ∷ send 257 0x003 ∷ send 256 0x011 ∷ send 65 0x003 ∷ send 1 0x001 ∷ send 0 0x001 ∷ send 999 0x103 ∷ send 999 0x301 ∷ []) ≡ invalid_namespace ∷ invalid_field ∷ invalid_field ∷ invalid_field ∷ lba_out_of_range ∷ lba_out_of_range ∷ invalid_field ∷ invalid_field ∷ invalid_zone_state_transition ∷ success ∷ success ∷ []
unfolding io_command admin_command deeds pointer_since state_of window_of counted closed_zones had_excursion cleared waited enabled masked pending waiting status evicted zone_deed fires answer answered_back answered
send-fronts = refl

-- what each state refuses
send-states : answers drive shut (close_zone 0 ∷ finish 0 ∷ finish 64 ∷ reset 0 ∷ reset 128 ∷ send 0 0x005 ∷ send 64 0x005 ∷ send 192 0x005 ∷ open_zone 64 ∷ close_zone 192 ∷ []) ≡ invalid_zone_state_transition ∷ invalid_zone_state_transition ∷ success ∷ invalid_zone_state_transition ∷ invalid_zone_state_transition ∷ success ∷ invalid_zone_state_transition ∷ invalid_zone_state_transition ∷ invalid_zone_state_transition ∷ invalid_zone_state_transition ∷ []
unfolding io_command admin_command deeds pointer_since state_of window_of counted closed_zones had_excursion cleared waited enabled masked pending waiting status evicted zone_deed fires answer answered_back answered
send-states = refl

-- Opens when no resource is left, also with a random write area where the pointer is off a granule
open-resources : answers drive (crowded drive) (open_zone 192 ∷ open_zone 128 ∷ open_with_window 128 ∷ open_with_window 192 ∷ open_zone 0 ∷ open_with_window 0 ∷ []) ≡ too_many_active_zones ∷ too_many_open_zones ∷ invalid_zone_operation ∷ too_many_active_zones ∷ success ∷ success ∷ []
unfolding io_command admin_command deeds pointer_since state_of window_of counted closed_zones had_excursion cleared waited enabled masked pending waiting status evicted zone_deed fires answer answered_back answered
open-resources = refl

-- Opens on a drive without random write areas
open-facts :
    (answers plain (crowded plain) (open_with_window 192 ∷ open_zone 192 ∷ []) ≡ invalid_zone_operation ∷ too_many_active_zones ∷ [])
    × (answers plain (answered plain (finish 64 ∷ [])) (open_with_window 64 ∷ []) ≡ invalid_zone_state_transition ∷ [])
unfolding io_command admin_command deeds pointer_since state_of window_of counted closed_zones had_excursion cleared waited enabled masked pending waiting status evicted zone_deed fires answer answered_back answered
open-facts = (refl, refl)

-- zone 0 has the only random write area, zones 0 and 1 are opened, and zone 2 is Closed at a granule
abbrev pub no_area_left : List Place
no_area_left = answered drive (put 128 4 ∷ open_with_window 0 ∷ open_zone 64 ∷ [])

-- a lack of random write areas refuses last, and a zone that has one keeps it
open-area-last : answers drive no_area_left (open_with_window 128 ∷ open_with_window 0 ∷ open_with_window 64 ∷ []) ≡ too_many_open_zones ∷ success ∷ zrwa_resources_unavailable ∷ []
unfolding io_command admin_command deeds pointer_since state_of window_of counted closed_zones had_excursion cleared waited enabled masked pending waiting status evicted zone_deed fires answer answered_back answered
open-area-last = refl

-- commits of a Closed zone with a random write area, and of a zone without one
commit-rows : answers drive (answered drive (open_with_window 0 ∷ close_zone 0 ∷ open_zone 64 ∷ open_zone 128 ∷ [])) (commit_to 3 ∷ commit_to 2 ∷ commit_to 11 ∷ commit_to 112 ∷ []) ≡ too_many_open_zones ∷ invalid_field ∷ zone_boundary_error ∷ invalid_zone_operation ∷ []
unfolding io_command admin_command deeds pointer_since state_of window_of counted closed_zones had_excursion cleared waited enabled masked pending waiting status evicted zone_deed fires answer answered_back answered
commit-rows = refl

-- two zones are opened, and an Open of all would open a third
open-all :
    (answers drive (crowded drive) (send_all 0x03 ∷ send_all 0x01 ∷ []) ≡ too_many_open_zones ∷ success ∷ [])
    × (answers drive (answered drive (put 128 1 ∷ open_zone 0 ∷ open_zone 64 ∷ finish 64 ∷ [])) (send_all 0x03 ∷ []) ≡ success ∷ [])
unfolding io_command admin_command deeds pointer_since state_of window_of counted closed_zones had_excursion cleared waited enabled masked pending waiting status evicted zone_deed fires answer answered_back answered
open-all = (refl, refl)

-- reports that are too long, past the end, with an unknown filter, and of another action
receive-rows : answers narrow [] (of_namespace 2 (report_from 256 16388 0 0) ∷ report_from 256 16388 0 0 ∷ report_from 256 64 8 0 ∷ act_on 1 0x7a 1 256 0 15 1 [] ∷ act_on 1 0x7a 1 0 0 15 1 [] ∷ report_from 0 64 8 0 ∷ report_from 256 64 0 0 ∷ report_from 255 16384 7 0 ∷ []) ≡ invalid_namespace ∷ invalid_field ∷ invalid_field ∷ invalid_field ∷ invalid_field ∷ invalid_field ∷ lba_out_of_range ∷ success ∷ []
unfolding io_command admin_command deeds pointer_since state_of window_of counted closed_zones had_excursion cleared waited enabled masked pending waiting status evicted zone_deed fires answer answered_back answered
receive-rows = refl

log-rows : answers narrow [] (of_namespace 2 (read_log 0xbe 4097 4) ∷ of_namespace 2 (read_log 0xbf 4097 4) ∷ read_log 0xbf 4097 0 ∷ read_log 0xbf 4 4 ∷ read_log 0xbf 4096 0 ∷ []) ≡ invalid_log_page ∷ invalid_namespace ∷ invalid_field ∷ invalid_field ∷ success ∷ []
unfolding io_command admin_command deeds pointer_since state_of window_of counted closed_zones had_excursion cleared waited enabled masked pending waiting status evicted zone_deed fires answer answered_back answered
log-rows = refl

identify-rows : answers drive [] (of_namespace 2 (identify 0x05 0) ∷ of_namespace 2 (identify 0x05 2) ∷ of_namespace 2 (identify 0x00 2) ∷ of_namespace 2 (identify 0x01 0) ∷ of_namespace 2 (identify 0x06 2) ∷ identify 0x00 9 ∷ identify 0x02 0 ∷ []) ≡ invalid_field ∷ invalid_namespace ∷ invalid_namespace ∷ success ∷ success ∷ success ∷ invalid_field ∷ []
unfolding io_command admin_command deeds pointer_since state_of window_of counted closed_zones had_excursion cleared waited enabled masked pending waiting status evicted zone_deed fires answer answered_back answered
identify-rows = refl

-- Flushes of namespace 1, of all, and of another; features; opcodes that no queue has
other-rows : answers drive [] (act_on 1 0x00 1 0 0 0 0 [] ∷ of_namespace 0xffffffff (act_on 1 0x00 1 0 0 0 0 []) ∷ of_namespace 2 (act_on 1 0x00 1 0 0 0 0 []) ∷ act_on 0 0x09 1 0x0a 0 0 0 [] ∷ act_on 0 0x0a 1 0x0a 0 0 0 [] ∷ act_on 0 0x0a 1 0x0b 0 0 0 [] ∷ act_on 1 0x19 1 0 0 0 0 [] ∷ act_on 0 0x01 1 0 0 0 0 [] ∷ []) ≡ success ∷ success ∷ invalid_namespace ∷ invalid_field ∷ invalid_field ∷ success ∷ invalid_opcode ∷ invalid_opcode ∷ []
unfolding io_command admin_command deeds pointer_since state_of window_of counted closed_zones had_excursion cleared waited enabled masked pending waiting status evicted zone_deed fires answer answered_back answered
other-rows = refl

excursion-rows : answers drive shut (of_namespace 2 (excursion 1 256 0) ∷ excursion 1 256 0 ∷ excursion 1 256 6 ∷ excursion 1 257 1 ∷ excursion 1 193 1 ∷ excursion 1 192 1 ∷ excursion 1 192 2 ∷ excursion 1 64 3 ∷ excursion 1 0 5 ∷ excursion 1 128 5 ∷ []) ≡ invalid_namespace ∷ invalid_field ∷ invalid_field ∷ lba_out_of_range ∷ invalid_field ∷ invalid_zone_state_transition ∷ invalid_zone_state_transition ∷ success ∷ success ∷ invalid_zone_state_transition ∷ []
unfolding io_command admin_command deeds pointer_since state_of window_of counted closed_zones had_excursion cleared waited enabled masked pending waiting status evicted zone_deed fires answer answered_back answered
excursion-rows = refl
