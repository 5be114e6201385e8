-- Worked examples on writes and commits, and on the states, areas, attributes and pointers of zones, computed. The newest status comes
-- first.
use Rattle.std.proofs.Common.{◌≡◌, ℕ, Bool, true, false, Some, None, List, [], ◌∷◌, ◌++◌, map, refl}
use Rattle.drive_rules.specs.declared.deed.Deed.TheVariants as deed
use Rattle.zns_types.specs.declared.state.State.{State}
use Rattle.zns_types.specs.declared.state.State.TheVariants.{Empty, ImplicitlyOpened, ExplicitlyOpened, Closed, ReadOnly, Full, Offline}
use Rattle.zns_types.specs.Statuses.{success, invalid_field, lba_out_of_range, invalid_zone_operation, zone_boundary_error, zone_full, zone_invalid_write, zrwa_resources_unavailable, too_many_active_zones, too_many_open_zones, invalid_zone_state_transition}
use Rattle.sqe_codec.specs.Commands.{io_command, admin_command}
use Rattle.drive_rules.specs.declared.deed.Deed.{Deed}
use Rattle.drive_rules.specs.Deeds.{takes_all}
use Rattle.zone_history.specs.Histories.{pointer_since, state_of, window_of, block_of, attributes_of}
use Rattle.zone_model.specs.declared.act.Act.{Act}
use Rattle.zone_model.specs.Places.{Place, deeds, had_excursion, cleared, waited}
use Rattle.zone_model.specs.Zones.{window, pointer, block, committed, attributes, descriptor, counted, closed_zones}
use Rattle.zone_model.specs.Notices.{enabled, masked, pending, waiting}
use Rattle.zone_model.specs.Answers.{status, evicted, zone_deed, fires, answer, answered_back, answered}
use Rattle.zone_model.proofs.ExampleDrive.{drive, act_on, filled, write, append, send, open_zone, open_with_window, commit_to, reset_all, statuses, states, excursion, put, close_zone, finish, reset, send_all, mixed_acts, mixed}

-- a write that doesn't begin at the pointer
abbrev pub away_from_pointer : List Place
away_from_pointer = answered drive (write 0 1 (filled 1 0x11) ∷ write 2 1 (filled 1 0x11) ∷ [])

away_from_pointer-facts :
    (statuses away_from_pointer ≡ zone_invalid_write ∷ success ∷ [])
    × (pointer drive away_from_pointer 0 ≡ 1)
unfolding io_command admin_command deeds pointer_since state_of window_of block_of attributes_of counted closed_zones had_excursion cleared waited enabled masked pending waiting status evicted zone_deed fires answer answered_back answered
away_from_pointer-facts = (refl, refl)

-- blocks of the window can be written again, and others never
abbrev pub written_again : List Place
written_again = answered drive (open_with_window 0 ∷ write 4 2 (filled 2 0x11) ∷ write 4 2 (filled 2 0x22) ∷ [])

written_again-facts :
    (block drive written_again 0 5 ≡ Some (filled 1 0x22))
    × (block drive written_again 0 0 ≡ None)
    × (pointer drive written_again 0 ≡ 0)
unfolding io_command admin_command deeds pointer_since state_of window_of block_of attributes_of counted closed_zones had_excursion cleared waited enabled masked pending waiting status evicted zone_deed fires answer answered_back answered
written_again-facts = (refl, refl, refl)

-- a write up to the end of the window commits nothing
to_window_end-pointer : pointer drive (answered drive (open_with_window 0 ∷ write 7 1 (filled 1 0x11) ∷ [])) 0 ≡ 0
unfolding io_command admin_command deeds pointer_since state_of window_of block_of attributes_of counted closed_zones had_excursion cleared waited enabled masked pending waiting status evicted zone_deed fires answer answered_back answered
to_window_end-pointer = refl

-- writes that end past the window: by one block, by a whole window, and by more
past_window-facts :
    (pointer drive (answered drive (open_with_window 0 ∷ write 8 1 (filled 1 0x11) ∷ [])) 0 ≡ 4)
    × (pointer drive (answered drive (open_with_window 0 ∷ write 15 1 (filled 1 0x11) ∷ [])) 0 ≡ 8)
unfolding io_command admin_command deeds pointer_since state_of window_of block_of attributes_of counted closed_zones had_excursion cleared waited enabled masked pending waiting status evicted zone_deed fires answer answered_back answered
past_window-facts = (refl, refl)

abbrev pub past_two_windows : List Place
past_two_windows = answered drive (open_with_window 0 ∷ write 16 1 (filled 1 0x11) ∷ [])

past_two_windows-facts :
    (statuses past_two_windows ≡ zone_invalid_write ∷ success ∷ [])
    × (pointer drive past_two_windows 0 ≡ 0)
unfolding io_command admin_command deeds pointer_since state_of window_of block_of attributes_of counted closed_zones had_excursion cleared waited enabled masked pending waiting status evicted zone_deed fires answer answered_back answered
past_two_windows-facts = (refl, refl)

-- a write that ends within two windows, but past the capacity
abbrev pub past_capacity : List Place
past_capacity = answered drive (open_with_window 0 ∷ commit_to 7 ∷ commit_to 15 ∷ commit_to 23 ∷ commit_to 31 ∷ commit_to 39 ∷ commit_to 43 ∷ write 48 1 (filled 1 0x11) ∷ [])

past_capacity-statuses : statuses past_capacity ≡ zone_boundary_error ∷ success ∷ success ∷ success ∷ success ∷ success ∷ success ∷ success ∷ []
unfolding io_command admin_command deeds pointer_since state_of window_of block_of attributes_of counted closed_zones had_excursion cleared waited enabled masked pending waiting status evicted zone_deed fires answer answered_back answered
past_capacity-statuses = refl

-- a zone that is committed to its capacity is Full, and its window is free for another zone
abbrev pub to_capacity : List Place
to_capacity = answered drive (open_with_window 0 ∷ commit_to 7 ∷ commit_to 15 ∷ commit_to 23 ∷ commit_to 31 ∷ commit_to 39 ∷ write 40 8 (filled 8 0x11) ∷ commit_to 47 ∷ write 40 1 (filled 1 0x11) ∷ open_with_window 64 ∷ [])

to_capacity-facts :
    (statuses to_capacity ≡ success ∷ zone_full ∷ success ∷ success ∷ success ∷ success ∷ success ∷ success ∷ success ∷ success ∷ [])
    × (states to_capacity ≡ Full ∷ ExplicitlyOpened ∷ Empty ∷ Empty ∷ [])
    × (map (window drive to_capacity) (0 ∷ 1 ∷ []) ≡ false ∷ true ∷ [])
unfolding io_command admin_command deeds pointer_since state_of window_of block_of attributes_of counted closed_zones had_excursion cleared waited enabled masked pending waiting status evicted zone_deed fires answer answered_back answered
to_capacity-facts = (refl, refl, refl)

-- commits that cut a granule, run past the window, and commit nothing
abbrev pub bad_commits : List Place
bad_commits = answered drive (open_with_window 0 ∷ write 1 1 (filled 1 0x33) ∷ commit_to 2 ∷ commit_to 8 ∷ commit_to 3 ∷ commit_to 3 ∷ [])

bad_commits-facts :
    (statuses bad_commits ≡ zone_boundary_error ∷ success ∷ zone_boundary_error ∷ invalid_field ∷ success ∷ success ∷ [])
    × (pointer drive bad_commits 0 ≡ 4)
unfolding io_command admin_command deeds pointer_since state_of window_of block_of attributes_of counted closed_zones had_excursion cleared waited enabled masked pending waiting status evicted zone_deed fires answer answered_back answered
bad_commits-facts = (refl, refl)

-- the only window is taken
abbrev pub no_window : List Place
no_window = answered drive (open_with_window 0 ∷ open_with_window 64 ∷ [])

no_window-facts :
    (statuses no_window ≡ zrwa_resources_unavailable ∷ success ∷ [])
    × (states no_window ≡ ExplicitlyOpened ∷ Empty ∷ Empty ∷ Empty ∷ [])
unfolding io_command admin_command deeds pointer_since state_of window_of block_of attributes_of counted closed_zones had_excursion cleared waited enabled masked pending waiting status evicted zone_deed fires answer answered_back answered
no_window-facts = (refl, refl)

-- Explicitly Opened zones are not closed to make room for another
no_open_zone-statuses : statuses (answered drive (open_zone 0 ∷ open_zone 64 ∷ write 128 1 (filled 1 0x11) ∷ [])) ≡ too_many_open_zones ∷ success ∷ success ∷ []
unfolding io_command admin_command deeds pointer_since state_of window_of block_of attributes_of counted closed_zones had_excursion cleared waited enabled masked pending waiting status evicted zone_deed fires answer answered_back answered
no_open_zone-statuses = refl

-- opening a third zone closes the first, and a fourth finds no active resource
abbrev pub four_zones : List Place
four_zones = answered drive (write 0 1 (filled 1 0x11) ∷ write 64 1 (filled 1 0x11) ∷ write 128 1 (filled 1 0x11) ∷ append 192 1 (filled 1 0x11) ∷ [])

four_zones-facts :
    (statuses four_zones ≡ too_many_active_zones ∷ success ∷ success ∷ success ∷ [])
    × (states four_zones ≡ Closed ∷ ImplicitlyOpened ∷ ImplicitlyOpened ∷ Empty ∷ [])
    × (pointer drive four_zones 0 ≡ 1)
unfolding io_command admin_command deeds pointer_since state_of window_of block_of attributes_of counted closed_zones had_excursion cleared waited enabled masked pending waiting status evicted zone_deed fires answer answered_back answered
four_zones-facts = (refl, refl, refl)

-- an Append to a zone with a window, and one whose block isn't the first of a zone
bad_appends-statuses : statuses (answered drive (open_with_window 0 ∷ append 0 1 (filled 1 0x11) ∷ append 1 1 (filled 1 0x11) ∷ [])) ≡ invalid_field ∷ invalid_zone_operation ∷ success ∷ []
unfolding io_command admin_command deeds pointer_since state_of window_of block_of attributes_of counted closed_zones had_excursion cleared waited enabled masked pending waiting status evicted zone_deed fires answer answered_back answered
bad_appends-statuses = refl

-- a reset of all zones starts afresh
abbrev pub begun_anew : List Place
begun_anew = answered drive (append 64 2 (filled 2 0x11) ∷ append 64 2 (filled 2 0x22) ∷ reset_all ∷ append 64 3 (filled 3 0x33) ∷ [])

begun_anew-facts :
    (pointer drive begun_anew 1 ≡ 3)
    × (block drive begun_anew 1 3 ≡ None)
unfolding io_command admin_command deeds pointer_since state_of window_of block_of attributes_of counted closed_zones had_excursion cleared waited enabled masked pending waiting status evicted zone_deed fires answer answered_back answered
begun_anew-facts = (refl, refl)

-- the Offline action on a zone that isn't Read Only
offline_refused : statuses (answered drive (send 0 0x005 ∷ [])) ≡ invalid_zone_state_transition ∷ []
unfolding io_command admin_command deeds pointer_since state_of window_of block_of attributes_of counted closed_zones had_excursion cleared waited enabled masked pending waiting status evicted zone_deed fires answer answered_back answered
offline_refused = refl

-- a Read of the last block of 2^64
read_past_end : statuses (answered drive (act_on 1 0x02 1 0xffffffff 0xffffffff 0 0 [] ∷ [])) ≡ lba_out_of_range ∷ []
unfolding io_command admin_command deeds pointer_since state_of window_of block_of attributes_of counted closed_zones had_excursion cleared waited enabled masked pending waiting status evicted zone_deed fires answer answered_back answered
read_past_end = refl

-- what becomes of a Read Only, a Full, an Implicitly Opened and an Explicitly Opened zone after a Send to all zones
abbrev pub after_all : ℕ → List State
after_all code = states (answered drive (mixed_acts ++ send_all code ∷ []))

mixed-states : states mixed ≡ ReadOnly ∷ Full ∷ ImplicitlyOpened ∷ ExplicitlyOpened ∷ []
unfolding io_command admin_command deeds pointer_since state_of window_of block_of attributes_of counted closed_zones had_excursion cleared waited enabled masked pending waiting status evicted zone_deed fires answer answered_back answered
mixed-states = refl

after_all-facts :
    (after_all 0x01 ≡ ReadOnly ∷ Full ∷ Closed ∷ Closed ∷ [])
    × (after_all 0x02 ≡ ReadOnly ∷ Full ∷ Full ∷ Full ∷ [])
    × (after_all 0x03 ≡ ReadOnly ∷ Full ∷ ImplicitlyOpened ∷ ExplicitlyOpened ∷ [])
    × (after_all 0x04 ≡ ReadOnly ∷ Empty ∷ Empty ∷ Empty ∷ [])
    × (after_all 0x05 ≡ Offline ∷ Full ∷ ImplicitlyOpened ∷ ExplicitlyOpened ∷ [])
unfolding io_command admin_command deeds pointer_since state_of window_of block_of attributes_of counted closed_zones had_excursion cleared waited enabled masked pending waiting status evicted zone_deed fires answer answered_back answered
after_all-facts = (refl, refl, refl, refl, refl)

-- which states each action with Select All takes: Empty, Implicitly Opened, Explicitly Opened, Closed, Full, Read Only and Offline
abbrev pub taken : Deed → List Bool
taken a = map (takes_all a) (Empty ∷ ImplicitlyOpened ∷ ExplicitlyOpened ∷ Closed ∷ Full ∷ ReadOnly ∷ Offline ∷ [])

taken-by_all : map taken (deed.Close ∷ deed.Finish ∷ deed.Open false ∷ deed.Reset ∷ deed.Offline ∷ deed.Commit 0 ∷ []) ≡ (false ∷ true ∷ true ∷ false ∷ false ∷ false ∷ false ∷ []) ∷ (false ∷ true ∷ true ∷ true ∷ false ∷ false ∷ false ∷ []) ∷ (false ∷ false ∷ false ∷ true ∷ false ∷ false ∷ false ∷ []) ∷ (false ∷ true ∷ true ∷ true ∷ true ∷ false ∷ false ∷ []) ∷ (false ∷ false ∷ false ∷ false ∷ false ∷ true ∷ false ∷ []) ∷ (false ∷ false ∷ false ∷ false ∷ false ∷ false ∷ false ∷ []) ∷ []
taken-by_all = refl

-- an Empty zone, a Closed one and an open one: a Finish of all leaves the first as it is, and an Open of all takes the second
abbrev pub closed_one : List Place
closed_one = answered drive (put 0 1 ∷ close_zone 0 ∷ put 64 1 ∷ send_all 0x03 ∷ [])

closed_one-states : states closed_one ≡ ExplicitlyOpened ∷ ImplicitlyOpened ∷ Empty ∷ Empty ∷ []
unfolding io_command admin_command deeds pointer_since state_of window_of block_of attributes_of counted closed_zones had_excursion cleared waited enabled masked pending waiting status evicted zone_deed fires answer answered_back answered
closed_one-states = refl

finished_all-states : states (answered drive (put 0 1 ∷ close_zone 0 ∷ put 64 1 ∷ send_all 0x02 ∷ [])) ≡ Full ∷ Full ∷ Empty ∷ Empty ∷ []
unfolding io_command admin_command deeds pointer_since state_of window_of block_of attributes_of counted closed_zones had_excursion cleared waited enabled masked pending waiting status evicted zone_deed fires answer answered_back answered
finished_all-states = refl

closed_all-states : states (answered drive (put 0 1 ∷ close_zone 0 ∷ put 64 1 ∷ send_all 0x01 ∷ [])) ≡ Closed ∷ Closed ∷ Empty ∷ Empty ∷ []
unfolding io_command admin_command deeds pointer_since state_of window_of block_of attributes_of counted closed_zones had_excursion cleared waited enabled masked pending waiting status evicted zone_deed fires answer answered_back answered
closed_all-states = refl

-- the lowest-numbered zone is closed, even if another has been open for longer; an explicitly opened zone never is
evicts-facts :
    (states (answered drive (put 128 1 ∷ put 64 1 ∷ put 0 1 ∷ [])) ≡ ImplicitlyOpened ∷ Closed ∷ ImplicitlyOpened ∷ Empty ∷ [])
    × (states (answered drive (open_zone 0 ∷ put 64 1 ∷ put 128 1 ∷ [])) ≡ ExplicitlyOpened ∷ Closed ∷ ImplicitlyOpened ∷ Empty ∷ [])
unfolding io_command admin_command deeds pointer_since state_of window_of block_of attributes_of counted closed_zones had_excursion cleared waited enabled masked pending waiting status evicted zone_deed fires answer answered_back answered
evicts-facts = (refl, refl)

-- no zone is closed below the limit, for a zone that is already open, or for a command that is refused
evicts-not_below :
    (states (answered drive (put 0 1 ∷ put 64 1 ∷ [])) ≡ ImplicitlyOpened ∷ ImplicitlyOpened ∷ Empty ∷ Empty ∷ [])
    × (states (answered drive (put 0 1 ∷ put 64 1 ∷ put 1 1 ∷ open_zone 64 ∷ [])) ≡ ImplicitlyOpened ∷ ExplicitlyOpened ∷ Empty ∷ Empty ∷ [])
    × (states (answered drive (open_with_window 0 ∷ put 64 1 ∷ open_with_window 128 ∷ [])) ≡ ExplicitlyOpened ∷ ImplicitlyOpened ∷ Empty ∷ Empty ∷ [])
unfolding io_command admin_command deeds pointer_since state_of window_of block_of attributes_of counted closed_zones had_excursion cleared waited enabled masked pending waiting status evicted zone_deed fires answer answered_back answered
evicts-not_below = (refl, refl, refl)

-- a zone that is closed for another keeps its pointer and its random write area
abbrev pub evicted_area : List Place
evicted_area = answered drive (open_with_window 0 ∷ put 8 1 ∷ close_zone 0 ∷ put 9 1 ∷ put 64 1 ∷ put 128 1 ∷ [])

evicted_area-facts :
    (states evicted_area ≡ Closed ∷ ImplicitlyOpened ∷ ImplicitlyOpened ∷ Empty ∷ [])
    × (map (window drive evicted_area) (0 ∷ 1 ∷ []) ≡ true ∷ false ∷ [])
    × (map (pointer drive evicted_area) (0 ∷ 1 ∷ 2 ∷ 3 ∷ []) ≡ 4 ∷ 1 ∷ 1 ∷ 0 ∷ [])
unfolding io_command admin_command deeds pointer_since state_of window_of block_of attributes_of counted closed_zones had_excursion cleared waited enabled masked pending waiting status evicted zone_deed fires answer answered_back answered
evicted_area-facts = (refl, refl, refl)

-- an Append's blocks come after those that were there
appended-blocks : map (block drive (answered drive (append 64 2 (filled 2 0x11) ∷ append 64 1 (filled 1 0x22) ∷ [])) 1) (1 ∷ 2 ∷ 3 ∷ []) ≡ Some (filled 1 0x11) ∷ Some (filled 1 0x22) ∷ None ∷ []
unfolding io_command admin_command deeds pointer_since state_of window_of block_of attributes_of counted closed_zones had_excursion cleared waited enabled masked pending waiting status evicted zone_deed fires answer answered_back answered
appended-blocks = refl

-- An area begins after what was written before. A second Open leaves the pointer, and a reset removes the area.
area-facts :
    (pointer drive (answered drive (put 0 4 ∷ open_with_window 0 ∷ [])) 0 ≡ 4)
    × (pointer drive (answered drive (put 0 4 ∷ open_with_window 0 ∷ put 12 1 ∷ [])) 0 ≡ 8)
    × (pointer drive (answered drive (put 0 4 ∷ open_with_window 0 ∷ put 5 3 ∷ close_zone 0 ∷ open_with_window 0 ∷ put 4 4 ∷ [])) 0 ≡ 4)
    × (states (answered drive (open_with_window 0 ∷ close_zone 0 ∷ commit_to 3 ∷ [])) ≡ ImplicitlyOpened ∷ Empty ∷ Empty ∷ Empty ∷ [])
unfolding io_command admin_command deeds pointer_since state_of window_of block_of attributes_of counted closed_zones had_excursion cleared waited enabled masked pending waiting status evicted zone_deed fires answer answered_back answered
area-facts = (refl, refl, refl, refl)

abbrev pub area_reset : List Place
area_reset = answered drive (open_with_window 0 ∷ put 8 1 ∷ reset 0 ∷ put 0 3 ∷ [])

area_reset-facts :
    (pointer drive area_reset 0 ≡ 3)
    × (map (window drive area_reset) (0 ∷ []) ≡ false ∷ [])
    × (map (block drive area_reset 0) (2 ∷ 8 ∷ []) ≡ Some (filled 1 0x11) ∷ None ∷ [])
unfolding io_command admin_command deeds pointer_since state_of window_of block_of attributes_of counted closed_zones had_excursion cleared waited enabled masked pending waiting status evicted zone_deed fires answer answered_back answered
area_reset-facts = (refl, refl, refl)

-- a finish moves the pointer to the capacity, also when the controller does it
area-finished : map (pointer drive (answered drive (open_with_window 0 ∷ finish 0 ∷ finish 64 ∷ []))) (0 ∷ 1 ∷ 2 ∷ []) ≡ 48 ∷ 48 ∷ 0 ∷ []
unfolding io_command admin_command deeds pointer_since state_of window_of block_of attributes_of counted closed_zones had_excursion cleared waited enabled masked pending waiting status evicted zone_deed fires answer answered_back answered
area-finished = refl

controller-finished : map (pointer drive (answered drive (put 0 1 ∷ excursion 1 0 1 ∷ put 64 1 ∷ excursion 2 64 2 ∷ []))) (0 ∷ 1 ∷ []) ≡ 48 ∷ 1 ∷ []
unfolding io_command admin_command deeds pointer_since state_of window_of block_of attributes_of counted closed_zones had_excursion cleared waited enabled masked pending waiting status evicted zone_deed fires answer answered_back answered
controller-finished = refl

-- ---- attributes of zone 0 after these acts

abbrev pub attributes_after : List Act → ℕ
attributes_after acts = attributes drive (answered drive acts) 0

attributes-kinds : map attributes_after ((put 0 1 ∷ excursion 1 0 1 ∷ []) ∷ (put 0 1 ∷ excursion 1 0 2 ∷ []) ∷ (put 0 1 ∷ excursion 1 0 3 ∷ []) ∷ (open_with_window 0 ∷ excursion 1 0 2 ∷ excursion 1 0 3 ∷ []) ∷ []) ≡ 1 ∷ 2 ∷ 4 ∷ 14 ∷ []
unfolding io_command admin_command deeds pointer_since state_of window_of block_of attributes_of counted closed_zones had_excursion cleared waited enabled masked pending waiting status evicted zone_deed fires answer answered_back answered
attributes-kinds = refl

-- the only recommendation that a Full zone keeps is a reset, and a Closed one keeps all
attributes-facts :
    (map attributes_after ((put 0 1 ∷ excursion 1 0 2 ∷ excursion 1 0 3 ∷ finish 0 ∷ []) ∷ (put 0 1 ∷ excursion 1 0 1 ∷ excursion 1 0 3 ∷ []) ∷ (open_with_window 0 ∷ excursion 1 0 2 ∷ close_zone 0 ∷ []) ∷ []) ≡ 4 ∷ 5 ∷ 10 ∷ [])
    × (map attributes_after ((put 0 1 ∷ excursion 1 0 2 ∷ excursion 1 0 3 ∷ reset 0 ∷ put 0 1 ∷ []) ∷ (put 0 1 ∷ excursion 1 0 1 ∷ excursion 1 0 4 ∷ []) ∷ (open_with_window 0 ∷ excursion 1 0 2 ∷ excursion 1 0 3 ∷ excursion 1 0 4 ∷ []) ∷ (put 0 1 ∷ excursion 1 0 3 ∷ excursion 1 0 5 ∷ []) ∷ []) ≡ 0 ∷ 0 ∷ 0 ∷ 0 ∷ [])
unfolding io_command admin_command deeds pointer_since state_of window_of block_of attributes_of counted closed_zones had_excursion cleared waited enabled masked pending waiting status evicted zone_deed fires answer answered_back answered
attributes-facts = (refl, refl)

-- a Read Only, a Full, an Offline and a Closed zone
abbrev pub shut_four : List Place
shut_four = answered drive (put 0 2 ∷ excursion 1 0 4 ∷ put 64 2 ∷ finish 64 ∷ put 128 2 ∷ excursion 1 128 5 ∷ put 192 2 ∷ close_zone 192 ∷ [])

-- only the pointer of the last zone is meaningful
pointers-shown : map (λ z. (descriptor drive shut_four z).pointer) (0 ∷ 1 ∷ 2 ∷ 3 ∷ []) ≡ 18446744073709551615 ∷ 18446744073709551615 ∷ 18446744073709551615 ∷ 194 ∷ []
unfolding io_command admin_command deeds pointer_since state_of window_of block_of attributes_of counted closed_zones had_excursion cleared waited enabled masked pending waiting status evicted zone_deed fires answer answered_back answered
pointers-shown = refl

-- of a Read Only zone every block below the capacity is committed, and of the others what lies before the pointer
blocks-committed : map (λ z. map (committed drive shut_four z) (1 ∷ 2 ∷ 47 ∷ 48 ∷ [])) (0 ∷ 1 ∷ 2 ∷ 3 ∷ []) ≡ (true ∷ true ∷ true ∷ false ∷ []) ∷ (true ∷ true ∷ true ∷ false ∷ []) ∷ (true ∷ false ∷ false ∷ false ∷ []) ∷ (true ∷ false ∷ false ∷ false ∷ []) ∷ []
unfolding io_command admin_command deeds pointer_since state_of window_of block_of attributes_of counted closed_zones had_excursion cleared waited enabled masked pending waiting status evicted zone_deed fires answer answered_back answered
blocks-committed = refl
