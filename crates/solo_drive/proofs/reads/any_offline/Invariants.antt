use Rattle.std.proofs.Common.{◌≡◌, ◌-◌, false}
use Rattle.std.specs.List.{list_any, range_with_len}
use Rattle.zns_types.specs.States.{is_offline}
use Rattle.zone_room.specs.Rooms.{cell_in}
use Rattle.solo_drive.proofs.reads.any_offline.Given as goal

abbrev pub invariant-loop-place : goal.invariant-loop-place
invariant-loop-place l = list_any (λ i. is_offline (cell_in l.cells i).state) (range_with_len l.from (l.place - l.from)) ≡ false
