use Rattle.std.proofs.Common.{◌≡◌, None}
use Rattle.std.specs.Prelude.{◌==◌, ◌&&◌, not, find}
use Rattle.std.specs.List.{range_with_len}
use Rattle.zns_types.specs.States.{is_implicitly_opened}
use Rattle.zone_room.specs.Rooms.{cell_in}
use Rattle.zone_room.proofs.evicting.evictable.Given as goal

abbrev pub invariant-loop-at : goal.invariant-loop-at
invariant-loop-at l = find (λ i. is_implicitly_opened (cell_in l.cells i).state && not (i == l.but)) (range_with_len 0 l.at) ≡ None
