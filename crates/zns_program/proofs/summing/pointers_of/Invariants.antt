use Rattle.std.proofs.Common.{◌≡◌, ◌*◌, ◌≤◌, map}
use Rattle.std.specs.Prelude.{sum}
use Rattle.std.specs.List.{range_with_len}
use Rattle.zone_model.specs.Zones.{pointer}
use Rattle.solo_drive.specs.Drives.{history}
use Rattle.zns_program.proofs.summing.pointers_of.Given as goal

abbrev pub invariant-loop-zone : goal.invariant-loop-zone
invariant-loop-zone l = record {
  sum : l.sum ≡ sum (map (pointer l.drive.geometry (history l.drive)) (range_with_len 0 l.zone));
  small : l.sum ≤ l.zone * l.drive.geometry.zone_size;
}
