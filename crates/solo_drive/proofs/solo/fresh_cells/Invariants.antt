use Rattle.std.proofs.Common.{◌≡◌, map}
use Rattle.std.specs.List.{range_with_len}
use Rattle.zone_cell.specs.Cells.{fresh}
use Rattle.solo_drive.proofs.solo.fresh_cells.Given as goal

abbrev pub invariant-loop-zone : goal.invariant-loop-zone
invariant-loop-zone l = l.cells.items ≡ map (fresh l.g.fields) (range_with_len 0 l.zone)
