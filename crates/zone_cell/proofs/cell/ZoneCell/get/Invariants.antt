use Rattle.std.proofs.Common.{◌≡◌, ◌*◌, ◌++◌, drop}
use Rattle.zone_cell.specs.Cells.{bytes_at}
use Rattle.zone_cell.proofs.cell.ZoneCell.get.Given as goal

abbrev pub invariant-loop-i : goal.invariant-loop-i
invariant-loop-i l = l.out ≡ bytes_at l.self l.from l.i ++ drop (l.i * l.len) l.initial.out
