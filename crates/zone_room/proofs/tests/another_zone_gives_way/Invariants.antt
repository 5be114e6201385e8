use Rattle.std.proofs.Common.{All}
use Rattle.zone_cell.specs.Cells.{IsOf}
use Rattle.zone_room.proofs.tests.another_zone_gives_way.Given as goal

abbrev pub invariant-loop-place : goal.invariant-loop-place
invariant-loop-place g l = All (IsOf l.g.fields) l.cells

abbrev pub invariant-loop-opened : goal.invariant-loop-opened
invariant-loop-opened g l = All (IsOf l.g.fields) l.one
