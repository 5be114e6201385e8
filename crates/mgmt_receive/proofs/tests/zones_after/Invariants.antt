use Rattle.std.proofs.Common.{◌≡◌, vec_len}
use Rattle.std.specs.Prelude.{All}
use Rattle.zone_cell.specs.Cells.{IsOf}
use Rattle.mgmt_receive.proofs.tests.zones_after.Given as goal

abbrev pub invariant-loop-zone : goal.invariant-loop-zone
invariant-loop-zone l = (vec_len l.cells ≡ l.zone) × All (IsOf l.g.fields) l.cells.items
