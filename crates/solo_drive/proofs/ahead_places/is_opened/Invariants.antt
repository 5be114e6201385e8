use Rattle.std.proofs.Common.{◌≡◌, drop}
use Rattle.solo_drive.specs.Ahead.{opened_in}
use Rattle.solo_drive.proofs.ahead_places.is_opened.Given as goal

-- the remaining cells decide
abbrev pub invariant-loop-cell : goal.invariant-loop-cell
invariant-loop-cell l = opened_in (drop l.cell-index l.cells) l.zone ≡ opened_in l.cells l.zone
