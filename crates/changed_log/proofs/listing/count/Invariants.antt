use Rattle.std.proofs.Common.{◌≡◌, ◌≤◌, length}
use Rattle.changed_log.specs.Logs.{marked_below}
use Rattle.changed_log.proofs.listing.count.Given as goal

abbrev pub invariant-loop-zone : goal.invariant-loop-zone
invariant-loop-zone l = (l.number ≡ length (marked_below l.marks l.zone)) × (l.number ≤ l.zone)
