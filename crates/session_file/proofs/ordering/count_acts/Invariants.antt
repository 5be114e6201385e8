use Rattle.std.proofs.Common.{◌≡◌, length, take}
use Rattle.session_file.specs.Orders.{AreCounts}
use Rattle.session_file.proofs.ordering.count_acts.Given as goal

abbrev pub invariant-loop-number : goal.invariant-loop-number
invariant-loop-number l = record {
  long : length l.counts ≡ 17;
  counts : AreCounts (take l.number l.acts.acts) l.counts;
}
