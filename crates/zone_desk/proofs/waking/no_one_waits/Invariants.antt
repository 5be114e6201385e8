use Rattle.std.proofs.Common.{◌≡◌, ◌≤◌, vec_len, vec_capacity}
use Rattle.zone_desk.proofs.waking.no_one_waits.Given as goal

abbrev pub invariant-loop : goal.invariant-loop
invariant-loop l = record {
  count : vec_len l.waiting ≡ l.counter;
  room : l.words ≤ vec_capacity l.waiting;
}
