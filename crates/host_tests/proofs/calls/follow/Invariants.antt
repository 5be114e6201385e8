use Rattle.std.proofs.Common.{◌≡◌}
use Rattle.host_tests.proofs.calls.follow.Given as goal

abbrev pub invariant-loop-call : goal.invariant-loop-call
invariant-loop-call g l = l.host.geometry ≡ l.initial.host.geometry
