use Rattle.std.proofs.Common.{◌≡◌}
use Rattle.zone_desk.proofs.desk.Desk.take_word.Given as goal

abbrev pub invariant-loop : goal.invariant-loop
invariant-loop g l = l.pass ≡ l.initial.pass
