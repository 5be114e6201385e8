use Rattle.std.proofs.Common.{◌≡◌, ◌++◌}
use Rattle.queue_controller.specs.Sessions.{AreDealt}
use Rattle.queue_controller.proofs.opening.deal.Given as goal

abbrev pub invariant-loop-act : goal.invariant-loop-act
invariant-loop-act l = record {
  dealt : AreDealt l.g.fields l.yielded l.lists.items;
  items : l.yielded ++ l.act-iterator.rest.items ≡ l.fn.acts.items;
}
