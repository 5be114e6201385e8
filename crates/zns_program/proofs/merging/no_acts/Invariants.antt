use Rattle.zns_program.specs.Queues.{AreQueues}
use Rattle.std.proofs.Common.{[]}
use Rattle.zns_program.proofs.merging.no_acts.Given as goal

abbrev pub invariant-loop-number : goal.invariant-loop-number
invariant-loop-number l = AreQueues l._number [] l.queues.items
