use Rattle.zns_program.specs.Queues.{AreQueues}
use Rattle.zns_program.proofs.merging.queues_of.Given as goal

abbrev pub invariant-loop-act : goal.invariant-loop-act
invariant-loop-act l = AreQueues l.count l.yielded l.queues.items
