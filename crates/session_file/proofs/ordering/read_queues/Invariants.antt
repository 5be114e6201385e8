use Rattle.session_file.proofs.OrderSteps.{SoFar}
use Rattle.session_file.proofs.ordering.read_queues.Given as goal

abbrev pub invariant-loop-number : goal.invariant-loop-number
invariant-loop-number l = SoFar l.number l.at l.bytes l.acts.acts l.queues.items l.left
