use Rattle.zns_program.proofs.Mixing.{Mixes}
use Rattle.zns_program.proofs.merging.in_order.Given as goal

abbrev pub invariant-loop-number : goal.invariant-loop-number
invariant-loop-number l = Mixes l.count l.fn.acts.items l.order l.number l.queues.items l.mixed.items
