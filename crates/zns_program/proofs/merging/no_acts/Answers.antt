use Rattle.std.proofs.Common.{arith}
use Rattle.zns_program.proofs.Mixing.{queues-none, queues-one, queues-count}
use Rattle.zns_program.proofs.merging.no_acts.Goals as goal

pub loop-number-init : goal.loop-number-init
loop-number-init c = queues-none c.new-queues.result.items c.new-queues.ensures.items

pub loop-number-preserved : goal.loop-number-preserved
loop-number-preserved c = queues-one c.loop-number._number c.loop-number.queues.items c.push.new.self.items c.new.result c.loop-number.invariant c.new.ensures c.in_ok-push.ensures.items

pub returns : goal.returns
returns c = queues-count c.loop-number._number c.args.count c.loop-number.queues.items (omega arith) c.loop-number.invariant
