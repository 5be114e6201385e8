use Rattle.std.proofs.Common.{arith, ap}
use Rattle.zone_model.specs.declared.act.Act.{Act}
use Rattle.session_file.proofs.Appending.{some_act, queues-more}
use Rattle.session_file.proofs.results.put_own_queues.Goals as goal

pub loop-number-preserved : goal.loop-number-preserved
loop-number-preserved c = rw c.in_ok-put_u16.ensures (queues-more c.args.acts.now.acts c.loop-number.number c.act.result.now.queue c.args.file.now.items c.loop-number.file.items (omega arith) (ap (λ (a : Act). a.queue) (c.act.ensures some_act)) c.loop-number.invariant)
