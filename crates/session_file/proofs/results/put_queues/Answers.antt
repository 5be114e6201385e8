use Rattle.std.proofs.Common.{arith}
use Rattle.session_file.proofs.Appending.{some_act, queues-more}
use Rattle.session_file.proofs.results.put_queues.Goals as goal

pub loop-number-preserved : goal.loop-number-preserved
loop-number-preserved c = rw c.in_ok-put_u16.ensures (queues-more c.args.journal.now.acts c.loop-number.number c.queue.result c.args.file.now.items c.loop-number.file.items (omega arith) (c.queue.ensures some_act) c.loop-number.invariant)
