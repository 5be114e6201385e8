use Rattle.session_file.proofs.OrderShifts.{first_after}
use Rattle.session_file.proofs.ordering.read_order_after.Goals as goal

pub returns-in-Err-clause-broken : goal.returns-in-Err-clause-broken
returns-in-Err-clause-broken c = rw c.later.ensures (first_after c.args.before c.args.bytes.now c.args.session.now.acts c.in-Err.error c.in-Err.ensures.broken)
