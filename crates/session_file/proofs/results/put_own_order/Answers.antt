use Rattle.session_file.proofs.Appending.{order_put}
use Rattle.session_file.proofs.results.put_own_order.Goals as goal

pub returns : goal.returns
returns c = rw (c.in_ok-put_own_queues.ensures, c.in_ok-put_u32.ensures, c.in_ok-extend_from_slice.ensures.items, c.len.ensures) (order_put c.args.file.now.items c.args.acts.now.acts)
