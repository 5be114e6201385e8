use Rattle.std.proofs.Common.{◌≡◌, ◌<◌, [], length, get_or, ap, sym, ◌∙◌, arith}
use Rattle.std.proofs.lemmas.List.{get_or_read}
use Rattle.zns_program.proofs.Mixing.{mixes-none, mixes-next, mixes-more, mixes-all, order-few}
use Rattle.zone_model.specs.Sessions.{merged, own_order}
use Rattle.zns_program.proofs.Orders.{merged-own_order}
use Rattle.zns_program.proofs.merging.in_order.Goals as goal

pub returns-then-is_own : goal.returns-then-is_own
returns-then-is_own c =
    let own : c.args.order.now ≡ own_order c.args.acts.items = c.is_own.ensures c.if-is_own.true ∙ ap own_order c.deref.ensures.value in
    sym (ap (merged c.args.acts.items) own ∙ merged-own_order c.args.acts.items)

pub loop-number-init : goal.loop-number-init
loop-number-init c = rw c.new-mixed.ensures.items (mixes-none c.args.count c.args.acts.items c.args.order.now c.in_ok-queues.queues.items c.in_ok-queues.ensures c.requires.order)

pub index_mut-requires : goal.index_mut-requires
index_mut-requires c =
    let h : c.loop-number.number < length c.args.order.now = omega arith in
    let named : c.from-queue.result ≡ get_or c.args.order.now c.loop-number.number 0 = c.from-queue.ensures ∙ c.queue.ensures in
    let small : get_or c.args.order.now c.loop-number.number 0 < c.args.count = order-few c.args.count c.args.acts.items c.args.order.now c.loop-number.number c.requires.few c.requires.order h in
    omega (arith, small, named, c.loop-number.invariant.wait.long, c.loop-number.queues.ok.0)

pub take-requires : goal.take-requires
take-requires c =
    let h : c.loop-number.number < length c.args.order.now = omega arith in
    let named : c.from-queue.result ≡ get_or c.args.order.now c.loop-number.number 0 = c.from-queue.ensures ∙ c.queue.ensures in
    let small : get_or c.args.order.now c.loop-number.number 0 < c.args.count = order-few c.args.count c.args.acts.items c.args.order.now c.loop-number.number c.requires.few c.requires.order h in
    let few : c.from-queue.result < c.args.count = omega (arith, small, named) in
    let some : 0 < length (get_or c.loop-number.queues.items c.from-queue.result c.index_mut.result.now) =
    mixes-next c.args.count c.args.acts.items c.args.order.now c.loop-number.number c.loop-number.queues.items c.loop-number.mixed.items c.from-queue.result c.index_mut.result.now h named few c.loop-number.invariant in
    omega (arith, some, ap length c.index_mut.ensures.value)

pub loop-number-preserved : goal.loop-number-preserved
loop-number-preserved c =
    let h : c.loop-number.number < length c.args.order.now = omega arith in
    let named : c.from-queue.result ≡ get_or c.args.order.now c.loop-number.number 0 = c.from-queue.ensures ∙ c.queue.ensures in
    let small : get_or c.args.order.now c.loop-number.number 0 < c.args.count = order-few c.args.count c.args.acts.items c.args.order.now c.loop-number.number c.requires.few c.requires.order h in
    let few : c.from-queue.result < c.args.count = omega (arith, small, named) in
    let within : c.from-queue.result < length c.loop-number.queues.items = omega (arith, few, c.loop-number.invariant.wait.long) in
    let read : c.index_mut.result.now ≡ get_or c.loop-number.queues.items c.from-queue.result [] = get_or_read c.loop-number.queues.items c.from-queue.result c.index_mut.result.now within c.index_mut.ensures.value [] in
    rw c.in_ok-push.ensures.items (mixes-more c.args.count c.args.acts.items c.args.order.now c.loop-number.number c.loop-number.queues.items c.loop-number.mixed.items c.from-queue.result c.take.result c.take.new.self h named few (sym read ∙ c.take.ensures) c.loop-number.invariant)

pub returns : goal.returns
returns c = mixes-all c.args.count c.args.acts.items c.args.order.now c.loop-number.number c.loop-number.queues.items c.loop-number.mixed.items (omega arith) c.loop-number.invariant
