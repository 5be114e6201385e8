use Rattle.std.proofs.Common.{◌<◌, arith}
use Rattle.std.proofs.lemmas.List.Elements.{recursion_from_All}
use Rattle.zone_model.specs.declared.act.Act.{Act}
use Rattle.session_file.proofs.OrderSteps.{so_far-none, so_far-more, so_far-broken, so_far-all}
use Rattle.session_file.proofs.ordering.read_queues.Goals as goal

pub loop-number-init : goal.loop-number-init
loop-number-init c =
    rw c.new-queues.ensures.items (so_far-none c.args.at c.args.bytes.now c.args.acts.now.acts c.count_acts-left.result c.count_acts-left.ensures.long c.count_acts-left.ensures.counts)

pub loop-number-preserved : goal.loop-number-preserved
loop-number-preserved c =
    let some = c.take_one.ensures.some c.if-not-take_one.false in
    rw (c.in_ok-push.ensures.items, c.take_one.ensures.taken c.if-not-take_one.false)
    (so_far-more c.loop-number.number c.args.at c.args.bytes.now c.args.acts.now.acts c.loop-number.queues.items c.loop-number.left c.u16_at-queue.result c.loop-number.invariant (omega arith) c.u16_at-queue.ensures some.0 some.1)

pub returns-then-not-take_one-clause-broken : goal.returns-then-not-take_one-clause-broken
returns-then-not-take_one-clause-broken c =
    rw c.bad.ensures
    (so_far-broken c.loop-number.number c.args.at c.args.bytes.now c.args.acts.now.acts c.loop-number.queues.items c.loop-number.left c.u16_at-queue.result c.loop-number.invariant
    (recursion_from_All (λ (act : Act). act.queue < 17) c.args.acts.now.acts c.requires.few) (omega arith) c.u16_at-queue.ensures (c.take_one.ensures.none c.if-not-take_one.true))

pub returns-clause-queues : goal.returns-clause-queues
returns-clause-queues c = (so_far-all c.loop-number.number c.args.at c.args.bytes.now c.args.acts.now.acts c.loop-number.queues.items c.loop-number.left c.loop-number.invariant (omega arith)).0

pub returns-clause-passed : goal.returns-clause-passed
returns-clause-passed c = (so_far-all c.loop-number.number c.args.at c.args.bytes.now c.args.acts.now.acts c.loop-number.queues.items c.loop-number.left c.loop-number.invariant (omega arith)).1
