use Rattle.std.proofs.Common.{refl, arith}
use Rattle.queue_controller.proofs.Taken.{takes-none, may-take, takes-more, stops-at}
use Rattle.queue_controller.proofs.words.try_between.Goals as goal

pub loop-zone-init : goal.loop-zone-init
loop-zone-init c = takes-none c.args.pass.now c.args.first c.requires.free.idle.1

pub try_word-requires-clause-next : goal.try_word-requires-clause-next
try_word-requires-clause-next c =
    let within = c.requires.within in
    may-take c.args.desk.now c.args.pass.now c.args.first c.loop-zone.zone c.loop-zone.pass c.loop-zone.invariant c.requires.free (omega (arith, c.loop-zone-test.true, within))

pub loop-zone-preserved : goal.loop-zone-preserved
loop-zone-preserved c =
    let taken = c.if-not-try_word.ensures.taken refl in
    takes-more c.args.pass.now c.loop-zone.pass c.try_word.new.pass c.args.first c.loop-zone.zone c.loop-zone.auto.zone c.loop-zone.invariant (taken.zone c.loop-zone.zone refl)

pub returns-then-not-try_word : goal.returns-then-not-try_word
returns-then-not-try_word c =
    stops-at c.args.pass.now c.loop-zone.pass c.try_word.new.pass c.args.first c.args.end c.loop-zone.zone c.loop-zone.auto.zone c.loop-zone-test.true c.loop-zone.invariant (c.if-not-try_word.ensures.held refl)
