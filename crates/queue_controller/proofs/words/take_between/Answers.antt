use Rattle.std.proofs.Common.{refl, arith}
use Rattle.queue_controller.proofs.Taken.{takes-none, may-take, takes-more}
use Rattle.queue_controller.proofs.words.take_between.Goals as goal

pub loop-zone-init : goal.loop-zone-init
loop-zone-init g c = takes-none c.args.pass.now c.args.first c.requires.free.idle.1

pub take_word-requires-clause-next : goal.take_word-requires-clause-next
take_word-requires-clause-next g c =
    let within = c.requires.within in
    may-take c.args.desk.now c.args.pass.now c.args.first c.loop-zone.zone c.loop-zone.pass c.loop-zone.invariant c.requires.free (omega (arith, c.loop-zone-test.true, within))

pub loop-zone-preserved : goal.loop-zone-preserved
loop-zone-preserved g c = takes-more c.args.pass.now c.loop-zone.pass c.take_word.new.pass c.args.first c.loop-zone.zone c.loop-zone.auto.zone c.loop-zone.invariant (c.take_word.ensures.zone c.loop-zone.zone refl)
