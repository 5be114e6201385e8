use Rattle.std.proofs.Common.{[], refl}
use Rattle.zone_model.specs.Answers.{answered}
use Rattle.host_script.specs.Serving.{acts_of_host}
use Rattle.host_script.proofs.Sent.{told-outcome, was_sent, Waits, waits, some_waits}
use Rattle.host_script.proofs.serving.send.Goals as goal

pub outcome_of-requires : goal.outcome_of-requires
outcome_of-requires c =
    let host = c.args.host.now in
    let w : Waits host.ring = waits host.ring c.requires.waits in
    let told = c.pump-answer.ensures.told (acts_of_host host) refl w.act [] w.one (c.pump-answer.ensures.surely c.requires.spare) in
    told-outcome host.geometry (answered host.geometry (acts_of_host host)) w.act c.pump-answer.result told.result

pub returns : goal.returns
returns c = λ act one.
    let host = c.args.host.now in
    let sure = c.pump-answer.ensures.surely c.requires.spare in
    was_sent host c.pump-answer.new.self c.pump-answer.result c.pump-answer.new.out act c.outcome_of.result one sure
    (c.pump-answer.ensures.sends (some_waits host.ring act one))
    (c.pump-answer.ensures.told (acts_of_host host) refl act [] one sure)
    c.pump-answer.ensures.geometry c.pump-answer.ensures.less_sure c.outcome_of.ensures
