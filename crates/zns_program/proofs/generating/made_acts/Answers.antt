use Rattle.std.proofs.Common.{arith}
use Rattle.std.proofs.lemmas.List.Elements.{All-push}
use Rattle.zns_program.specs.Generating.{made_acts, IsOneBlock}
use Rattle.zns_program.proofs.MadeActs.{one_more}
use Rattle.zns_program.proofs.generating.made_acts.Goals as goal

pub loop-number-preserved : goal.loop-number-preserved
loop-number-preserved c =
    let all = made_acts c.args.count 0 c.args.number in
    let before = c.loop-number.acts.acts in
    let act = c.in_ok-act.act in
    record {
      acts = rw (c.push.ensures.acts, c.in_ok-act.ensures.act, c.made_act.ensures.state) (one_more c.args.count c.loop-number.number c.loop-number.draws.state all before c.loop-number-test.true c.loop-number.invariant.acts);
      one_block = rw c.push.ensures.acts (All-push IsOneBlock before act c.loop-number.invariant.one_block c.in_ok-act.ensures.one_block);
      room = omega (arith, c.push.ensures.spare, c.loop-number.invariant.room);
    }
