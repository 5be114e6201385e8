use Rattle.std.proofs.Common.{◌++◌, ap, ◌∙◌, arith}
use Rattle.std.specs.String.{string_bytes}
use Rattle.zns_program.specs.Showing.{act_line}
use Rattle.zns_program.proofs.ShownActs.{lines-more}
use Rattle.zns_program.proofs.showing.put_acts.Goals as goal

pub loop-number-preserved : goal.loop-number-preserved
loop-number-preserved c =
    c.in_ok-put_act.ensures
    ∙ ap (λ act. string_bytes c.loop-number.text ++ act_line c.loop-number.number act) (c.act.ensures c.act.result.now)
    ∙ lines-more c.args.acts.now.acts c.loop-number.number c.act.result.now (string_bytes c.args.text.now) (string_bytes c.loop-number.text) (omega arith) c.loop-number.invariant
