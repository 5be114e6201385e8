use Rattle.std.proofs.Common.{◌++◌, ap, ◌∙◌, arith}
use Rattle.zone_model.specs.Sessions.{record_bytes}
use Rattle.session_file.proofs.Appending.{appended-more}
use Rattle.session_file.proofs.writing.put_acts.Goals as goal

pub put_act-requires : goal.put_act-requires
put_act-requires c = rw (c.act.ensures c.act.result.now) (c.requires c.loop-number.number c.act.result.now (omega arith))

pub loop-number-preserved : goal.loop-number-preserved
loop-number-preserved c =
    c.in_ok-put_act.ensures
    ∙ ap (λ act. c.loop-number.file.items ++ record_bytes act) (c.act.ensures c.act.result.now)
    ∙ appended-more record_bytes c.args.acts.now.acts c.loop-number.number c.act.result.now c.args.file.now.items c.loop-number.file.items (omega arith) c.loop-number.invariant
