use Rattle.std.proofs.Common.{List, refl, sym, subst}
use Rattle.zone_model.specs.declared.act.Act.{Act}
use Rattle.zone_model.specs.Laws.{IsKept}
use Rattle.zone_model.proofs.KeptHistories.{histories_are_kept}
use Rattle.zns_program.proofs.Orders.{merged-own_order}
use Rattle.zns_program.specs.declared.task.Task.TheVariants as the_task
use Rattle.zns_program.proofs.Made.{session_ends, session_output}
use Rattle.zns_program.proofs.streaming.one_from.Goals as goal

pub returns-in_err-session : goal.returns-in_err-session
returns-in_err-session g c =
    session_ends the_task.One (g.S.Source.left c.args.source.now) (g.S.Source.left c.session_from.new.source) (g.S.Source.faults c.args.source.now) (g.S.Source.faults c.session_from.new.source)
    c.in_err-session.field-0.0 c.from_residual.result tt c.in_err-session.ensures c.from_residual.ensures.1

pub returns : goal.returns
returns g c =
    let left = g.S.Source.left c.args.source.now in
    let now = g.S.Source.left c.session_from.new.source in
    let s = c.in_ok-session.session in
    let P : List Act → Type 0 = λ acts. IsKept s.geometry acts in
    session_output the_task.One left now s _ tt c.in_ok-session.ensures (record {
      session = s;
      valid = c.in_ok-session.ensures.valid;
      spelled = refl;
      result = c.in_ok-serve.ensures;
      kept = subst P (sym (merged-own_order s.acts)) (histories_are_kept s.geometry c.in_ok-session.ensures.valid.geometry s.acts);
    })
