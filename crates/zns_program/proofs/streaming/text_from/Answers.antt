use Rattle.std.proofs.Common.{refl}
use Rattle.zns_program.specs.declared.task.Task.TheVariants as the_task
use Rattle.zns_program.proofs.Made.{session_ends, session_output}
use Rattle.zns_program.proofs.streaming.text_from.Goals as goal

pub returns-in_err-session : goal.returns-in_err-session
returns-in_err-session g c =
    session_ends the_task.Show (g.S.Source.left c.args.source.now) (g.S.Source.left c.session_from.new.source) (g.S.Source.faults c.args.source.now) (g.S.Source.faults c.session_from.new.source)
    c.in_err-session.field-0.0 c.from_residual.result tt c.in_err-session.ensures c.from_residual.ensures.1

pub returns : goal.returns
returns g c =
    let left = g.S.Source.left c.args.source.now in
    let now = g.S.Source.left c.session_from.new.source in
    let s = c.in_ok-session.session in
    session_output the_task.Show left now s _ tt c.in_ok-session.ensures (record { session = s; valid = c.in_ok-session.ensures.valid; spelled = refl; text = c.in_ok-show.ensures })
