use Rattle.std.proofs.Common.{[], sym, subst}
use Rattle.zone_model.specs.Sessions.{own_order, result_bytes}
use Rattle.zns_program.specs.Runs.{IsRun}
use Rattle.zns_types.specs.declared.fields.GeometryFields.{GeometryFields}
use Rattle.queue_controller.specs.Replies.{all_responses, Respond}
use Rattle.zns_program.proofs.RunReplies.{are_replies, is_run}
use Rattle.zns_program.proofs.Results.{answer_has}
use Rattle.zns_program.proofs.running.run.Goals as goal

pub result_of-result-requires : goal.result_of-result-requires
result_of-result-requires g c =
    let o = c.in_ok-outcome.outcome in
    let runs = c.in_ok-outcome.ensures in
    are_replies o.drive.geometry o.drive.acts o.replies.replies
    (subst (λ (x : GeometryFields). Respond o.replies.replies (all_responses x [] o.drive.acts)) (sym runs.geometry) runs.replies)

pub returns : goal.returns
returns g c =
    let o = c.in_ok-outcome.outcome in
    let bytes = result_bytes o.drive.geometry (own_order o.drive.acts) o.drive.acts in
    answer_has c.result_of-result.result bytes (IsRun c.args.session) c.result_of-result.ensures (is_run c.args.session o c.in_ok-outcome.ensures)
