use Rattle.std.proofs.Common.{◌≡◌, ◌≤◌, length, take, drop, None, ap, ◌∙◌, arith}
use Rattle.std.proofs.lemmas.List.{length-drop}
use Rattle.std.proofs.lemmas.Result.{err_from_is_err_and}
use Rattle.zone_model.specs.Sessions.{spells}
use Rattle.session_file.specs.FileRules.{front_rows}
use Rattle.session_file.specs.Faults.{IsFirstOf}
use Rattle.zns_program.specs.declared.task.Task.TheVariants as the_task
use Rattle.zns_program.specs.Making.{IsInput}
use Rattle.zns_program.proofs.Made.{front_begun, no_front}
use Rattle.zns_program.proofs.streaming.begun_after.Goals as goal

pub returns-in_err-input-clause-ends : goal.returns-in_err-input-clause-ends
returns-in_err-input-clause-ends g c = λ first came.
    let p = err_from_is_err_and c.from_residual.result c.from_residual.ensures.1 in
    rw (p.1, p.2) (c.in_err-input.ensures.input the_task.Check first (λ none. none) came)

pub returns-in_err-session-clause-ends : goal.returns-in_err-session-clause-ends
returns-in_err-session-clause-ends g c = λ first came.
    let p = err_from_is_err_and c.from_residual-in_err-session.result c.from_residual-in_err-session.ensures.1 in
    let now = g.S.Source.left c.input_after.new.source in
    let broken : IsFirstOf (front_rows c.in_ok-input.input) c.in_err-session.field-0.0 = rw c.as_slice.ensures at c.in_err-session.ensures.broken in
    rw (p.1, p.2) (no_front first now (g.S.Source.faults c.args.source.now) (g.S.Source.faults c.input_after.new.source) c.in_ok-input.input c.in_err-session.field-0.0 (c.in_ok-input.ensures.input the_task.Check first (λ none. none) came) broken)

pub new-requires : goal.new-requires
new-requires g c =
    let input = c.in_ok-input.input in
    let at = c.in_ok-session.at in
    let is : IsInput the_task.Check None (g.S.Source.left c.input_after.new.source) input = c.in_ok-input.ensures.input the_task.Check None (λ none. none) tt in
    let held_is : c.skip.new.self ≡ drop at input = c.skip.ensures ∙ ap (drop at) (c.from_vec-rest.ensures ∙ c.into_vec.ensures) in
    omega (arith, is.short, ap length held_is, length-drop at input, ap length c.as_slice.ensures, c.in_ok-session.ensures.within)

pub returns-clause-begun : goal.returns-clause-begun
returns-clause-begun g c = λ first came.
    let now = g.S.Source.left c.input_after.new.source in
    let input = c.in_ok-input.input in
    let s = c.in_ok-session.session in
    let at = c.in_ok-session.at in
    let is : IsInput the_task.Check first now input = c.in_ok-input.ensures.input the_task.Check first (λ none. none) came in
    let held_is : c.skip.new.self ≡ drop at input = c.skip.ensures ∙ ap (drop at) (c.from_vec-rest.ensures ∙ c.into_vec.ensures) in
    let spelled : spells s (take at input) = rw c.as_slice.ensures at c.in_ok-session.ensures.spelled in
    let within : at ≤ length input = rw c.as_slice.ensures at c.in_ok-session.ensures.within in
    rw (c.new.ensures, held_is) (front_begun first now input s at c.in_ok-session.ensures.session spelled within is.read)
