use Rattle.std.proofs.lemmas.Result.{err_from_is_err_and}
use Rattle.session_file.specs.FileRules.{file_rows}
use Rattle.session_file.specs.Faults.{IsFirstOf}
use Rattle.zns_program.specs.declared.task.Task.TheVariants as the_task
use Rattle.zns_program.proofs.Inputs.{takes-reads}
use Rattle.zns_program.proofs.Made.{read_session, no_session}
use Rattle.zns_program.proofs.streaming.session_after.Goals as goal

pub returns-in_err-input : goal.returns-in_err-input
returns-in_err-input g c = λ first came.
    let p = err_from_is_err_and c.from_residual.result c.from_residual.ensures.1 in
    rw (p.1, p.2) (λ t takes. c.in_err-input.ensures.input t first (takes-reads t takes) came)

pub returns-in_err-read : goal.returns-in_err-read
returns-in_err-read g c = λ first came.
    let p = err_from_is_err_and c.from_residual-in_err-read.result c.from_residual-in_err-read.ensures.1 in
    let now = g.S.Source.left c.input_after.new.source in
    let broken : IsFirstOf (file_rows c.in_ok-input.input) c.in_err-read.field-0.0 = rw c.as_slice.ensures at c.in_err-read.ensures.broken in
    rw (p.1, p.2) (λ t takes. no_session t first now (g.S.Source.faults c.args.source.now) (g.S.Source.faults c.input_after.new.source) c.in_ok-input.input c.in_err-read.field-0.0 takes (c.in_ok-input.ensures.input t first (takes-reads t takes) came) broken)

pub returns : goal.returns
returns g c = λ first came.
    let now = g.S.Source.left c.input_after.new.source in
    let is = c.in_ok-input.ensures.input the_task.One first (λ none. none) came in
    read_session first now c.in_ok-input.input _ c.in_ok-read.ensures.session (rw c.as_slice.ensures at c.in_ok-read.ensures.spelled) is.read is.front
