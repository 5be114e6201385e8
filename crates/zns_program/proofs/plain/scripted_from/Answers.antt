use Rattle.std.proofs.Common.{length, None, ap, arith}
use Rattle.zns_program.specs.declared.task.Task.TheVariants as the_task
use Rattle.zns_program.specs.Making.{IsInput}
use Rattle.zns_program.proofs.Made.{gives_output, none_came, input_ends}
use Rattle.zns_program.proofs.plain.scripted_from.Goals as goal

pub returns-in_err-input : goal.returns-in_err-input
returns-in_err-input g c =
    let left = g.S.Source.left c.args.source.now in
    input_ends the_task.Host left (g.S.Source.left c.input_after.new.source) (g.S.Source.faults c.args.source.now) (g.S.Source.faults c.input_after.new.source) c.in_err-input.field-0.0 c.from_residual.result
    (c.in_err-input.ensures.input the_task.Host left (λ none. none) (none_came left c.empty.result c.empty.ensures)) c.from_residual.ensures.1

pub scripted-requires : goal.scripted-requires
scripted-requires g c =
    let is : IsInput the_task.Host None (g.S.Source.left c.input_after.new.source) c.in_ok-input.input = c.in_ok-input.ensures.input the_task.Host None (λ none. none) tt in
    omega (arith, is.short, ap length c.as_slice.ensures)

pub returns : goal.returns
returns g c =
    let left = g.S.Source.left c.args.source.now in
    let now = g.S.Source.left c.input_after.new.source in
    let is = c.in_ok-input.ensures.input the_task.Host left (λ none. none) (none_came left c.empty.result c.empty.ensures) in
    gives_output the_task.Host left now (g.S.Source.faults c.args.source.now) (g.S.Source.faults c.input_after.new.source) c.in_ok-input.input c.scripted.result is.read is.front (rw c.as_slice.ensures at c.scripted.ensures)
