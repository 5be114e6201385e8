use Rattle.std.proofs.lemmas.Result.{err_from_is_err_and}
use Rattle.zns_program.specs.declared.task.Task.TheVariants as the_task
use Rattle.zns_program.specs.Making.{status_of, IsCause}
use Rattle.zns_program.proofs.Inputs.{host_cause}
use Rattle.zns_program.proofs.plain.scripted.Goals as goal

pub returns-in_err-script : goal.returns-in_err-script
returns-in_err-script c =
    let p = err_from_is_err_and c.from_residual.result c.from_residual.ensures.1 in
    let cause : IsCause the_task.Host c.args.input.now (status_of c.in_err-script.field-0.0) = host_cause c.args.input.now c.in_err-script.field-0.0 c.requires c.in_err-script.ensures.broken in
    rw (p.1, p.2) cause

pub returns : goal.returns
returns c = record {
  script = c.in_ok-script.script;
  valid = c.in_ok-script.ensures.script;
  spelled = c.in_ok-script.ensures.spelled;
  text = c.in_ok-serve.ensures;
}
