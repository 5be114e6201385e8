use Rattle.std.proofs.Common.{Some, sym, ap, ◌∙◌}
use Rattle.zns_program.specs.declared.task.Task.{Task}
use Rattle.zns_program.specs.declared.task.Task.TheVariants as the_task
use Rattle.zns_program.specs.Outcomes.{moment}
use Rattle.zns_program.proofs.Finished.{answered}
use Rattle.zns_program.proofs.side_by_side.top.Goals as goal

pub returns-in-Some-Run-clause-complete : goal.returns-in-Some-Run-clause-complete
returns-in-Some-Run-clause-complete g c = λ t.
    answered c.args.words.now the_task.Run t
    (moment (g.S.Source.left c.args.source.now) (g.K.Sink.taken c.args.sink.now) (g.S.Source.faults c.args.source.now) (g.K.Sink.faults c.args.sink.now))
    (moment (g.S.Source.left c.run_from.new.source) (g.K.Sink.taken c.end_with.new.sink) (g.S.Source.faults c.run_from.new.source) (g.K.Sink.faults c.end_with.new.sink))
    c.run_from.result c.end_with.result (λ asked. ap (λ (of : Task). Some of) (sym c.in-Some-Run.field-0-is) ∙ c.in-Some-Run.ensures.complete t asked) c.run_from.ensures c.end_with.ensures
