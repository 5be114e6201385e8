use Rattle.std.proofs.Common.{◌≡◌, Some, None}
use Rattle.zns_program.specs.declared.task.Task.TheVariants as the_task
use Rattle.zns_program.specs.Outcomes.{moment}
use Rattle.zns_program.proofs.Finished.{answered, counted}
use Rattle.zns_program.proofs.plain.top_plain.Goals as goal

pub returns-in-Some-clause-complete : goal.returns-in-Some-clause-complete
returns-in-Some-clause-complete g c = λ t plain.
    answered c.args.words.now c.in-Some.task t
    (moment (g.S.Source.left c.args.source.now) (g.K.Sink.taken c.args.sink.now) (g.S.Source.faults c.args.source.now) (g.K.Sink.faults c.args.sink.now))
    (moment (g.S.Source.left c.output_of.new.source) (g.K.Sink.taken c.end_with.new.sink) (g.S.Source.faults c.output_of.new.source) (g.K.Sink.faults c.end_with.new.sink))
    c.output_of.result c.end_with.result (λ asked. c.in-Some.ensures.complete t plain asked) c.output_of.ensures.output c.end_with.ensures

pub returns-in-Some-clause-by_count : goal.returns-in-Some-clause-by_count
returns-in-Some-clause-by_count g c =
    counted c.args.words.now c.in-Some.task
    (moment (g.S.Source.left c.args.source.now) (g.K.Sink.taken c.args.sink.now) (g.S.Source.faults c.args.source.now) (g.K.Sink.faults c.args.sink.now))
    (moment (g.S.Source.left c.output_of.new.source) (g.K.Sink.taken c.end_with.new.sink) (g.S.Source.faults c.output_of.new.source) (g.K.Sink.faults c.end_with.new.sink))
    c.output_of.result c.end_with.result (λ number count asked. c.in-Some.ensures.complete (the_task.Gen number count) tt asked) c.output_of.ensures.by_count c.end_with.ensures

pub returns-in-None-clause-by_count : goal.returns-in-None-clause-by_count
returns-in-None-clause-by_count g c = λ number count asked.
    let is : None ≡ Some (the_task.Gen number count) = c.in-None.ensures.complete (the_task.Gen number count) tt asked in absurd cc
