use Rattle.std.proofs.Common.{ℕ, List, true, slice_set, ap, ◌∙◌, arith}
use Rattle.changed_log.specs.Logs.{with_zone}
use Rattle.changed_log.proofs.Marked.{one_mark, marks_rise}
use Rattle.changed_log.proofs.log.ChangedLog.note.Goals as goal

pub returns-clause-zones : goal.returns-clause-zones
returns-clause-zones c = one_mark c.self.inside.noted c.args.zone (omega arith) ∙ ap (λ (zs : List ℕ). with_zone c.args.zone zs) c.self.view_is

pub returns-clause-rising : goal.returns-clause-rising
returns-clause-rising c = marks_rise (slice_set c.self.inside.noted c.args.zone true)
