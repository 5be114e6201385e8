use Rattle.std.proofs.Common.{sym, subst}
use Rattle.zns_types.specs.declared.fields.GeometryFields.{GeometryFields}
use Rattle.queue_controller.specs.Jobs.{ArePrepared}
use Rattle.queue_controller.proofs.opening.open.Goals as goal

pub jobs_for-requires-clause-prepared : goal.jobs_for-requires-clause-prepared
jobs_for-requires-clause-prepared c = λ q l there. subst (λ (g : GeometryFields). ArePrepared g q l.items) (sym c.in_ok-desk.ensures.desk) (c.in_ok-lists.ensures.each q l there).prepared
