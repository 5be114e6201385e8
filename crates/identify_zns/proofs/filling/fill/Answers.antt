use Rattle.std.proofs.Common.{refl}
use Rattle.identify_zns.proofs.filling.fill.Goals as goal

pub returns-in-0-default-clause-filled : goal.returns-in-0-default-clause-filled
returns-in-0-default-clause-filled c = rw (c.fill_namespace.ensures, c.in-0-default.is-0) refl

pub returns-in-5-eq2-clause-filled : goal.returns-in-5-eq2-clause-filled
returns-in-5-eq2-clause-filled c = rw (c.fill_zoned_namespace.ensures.page, c.fields.ensures, c.in-5-eq2.is-0, c.in-5-eq2.is-1) refl

pub returns-in-6-eq2-clause-filled : goal.returns-in-6-eq2-clause-filled
returns-in-6-eq2-clause-filled c = rw (c.fill_zoned_controller.ensures, c.in-6-eq2.is-0, c.in-6-eq2.is-1) refl
