use Rattle.zone_model.proofs.Refused.{refused_as_before}
use Rattle.zone_model.proofs.laws.refused_changes_nothing.Goals as goal

pub returns : goal.returns
returns c = refused_as_before
