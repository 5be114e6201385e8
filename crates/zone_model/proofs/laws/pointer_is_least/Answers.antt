use Rattle.zone_model.proofs.ZoneLaws.{pointer_is_least}
use Rattle.zone_model.proofs.laws.pointer_is_least.Goals as goal

pub returns : goal.returns
returns c = pointer_is_least
