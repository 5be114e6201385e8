use Rattle.zone_model.proofs.ZoneLaws.{moves_are_allowed}
use Rattle.zone_model.proofs.laws.moves_are_allowed.Goals as goal

pub returns : goal.returns
returns c = moves_are_allowed
