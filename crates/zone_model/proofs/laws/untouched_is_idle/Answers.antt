use Rattle.zone_model.proofs.Reached.{untouched_is_idle}
use Rattle.zone_model.proofs.laws.untouched_is_idle.Goals as goal

pub returns : goal.returns
returns c = untouched_is_idle
