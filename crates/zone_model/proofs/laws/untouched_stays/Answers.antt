use Rattle.zone_model.proofs.Reached.{untouched_stays}
use Rattle.zone_model.proofs.laws.untouched_stays.Goals as goal

pub returns : goal.returns
returns c = untouched_stays
