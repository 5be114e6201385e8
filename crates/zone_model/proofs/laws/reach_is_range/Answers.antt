use Rattle.zone_model.proofs.LocalFacts.{reach_is_range}
use Rattle.zone_model.proofs.laws.reach_is_range.Goals as goal

pub returns : goal.returns
returns c = reach_is_range
