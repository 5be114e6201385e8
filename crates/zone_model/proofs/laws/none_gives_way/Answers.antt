use Rattle.zone_model.proofs.LocalFacts.{none_gives_way}
use Rattle.zone_model.proofs.laws.none_gives_way.Goals as goal

pub returns : goal.returns
returns c = none_gives_way
