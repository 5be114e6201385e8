use Rattle.zone_model.proofs.OneCounted.{one_is_counted}
use Rattle.zone_model.proofs.laws.one_is_counted.Goals as goal

pub returns : goal.returns
returns c = one_is_counted
