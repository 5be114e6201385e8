use Rattle.zone_model.proofs.OneCounted.{idle_is_uncounted}
use Rattle.zone_model.proofs.laws.idle_is_uncounted.Goals as goal

pub returns : goal.returns
returns c = idle_is_uncounted
