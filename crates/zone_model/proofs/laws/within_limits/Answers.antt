use Rattle.zone_model.proofs.Limits.{within_limits}
use Rattle.zone_model.proofs.laws.within_limits.Goals as goal

pub returns : goal.returns
returns c = within_limits
