use Rattle.zone_model.proofs.ZoneLaws.{committed_stays}
use Rattle.zone_model.proofs.laws.committed_stays.Goals as goal

pub returns : goal.returns
returns c = committed_stays
