use Rattle.zone_history.proofs.Laws.{deed_allowed}
use Rattle.zone_history.proofs.deed_laws.deed_is_allowed.Goals as goal

pub returns : goal.returns
returns c = deed_allowed
