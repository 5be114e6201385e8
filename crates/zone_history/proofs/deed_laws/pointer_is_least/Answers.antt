use Rattle.zone_history.proofs.Laws.{pointer_least}
use Rattle.zone_history.proofs.deed_laws.pointer_is_least.Goals as goal

pub returns : goal.returns
returns c = pointer_least
