use Rattle.zone_history.proofs.Laws.{deed_keeps}
use Rattle.zone_history.proofs.deed_laws.deed_keeps_committed.Goals as goal

pub returns : goal.returns
returns c = deed_keeps
