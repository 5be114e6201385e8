use Rattle.zone_history.proofs.Laws.{deed_moves}
use Rattle.zone_history.proofs.deed_laws.deed_moves_pointer.Goals as goal

pub returns : goal.returns
returns c = deed_moves
