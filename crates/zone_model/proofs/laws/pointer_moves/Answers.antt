use Rattle.zone_model.proofs.ZoneLaws.{pointer_moves}
use Rattle.zone_model.proofs.laws.pointer_moves.Goals as goal

pub returns : goal.returns
returns c = pointer_moves
