use Rattle.zone_model.proofs.KeptHistories.{histories_are_kept}
use Rattle.zone_model.proofs.laws.histories_are_kept.Goals as goal

pub returns : goal.returns
returns c = histories_are_kept
