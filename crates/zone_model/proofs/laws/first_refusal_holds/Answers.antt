use Rattle.zone_model.proofs.FirstRows.{first_refusal_holds}
use Rattle.zone_model.proofs.laws.first_refusal_holds.Goals as goal

pub returns : goal.returns
returns c = first_refusal_holds
