use Rattle.zone_model.proofs.LocalFacts.{read_is_local}
use Rattle.zone_model.proofs.laws.read_is_local.Goals as goal

pub returns : goal.returns
returns c = read_is_local
