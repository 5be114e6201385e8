use Rattle.zone_model.proofs.Merging.{merge_keeps_order}
use Rattle.zone_model.proofs.laws.merge_keeps_order.Goals as goal

pub returns : goal.returns
returns c = merge_keeps_order
