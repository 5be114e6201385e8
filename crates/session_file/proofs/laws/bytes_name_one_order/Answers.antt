use Rattle.session_file.proofs.Spelled.{ordered_once}
use Rattle.session_file.proofs.laws.bytes_name_one_order.Goals as goal

pub returns : goal.returns
returns c = ordered_once
