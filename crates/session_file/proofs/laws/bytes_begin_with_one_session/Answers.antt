use Rattle.session_file.proofs.Spelled.{begins_once}
use Rattle.session_file.proofs.laws.bytes_begin_with_one_session.Goals as goal

pub returns : goal.returns
returns c = begins_once
