use Rattle.session_file.proofs.Spelled.{spelled_once}
use Rattle.session_file.proofs.laws.bytes_spell_one_session.Goals as goal

pub returns : goal.returns
returns c = λ bytes s other is is_other e f. spelled_once s other bytes is is_other e f
