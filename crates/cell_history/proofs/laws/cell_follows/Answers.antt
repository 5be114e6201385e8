use Rattle.cell_history.proofs.Follows.{cell-follows}
use Rattle.cell_history.proofs.laws.cell_follows.Goals as goal

pub returns : goal.returns
returns c = cell-follows
