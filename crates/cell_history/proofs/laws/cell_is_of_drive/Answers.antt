use Rattle.cell_history.proofs.OfDrive.{cell-of_drive}
use Rattle.cell_history.proofs.laws.cell_is_of_drive.Goals as goal

pub returns : goal.returns
returns c = cell-of_drive
