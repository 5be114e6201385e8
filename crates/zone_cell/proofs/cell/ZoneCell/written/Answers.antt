use Rattle.zone_cell.proofs.Views.{marks_are}
use Rattle.zone_cell.proofs.cell.ZoneCell.written.Goals as goal

pub returns : goal.returns
returns c = marks_are c.self.inside c.args.self.now c.self.view_is
