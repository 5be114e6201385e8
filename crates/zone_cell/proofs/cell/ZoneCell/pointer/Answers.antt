use Rattle.std.proofs.Common.{arith}
use Rattle.zone_cell.proofs.Views.{marks_of}
use Rattle.zone_cell.proofs.cell.ZoneCell.pointer.Goals as goal

pub returns-clause-within : goal.returns-clause-within
returns-clause-within c = omega (arith, marks_of c.self.inside c.args.self.now c.self.view_is)
