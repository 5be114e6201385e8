use Rattle.solo_drive.specs.Drives.{act_of}
use Rattle.queue_controller.proofs.Taken.{lent-range}
use Rattle.queue_controller.proofs.serving.serve_over.Goals as goal

pub take_zones-requires-clause-row : goal.take_zones-requires-clause-row
take_zones-requires-clause-row g c = λ valid. lent-range c.args.desk.now.geometry (act_of c.args.pass.now.sight.queue c.args.sqe c.args.payload) _ valid c.requires.lent
