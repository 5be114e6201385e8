use Rattle.std.proofs.Common.{refl}
use Rattle.solo_drive.specs.Drives.{act_of}
use Rattle.solo_drive.specs.Reaching.{zones_of}
use Rattle.queue_controller.proofs.Taken.{lent-range}
use Rattle.queue_controller.proofs.Stopped.{stopped}
use Rattle.queue_controller.proofs.trying.try_over.Goals as goal

pub try_zones-requires-clause-row : goal.try_zones-requires-clause-row
try_zones-requires-clause-row c = λ valid. lent-range c.args.desk.now.geometry (act_of c.args.pass.now.sight.queue c.args.sqe c.args.payload) _ valid c.requires.lent

pub returns-in-Some-clause-tried : goal.returns-in-Some-clause-tried
returns-in-Some-clause-tried c = record {
  stopped = stopped c.args.pass.now c.try_zones.new.pass c.put_back.new.pass (zones_of c.args.desk.now.geometry c.args.reach) c.in-Some.word c.requires.may.free.idle c.in-Some.ensures c.put_back.ensures;
  bytes = refl;
  unread = refl;
}
