use Rattle.std.proofs.Common.{◌<◌, arith}
use Rattle.changed_log.proofs.Noting.{All-with_zone}
use Rattle.changed_log.proofs.tests.noted.Goals as goal

pub loop-zone-preserved : goal.loop-zone-preserved
loop-zone-preserved c = rw c.note.ensures.zones (All-with_zone (λ z. z < 600) c.loop-zone.zone c.loop-zone.log (omega arith) c.loop-zone.invariant)
