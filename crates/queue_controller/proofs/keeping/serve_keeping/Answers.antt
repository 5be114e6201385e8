use Rattle.std.proofs.Common.{rules, ◌≡◌, inl}
use Rattle.zone_model.specs.Reach.{reach}
use Rattle.solo_drive.specs.Drives.{act_of}
use Rattle.solo_drive.specs.Reaching.{zones_of}
use Rattle.queue_controller.proofs.Taken.{lent-range}
use Rattle.queue_controller.proofs.keeping.serve_keeping.Goals as goal

pub take_up-requires-clause-row : goal.take_up-requires-clause-row
take_up-requires-clause-row g c =
    let numbers = c.args.desk.now.geometry in
    let a = act_of c.args.pass.now.sight.queue c.args.sqe c.args.payload in
    let own : zones_of numbers c.reach_of-reach.result ≡ reach numbers a = search rules in
    λ valid. lent-range numbers a _ valid (inl own)
