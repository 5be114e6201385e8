use Rattle.std.proofs.Common.{subst}
use Rattle.zone_desk.specs.Passes.{IsRefused}
use Rattle.queue_controller.proofs.Opened.{taken_free}
use Rattle.queue_controller.proofs.opening.new_job.Goals as goal

pub unreachable-requires : goal.unreachable-requires
unreachable-requires c =
    let v = c.args.main.now.sight in
    let cause = subst (IsRefused v c.args.queue c.len-len.result) c.in-Err-QueueTaken.field-0-is c.in-Err-QueueTaken.ensures.refused in
    cc (cause.1, taken_free v.standings c.args.queue c.requires.free)
