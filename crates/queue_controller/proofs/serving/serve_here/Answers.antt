use Rattle.std.proofs.Common.{subst}
use Rattle.solo_drive.specs.Drives.{act_of}
use Rattle.queue_controller.specs.Serving.{ServedOn}
use Rattle.queue_controller.proofs.Kept.{served-keeping}
use Rattle.queue_controller.proofs.serving.serve_here.Goals as goal

pub returns-in-Done : goal.returns-in-Done
returns-in-Done g c =
    let p = c.args.pass.now in
    let a = act_of p.sight.queue c.args.sqe c.args.payload in
    let on = subst (ServedOn p c.serve_taken.new.pass a c.args.out.now c.serve_taken.new.out) c.in-Done.is c.serve_taken.ensures in
    served-keeping c.args.desk.now p c.serve_taken.new.pass c.give_book.new.pass a c.in-Done.posted c.args.out.now c.serve_taken.new.out c.requires.desk_is c.requires.none_open c.requires.spare on c.give_book.ensures
