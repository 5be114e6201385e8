use Rattle.std.proofs.Common.{subst}
use Rattle.solo_drive.specs.Drives.{act_of}
use Rattle.solo_drive.specs.Applying.{Serves}
use Rattle.solo_drive.proofs.Entered.{posted-applies}
use Rattle.solo_drive.proofs.applying.apply.Goals as goal

pub returns-in-Some : goal.returns-in-Some
returns-in-Some c =
    let g = c.args.g.now.fields in
    let a = act_of c.args.queue c.args.sqe c.args.payload in
    let old = c.args.book.now in
    let mid = c.serve.new.book in
    let d = subst (Serves g a c.args.cells.now c.serve.new.cells old mid c.args.out.now c.serve.new.out) c.in-Some.is c.serve.ensures in
    posted-applies g a c.in-Some.outcome c.post.result c.args.cells.now c.serve.new.cells old mid c.post.new.self c.args.out.now c.serve.new.out c.requires.parts d
    (record { limits = c.post.ensures.limits; log = c.post.ensures.log; events = c.post.ensures.events; journal = c.post.ensures.journal; spare = c.post.ensures.spare })
    c.post.ensures.tallies c.post.ensures.entries c.post.ensures.len
