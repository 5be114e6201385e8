use Rattle.std.proofs.Common.{◌<◌, ◌^◌, ◌++◌, ◌∷◌, [], length, arith, length-append}
use Rattle.drive_book.proofs.TallyCounts.{tallies-len, tallies-room, tallies-step}
use Rattle.drive_book.proofs.Posting.{posts-entries}
use Rattle.drive_book.proofs.book.Book.post.Goals as goal

pub post-entries-requires-clause-queue : goal.post-entries-requires-clause-queue
post-entries-requires-clause-queue c = rw (c.requires.tallies, tallies-len) c.requires.queue

pub post-entries-requires-clause-room : goal.post-entries-requires-clause-room
post-entries-requires-clause-room c =
    let fits : length (c.args.self.now.journal.acts ++ c.args.act ∷ []) < 2 ^ 32 = rw (← c.push.ensures.acts) c.push.ensures.fits in
    rw c.requires.tallies (tallies-room c.args.g.now.fields c.args.self.now.journal.acts c.args.act.queue (omega (arith, fits, length-append c.args.self.now.journal.acts (c.args.act ∷ []))) c.requires.queue)

pub post-entries-requires-clause-admin_room : goal.post-entries-requires-clause-admin_room
post-entries-requires-clause-admin_room c =
    let fits : length (c.args.self.now.journal.acts ++ c.args.act ∷ []) < 2 ^ 32 = rw (← c.push.ensures.acts) c.push.ensures.fits in
    rw c.requires.tallies (tallies-room c.args.g.now.fields c.args.self.now.journal.acts 0 (omega (arith, fits, length-append c.args.self.now.journal.acts (c.args.act ∷ []))) (omega (arith, c.requires.queue)))

pub returns-clause-entries : goal.returns-clause-entries
returns-clause-entries c = λ h is stands. rw (c.post-entries.ensures.entries, c.cid-cid.ensures) (posts-entries c.args.g.now.fields h c.args.act c.args.outcome c.args.self.now.tallies c.requires.queue is stands)

pub returns-clause-tallies : goal.returns-clause-tallies
returns-clause-tallies c = λ h is stands. rw c.post-entries.ensures.tallies (tallies-step c.args.g.now.fields h c.args.act c.args.outcome c.args.self.now.tallies c.requires.queue is stands)
