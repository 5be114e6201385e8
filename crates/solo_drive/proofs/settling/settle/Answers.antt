use Rattle.std.proofs.Common.{ap, ◌∙◌, subst}
use Rattle.solo_drive.specs.Drives.{act_of}
use Rattle.drive_book.specs.declared.outcome.Outcome.{Outcome}
use Rattle.drive_book.specs.Following.{PostsEntries, KeepsTallies}
use Rattle.solo_drive.proofs.Settled.{book-used, settled}
use Rattle.solo_drive.proofs.settling.settle.Goals as goal

pub give_back-requires-clause-active : goal.give_back-requires-clause-active
give_back-requires-clause-active c =
    (book-used c.args.g.now.fields (act_of c.args.queue c.args.sqe c.args.payload) c.args.ready c.args.book.now c.args.g.now.valid c.requires.stands c.requires.due).active

pub give_back-requires-clause-opened : goal.give_back-requires-clause-opened
give_back-requires-clause-opened c =
    (book-used c.args.g.now.fields (act_of c.args.queue c.args.sqe c.args.payload) c.args.ready c.args.book.now c.args.g.now.valid c.requires.stands c.requires.due).opened

pub give_back-requires-clause-windows : goal.give_back-requires-clause-windows
give_back-requires-clause-windows c =
    (book-used c.args.g.now.fields (act_of c.args.queue c.args.sqe c.args.payload) c.args.ready c.args.book.now c.args.g.now.valid c.requires.stands c.requires.due).window

pub returns : goal.returns
returns c =
    let g = c.args.g.now.fields in
    let a = act_of c.args.queue c.args.sqe c.args.payload in
    let old = c.args.book.now in
    let mid = record old { limits = c.give_back.new.limits } in
    settled g a c.args.ready c.post.result old c.post.new.self c.give_back.new.limits c.args.g.now.valid c.requires.payload c.requires.stands c.requires.due c.give_back.ensures.counts
    (record { limits = c.post.ensures.limits; log = c.post.ensures.log; events = c.post.ensures.events; journal = c.post.ensures.journal; spare = c.post.ensures.spare })
    (subst (λ (o : Outcome). KeepsTallies g mid a o c.post.new.self) c.outcome.ensures c.post.ensures.tallies)
    (subst (λ (o : Outcome). PostsEntries g mid a o c.post.result) c.outcome.ensures c.post.ensures.entries)
    (c.post.ensures.len ∙ ap (λ (o : Outcome). o.len) c.outcome.ensures)
