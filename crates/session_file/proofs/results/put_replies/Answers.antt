use Rattle.std.proofs.Common.{◌++◌, ap, ◌∙◌, arith}
use Rattle.session_file.specs.Results.{part_of}
use Rattle.session_file.proofs.Appending.{appended-more}
use Rattle.session_file.proofs.results.put_replies.Goals as goal

pub put_reply-requires : goal.put_reply-requires
put_reply-requires c = rw (c.reply.ensures c.reply.result.now) (c.requires c.loop-number.number c.reply.result.now (omega arith))

pub loop-number-preserved : goal.loop-number-preserved
loop-number-preserved c =
    c.in_ok-put_reply.ensures
    ∙ ap (λ reply. c.loop-number.file.items ++ part_of reply) (c.reply.ensures c.reply.result.now)
    ∙ appended-more part_of c.args.replies.now.replies c.loop-number.number c.reply.result.now c.args.file.now.items c.loop-number.file.items (omega arith) c.loop-number.invariant
