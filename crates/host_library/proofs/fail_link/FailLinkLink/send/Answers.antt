use Rattle.std.proofs.Common.{◌<◌, length, ◌∙◌, sym, subst, List}
use Rattle.cqe_codec.specs.declared.cqe.Cqe.{Cqe}
use Rattle.solo_drive.specs.Drives.{act_of}
use Rattle.host_library.proofs.Looping.{posts, neither}
use Rattle.host_library.proofs.fail_link.FailLinkLink.send.Goals as goal

pub own_entry-entry-requires : goal.own_entry-entry-requires
own_entry-entry-requires c =
    subst (λ (entries : List Cqe). 0 < length entries) (sym c.submit-posted.ensures.entries)
    (posts c.args.self.now.drive (act_of c.args.queue c.args.sqe.now c.args.payload)
    (neither _ _ (sym c.cannot_serve-is_refused.ensures ∙ neither _ _ (sym c.count.ensures.fails ∙ (sym c.is_err.ensures.value ∙ c.if-is_err.false)))))
