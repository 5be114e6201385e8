use Rattle.std.proofs.Common.{◌++◌, ap, ◌∙◌, arith}
use Rattle.cqe_codec.specs.Entries.{entry_bytes}
use Rattle.session_file.proofs.Appending.{appended-more}
use Rattle.session_file.proofs.results.put_entries.Goals as goal

pub loop-entry-preserved : goal.loop-entry-preserved
loop-entry-preserved c =
    rw (c.in_ok-extend_from_slice.ensures.items, c.write.ensures.bytes)
    (ap (λ entry. c.loop-entry.file.items ++ entry_bytes entry) c.entry-item.is
    ∙ appended-more entry_bytes c.args.entries.now c.loop-entry.entry-index c.entry-item.result c.args.file.now.items c.loop-entry.file.items (omega arith) c.loop-entry.invariant)
