use Rattle.std.proofs.Common.{◌≡◌, get_or, ap, ◌∙◌}
use Rattle.std.proofs.lemmas.Result.{err_from_is_err_and}
use Rattle.std.specs.List.{flat_map}
use Rattle.cqe_codec.specs.Entries.{entry_bytes}
use Rattle.zns_program.specs.Differences.{DiffersFrom}
use Rattle.zns_program.proofs.Comparisons.{nothing_stands, stand_same, differs_same, item_stands, item_differs, items_stand}
use Rattle.zns_program.proofs.comparing.compare_entries.Goals as goal

pub loop-entry-init : goal.loop-entry-init
loop-entry-init c = nothing_stands c.args.input.now c.args.at c.requires

pub compare-requires : goal.compare-requires
compare-requires c = c.loop-entry.invariant.within

pub returns-in_err-at-clause-differs : goal.returns-in_err-at-clause-differs
returns-in_err-at-clause-differs c =
    let p = err_from_is_err_and c.from_residual.result c.from_residual.ensures.1 in
    let i = c.loop-entry.entry-index in
    let d = c.entry-item.result in
    let made : c.write.result ≡ entry_bytes (get_or c.args.entries.now i d) = c.write.ensures.bytes ∙ ap entry_bytes c.entry-item.is in
    let whole : DiffersFrom c.args.input.now c.args.at (flat_map entry_bytes c.args.entries.now) c.in_err-at.field-0.0.offset =
    item_differs entry_bytes c.args.input.now c.args.entries.now c.args.at c.loop-entry.at i d c.in_err-at.field-0.0.offset c.loop-entry-test.true c.loop-entry.invariant
    (differs_same c.args.input.now c.loop-entry.at c.write.result (entry_bytes (get_or c.args.entries.now i d)) c.in_err-at.field-0.0.offset made c.in_err-at.ensures.differs) in
    rw (p.1, p.2) whole

pub loop-entry-preserved : goal.loop-entry-preserved
loop-entry-preserved c =
    let i = c.loop-entry.entry-index in
    let d = c.entry-item.result in
    let made : c.write.result ≡ entry_bytes (get_or c.args.entries.now i d) = c.write.ensures.bytes ∙ ap entry_bytes c.entry-item.is in
    item_stands entry_bytes c.args.input.now c.args.entries.now c.args.at c.loop-entry.at c.in_ok-at.at i d c.loop-entry-test.true c.loop-entry.invariant
    (stand_same c.args.input.now c.loop-entry.at c.in_ok-at.at c.write.result (entry_bytes (get_or c.args.entries.now i d)) made c.in_ok-at.ensures.same)

pub returns-clause-same : goal.returns-clause-same
returns-clause-same c = items_stand entry_bytes c.args.input.now c.args.entries.now c.args.at c.loop-entry.at c.loop-entry.entry-index c.loop-entry-test.false c.loop-entry.invariant
