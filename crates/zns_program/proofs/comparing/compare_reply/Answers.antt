use Rattle.std.proofs.Common.{ℕ, ◌≡◌, ◌++◌, length, List, ap, ◌∙◌, subst}
use Rattle.std.proofs.lemmas.Result.{err_from_is_err_and}
use Rattle.std.specs.Prelude.{IfErr}
use Rattle.std.specs.List.{flat_map}
use Rattle.byteorder.specs.Endian.{little_bytes}
use Rattle.cqe_codec.specs.Entries.{entry_bytes}
use Rattle.zone_model.specs.Sessions.{reply_part}
use Rattle.session_file.specs.Results.{part_of}
use Rattle.zns_program.specs.Differences.{StandAt, DiffersFrom}
use Rattle.zns_program.proofs.Comparisons.{stand_after, differs_later, differs_sooner, differs_same, answer_differs}
use Rattle.zns_program.proofs.comparing.compare_reply.Goals as goal

pub returns-in_err-at-2-clause-differs : goal.returns-in_err-at-2-clause-differs
returns-in_err-at-2-clause-differs c =
    let p = err_from_is_err_and c.from_residual-in_err-at-2.result c.from_residual-in_err-at-2.ensures.1 in
    let entries = c.as_slice-entries.result.now in
    let read = c.as_slice-read.result.now in
    let same : reply_part entries read ≡ part_of c.args.reply.now = ap (λ es. reply_part es read) c.as_slice-entries.ensures.value ∙ ap (reply_part c.args.reply.now.entries.items) c.as_slice-read.ensures in
    let two : DiffersFrom c.args.input.now c.args.at (little_bytes 2 (length entries) ++ flat_map entry_bytes entries) c.in_err-at-2.field-0.0.offset =
    differs_later c.args.input.now c.args.at c.in_ok-at.at (little_bytes 2 (length entries)) (flat_map entry_bytes entries) c.in_err-at-2.field-0.0.offset c.in_ok-at.ensures.same c.in_err-at-2.ensures.differs in
    let three : DiffersFrom c.args.input.now c.args.at (little_bytes 2 (length entries) ++ flat_map entry_bytes entries ++ little_bytes 4 (length read)) c.in_err-at-2.field-0.0.offset =
    differs_sooner c.args.input.now c.args.at (little_bytes 2 (length entries) ++ flat_map entry_bytes entries) (little_bytes 4 (length read)) c.in_err-at-2.field-0.0.offset two in
    let whole : DiffersFrom c.args.input.now c.args.at (part_of c.args.reply.now) c.in_err-at-2.field-0.0.offset =
    differs_same c.args.input.now c.args.at (reply_part entries read) (part_of c.args.reply.now) c.in_err-at-2.field-0.0.offset same
    (differs_sooner c.args.input.now c.args.at (little_bytes 2 (length entries) ++ flat_map entry_bytes entries ++ little_bytes 4 (length read)) read c.in_err-at-2.field-0.0.offset three) in
    rw (p.1, p.2) whole

pub returns-in_err-at-3-clause-differs : goal.returns-in_err-at-3-clause-differs
returns-in_err-at-3-clause-differs c =
    let p = err_from_is_err_and c.from_residual-in_err-at-3.result c.from_residual-in_err-at-3.ensures.1 in
    let entries = c.as_slice-entries.result.now in
    let read = c.as_slice-read.result.now in
    let same : reply_part entries read ≡ part_of c.args.reply.now = ap (λ es. reply_part es read) c.as_slice-entries.ensures.value ∙ ap (reply_part c.args.reply.now.entries.items) c.as_slice-read.ensures in
    let front : StandAt c.args.input.now c.args.at (little_bytes 2 (length entries) ++ flat_map entry_bytes entries) c.in_ok-at-2.at =
    stand_after c.args.input.now c.args.at c.in_ok-at.at c.in_ok-at-2.at (little_bytes 2 (length entries)) (flat_map entry_bytes entries) c.in_ok-at.ensures.same c.in_ok-at-2.ensures.same in
    let three : DiffersFrom c.args.input.now c.args.at (little_bytes 2 (length entries) ++ flat_map entry_bytes entries ++ little_bytes 4 (length read)) c.in_err-at-3.field-0.0.offset =
    differs_later c.args.input.now c.args.at c.in_ok-at-2.at (little_bytes 2 (length entries) ++ flat_map entry_bytes entries) (little_bytes 4 (length read)) c.in_err-at-3.field-0.0.offset front c.in_err-at-3.ensures.differs in
    let whole : DiffersFrom c.args.input.now c.args.at (part_of c.args.reply.now) c.in_err-at-3.field-0.0.offset =
    differs_same c.args.input.now c.args.at (reply_part entries read) (part_of c.args.reply.now) c.in_err-at-3.field-0.0.offset same
    (differs_sooner c.args.input.now c.args.at (little_bytes 2 (length entries) ++ flat_map entry_bytes entries ++ little_bytes 4 (length read)) read c.in_err-at-3.field-0.0.offset three) in
    rw (p.1, p.2) whole

pub returns-clause-differs : goal.returns-clause-differs
returns-clause-differs c =
    let entries = c.as_slice-entries.result.now in
    let read = c.as_slice-read.result.now in
    let same : reply_part entries read ≡ part_of c.args.reply.now = ap (λ es. reply_part es read) c.as_slice-entries.ensures.value ∙ ap (reply_part c.args.reply.now.entries.items) c.as_slice-read.ensures in
    let front : StandAt c.args.input.now c.args.at (little_bytes 2 (length entries) ++ flat_map entry_bytes entries) c.in_ok-at-2.at =
    stand_after c.args.input.now c.args.at c.in_ok-at.at c.in_ok-at-2.at (little_bytes 2 (length entries)) (flat_map entry_bytes entries) c.in_ok-at.ensures.same c.in_ok-at-2.ensures.same in
    let numbers : StandAt c.args.input.now c.args.at (little_bytes 2 (length entries) ++ flat_map entry_bytes entries ++ little_bytes 4 (length read)) c.in_ok-at-3.at =
    stand_after c.args.input.now c.args.at c.in_ok-at-2.at c.in_ok-at-3.at (little_bytes 2 (length entries) ++ flat_map entry_bytes entries) (little_bytes 4 (length read)) front c.in_ok-at-3.ensures.same in
    let P : List ℕ → Type 0 = λ bytes. IfErr c.compare.result (λ d. DiffersFrom c.args.input.now c.args.at bytes d.offset) in
    subst P same (answer_differs c.compare.result c.args.input.now c.args.at c.in_ok-at-3.at (little_bytes 2 (length entries) ++ flat_map entry_bytes entries ++ little_bytes 4 (length read)) read numbers c.compare.ensures.differs)
