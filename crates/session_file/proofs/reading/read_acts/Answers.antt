use Rattle.std.proofs.Common.{◌<◌, ◌≤◌, ◌∙◌, sym, ap, arith}
use Rattle.std.proofs.lemmas.Result.{err_from_is_err_and}
use Rattle.zns_types.specs.Rows.{first_holding}
use Rattle.session_file.specs.Places.{acts_from}
use Rattle.session_file.specs.FileRules.{records_rows}
use Rattle.session_file.proofs.RecordSteps.{acts_from-more, end_from-more, records_rows-more, records_rows-broken, records_rows-all}
use Rattle.session_file.proofs.Firsts.{first_of}
use Rattle.session_file.proofs.reading.read_acts.Goals as goal

pub loop-number-preserved : goal.loop-number-preserved
loop-number-preserved c =
    let i = c.loop-number._number in
    let before = c.loop-number.progress in
    let bytes = c.args.bytes.now in
    let more : i < c.args.commands = omega arith in
    record {
      acts = rw (c.push.ensures.acts, c.in_ok-act.ensures, c.in_ok-next.ensures.next) (acts_from-more i c.args.commands before.at bytes c.loop-number.acts.acts (acts_from c.args.commands 64 bytes) more c.loop-number.invariant.acts);
      end = rw c.in_ok-next.ensures.next (end_from-more i c.args.commands before.at bytes _ more c.loop-number.invariant.end);
      rows = rw (c.in_ok-next.ensures.next, c.in_ok-next.ensures.sent, c.in_ok-next.ensures.asked) (records_rows-more i c.args.commands c.args.g.now.fields bytes before.at before.sent before.asked more c.in_ok-next.ensures.passed ∙ c.loop-number.invariant.rows);
      far = omega (arith, c.in_ok-next.ensures.next, c.loop-number.invariant.far);
      within = c.in_ok-next.ensures.within;
      few_sent = c.in_ok-next.ensures.few_sent;
      few_asked = c.in_ok-next.ensures.few_asked;
      room = omega (arith, c.push.ensures.spare, c.loop-number.invariant.room);
    }

pub returns-in_err-next-clause-broken : goal.returns-in_err-next-clause-broken
returns-in_err-next-clause-broken c =
    let p = err_from_is_err_and c.from_residual-in_err-next.result c.from_residual-in_err-next.ensures.1 in
    rw (p.1, p.2) (first_of (records_rows c.args.commands c.args.g.now.fields c.args.bytes.now 64 0 0) c.in_err-next.field-0.0
    (sym c.loop-number.invariant.rows ∙ records_rows-broken c.loop-number._number c.args.commands c.args.g.now.fields c.args.bytes.now c.loop-number.progress.at c.loop-number.progress.sent c.loop-number.progress.asked c.in_err-next.field-0.0 (omega arith) c.in_err-next.ensures.broken))

pub returns-clause-passed : goal.returns-clause-passed
returns-clause-passed c =
    let all : c.args.commands ≤ c.loop-number._number = omega arith in
    sym c.loop-number.invariant.rows ∙ ap first_holding (records_rows-all c.loop-number._number c.args.commands c.args.g.now.fields c.args.bytes.now c.loop-number.progress.at c.loop-number.progress.sent c.loop-number.progress.asked all)
