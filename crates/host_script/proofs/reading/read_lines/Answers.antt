use Rattle.std.proofs.Common.{◌≡◌, ℕ, ◌<◌, List, length, Some, None, ◌∙◌, sym, subst, arith}
use Rattle.std.proofs.lemmas.Result.{err_from_is_err_and}
use Rattle.zns_types.specs.Rows.{first_holding}
use Rattle.session_file.specs.Faults.{IsFirstOf}
use Rattle.host_script.specs.Lines.{line_in}
use Rattle.host_script.specs.ScriptRules.{line_rows, lines_rows}
use Rattle.host_script.proofs.LineSteps.{line_at, lines_from, rest_of-slice, line_at-some, line_at-within, lines-more, rows-more, rows-broken, rows-all, first_of-same}
use Rattle.host_script.proofs.reading.read_lines.Goals as goal

pub returns-in_err-line-clause-broken : goal.returns-in_err-line-clause-broken
returns-in_err-line-clause-broken c =
    let p = err_from_is_err_and c.from_residual.result c.from_residual.ensures.1 in
    let g = c.args.g.now.fields in
    let bytes = c.args.bytes.now in
    let before = c.loop-progress.progress in
    let e = c.in_err-line.field-0.0 in
    let P : List ℕ → Type 0 = λ text. IsFirstOf (line_rows g before.number before.at before.sent text) e in
    let broken = subst P (c.first_line-text.ensures ∙ rest_of-slice before.at bytes) c.in_err-line.ensures.broken in
    rw (p.1, p.2) (first_of-same e (lines_rows g before.number before.at before.sent (lines_from before.at bytes)) (lines_rows g 0 64 0 (lines_from 64 bytes)) c.loop-progress.invariant.rows (rows-broken g before.number before.at before.sent bytes e c.loop-progress-test.true broken))

pub loop-progress-smaller : goal.loop-progress-smaller
loop-progress-smaller c =
    let bytes = c.args.bytes.now in
    let at = c.loop-progress.progress.at in
    let P : List ℕ → Type 0 = λ text. 0 < length text in
    let some : 0 < length c.first_line-text.result.now = subst P (sym (c.first_line-text.ensures ∙ rest_of-slice at bytes)) (line_at-some at bytes c.loop-progress-test.true) in
    omega (arith, some, c.in_ok-line.ensures.at, c.loop-progress-test.true)

pub loop-progress-preserved : goal.loop-progress-preserved
loop-progress-preserved c =
    let g = c.args.g.now.fields in
    let bytes = c.args.bytes.now in
    let before = c.loop-progress.progress in
    let line = c.in_ok-line.line in
    let text : c.first_line-text.result.now ≡ line_at before.at bytes = c.first_line-text.ensures ∙ rest_of-slice before.at bytes in
    let P : List ℕ → Type 0 = λ text. line_in g text ≡ Some line in
    let is : line_in g (line_at before.at bytes) ≡ Some line = subst P text c.in_ok-line.ensures.line in
    let Q : List ℕ → Type 0 = λ text. first_holding (line_rows g before.number before.at before.sent text) ≡ None in
    let passed = subst Q text c.in_ok-line.ensures.passed in
    record {
      lines = rw (c.in_ok-push.ensures.items, c.in_ok-line.ensures.at, text) (lines-more g before.at bytes line c.loop-progress.lines.items _ c.loop-progress-test.true is c.loop-progress.invariant.lines);
      rows = rw (c.in_ok-line.ensures.number, c.in_ok-line.ensures.at, c.in_ok-line.ensures.sent, text) (rows-more g before.number before.at before.sent bytes line c.loop-progress-test.true is passed ∙ c.loop-progress.invariant.rows);
      number = c.in_ok-line.ensures.few;
      within = rw (c.in_ok-line.ensures.at, text) (line_at-within before.at bytes c.loop-progress.invariant.within);
      sent = c.in_ok-line.ensures.few_sent;
    }

pub returns-clause-passed : goal.returns-clause-passed
returns-clause-passed c =
    let last = c.loop-progress.progress in
    sym c.loop-progress.invariant.rows ∙ rows-all c.args.g.now.fields last.number last.at last.sent c.args.bytes.now c.loop-progress-test.false
