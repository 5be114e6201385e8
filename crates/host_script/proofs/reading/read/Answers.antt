use Rattle.std.proofs.Common.{◌∙◌, drop, rules, subst}
use Rattle.std.proofs.lemmas.Result.{err_from_is_err_and}
use Rattle.zns_types.specs.declared.fields.GeometryFields.{GeometryFields}
use Rattle.session_file.specs.Faults.{IsFirstOf}
use Rattle.session_file.proofs.Firsts.{no_memory}
use Rattle.text_lines.specs.Cuts.{lines_in}
use Rattle.host_script.specs.ScriptRules.{lines_rows, script_rows}
use Rattle.host_script.proofs.Fronts.{WasScript, header_first, host_first, rest_first, was_script, was_whole, whole-passed}
use Rattle.host_script.proofs.reading.read.Goals as goal

pub returns-in_err-header-clause-complete : goal.returns-in_err-header-clause-complete
returns-in_err-header-clause-complete c = λ s is e.
    let p = err_from_is_err_and c.from_residual.result c.from_residual.ensures.1 in
    rw (p.1, p.2) (no_memory (script_rows c.args.bytes.now) c.in_err-header.field-0.0 (whole-passed c.args.bytes.now s is e) (header_first c.args.bytes.now c.in_err-header.field-0.0 c.in_err-header.ensures.broken))

pub returns-in_err-header-clause-broken : goal.returns-in_err-header-clause-broken
returns-in_err-header-clause-broken c =
    let p = err_from_is_err_and c.from_residual.result c.from_residual.ensures.1 in
    rw (p.1, p.2) (header_first c.args.bytes.now c.in_err-header.field-0.0 c.in_err-header.ensures.broken)

pub returns-in_err-check_header-clause-complete : goal.returns-in_err-check_header-clause-complete
returns-in_err-check_header-clause-complete c = λ s is e.
    let p = err_from_is_err_and c.from_residual-in_err-check_header.result c.from_residual-in_err-check_header.ensures.1 in
    rw (p.1, p.2) (no_memory (script_rows c.args.bytes.now) c.in_err-check_header.field-0.0 (whole-passed c.args.bytes.now s is e) (host_first c.args.bytes.now c.in_err-check_header.field-0.0 c.in_ok-header.ensures.passed c.in_err-check_header.ensures.broken))

pub returns-in_err-check_header-clause-broken : goal.returns-in_err-check_header-clause-broken
returns-in_err-check_header-clause-broken c =
    let p = err_from_is_err_and c.from_residual-in_err-check_header.result c.from_residual-in_err-check_header.ensures.1 in
    rw (p.1, p.2) (host_first c.args.bytes.now c.in_err-check_header.field-0.0 c.in_ok-header.ensures.passed c.in_err-check_header.ensures.broken)

pub returns-in_err-lines-clause-complete : goal.returns-in_err-lines-clause-complete
returns-in_err-lines-clause-complete c = λ s is e.
    let p = err_from_is_err_and c.from_residual-in_err-lines.result c.from_residual-in_err-lines.ensures.1 in
    let P : GeometryFields → Type 0 = λ of. IsFirstOf (lines_rows of 0 64 0 (lines_in (drop 64 c.args.bytes.now))) c.in_err-lines.field-0.0 in
    let broken = subst P c.in_ok-header.ensures.geometry c.in_err-lines.ensures.broken in
    rw (p.1, p.2) (no_memory (script_rows c.args.bytes.now) c.in_err-lines.field-0.0 (whole-passed c.args.bytes.now s is e) (rest_first c.args.bytes.now c.in_err-lines.field-0.0 c.in_ok-header.ensures.passed c.in_ok-check_header.ensures.passed broken))

pub returns-in_err-lines-clause-broken : goal.returns-in_err-lines-clause-broken
returns-in_err-lines-clause-broken c =
    let p = err_from_is_err_and c.from_residual-in_err-lines.result c.from_residual-in_err-lines.ensures.1 in
    let P : GeometryFields → Type 0 = λ of. IsFirstOf (lines_rows of 0 64 0 (lines_in (drop 64 c.args.bytes.now))) c.in_err-lines.field-0.0 in
    let broken = subst P c.in_ok-header.ensures.geometry c.in_err-lines.ensures.broken in
    rw (p.1, p.2) (rest_first c.args.bytes.now c.in_err-lines.field-0.0 c.in_ok-header.ensures.passed c.in_ok-check_header.ensures.passed broken)

pub new-requires : goal.new-requires
new-requires c =
    let header = c.in_ok-header.header.geometry in
    let first = c.in_ok-header.ensures in
    let rest = c.in_ok-lines.ensures in
    (was_script c.args.bytes.now header.fields c.in_ok-lines.lines.items (search rules) first.geometry header.valid first.passed c.in_ok-check_header.ensures.passed rest.passed rest.lines).script

pub returns : goal.returns
returns c =
    let bytes = c.args.bytes.now in
    let header = c.in_ok-header.header.geometry in
    let lines = c.in_ok-lines.lines.items in
    let first = c.in_ok-header.ensures in
    let rest = c.in_ok-lines.ensures in
    let was : WasScript bytes (record { geometry = header.fields; lines = lines }) =
    was_script bytes header.fields lines (search rules) first.geometry header.valid first.passed c.in_ok-check_header.ensures.passed rest.passed rest.lines in
    record {
      script = rw c.new.ensures was.script;
      spelled = rw c.new.ensures was.spelled;
      complete = λ s is e. c.new.ensures ∙ was_whole bytes header.fields lines s first.geometry rest.lines is e;
      passed = was.passed;
      broken = tt;
    }
