use Rattle.std.proofs.Common.{◌≡◌, None, ◌∙◌}
use Rattle.std.proofs.lemmas.Result.{err_from_is_err_and}
use Rattle.zns_types.specs.Rows.{first_holding}
use Rattle.zns_types.specs.Rules.{rules}
use Rattle.session_file.specs.Places.{geometry_in}
use Rattle.session_file.proofs.HeaderRows.{start_broken, number_broken, end_decides}
use Rattle.session_file.proofs.header.read_header.Goals as goal

pub returns-in_err-check_start-clause-broken : goal.returns-in_err-check_start-clause-broken
returns-in_err-check_start-clause-broken c =
    let p = err_from_is_err_and c.from_residual.result c.from_residual.ensures.1 in
    rw (p.1, p.2) (start_broken c.args.bytes.now c.in_err-check_start.field-0.0 c.in_err-check_start.ensures.broken)

pub returns-in_err-geometry-clause-broken : goal.returns-in_err-geometry-clause-broken
returns-in_err-geometry-clause-broken c =
    let p = err_from_is_err_and c.from_residual-in_err-geometry.result c.from_residual-in_err-geometry.ensures.1 in
    rw (p.1, p.2) (number_broken c.args.bytes.now c.in_err-geometry.field-0.0 c.in_ok-check_start.ensures.passed (rw c.geometry_fields.ensures at c.in_err-geometry.ensures.broken))

pub returns-in_err-commands-clause-broken : goal.returns-in_err-commands-clause-broken
returns-in_err-commands-clause-broken c =
    let p = err_from_is_err_and c.from_residual-in_err-commands.result c.from_residual-in_err-commands.ensures.1 in
    let unbroken : first_holding (rules (geometry_in c.args.bytes.now)) ≡ None = rw c.geometry_fields.ensures at c.in_ok-geometry.ensures.unbroken in
    rw (p.1, p.2) (end_decides c.args.bytes.now c.in_ok-check_start.ensures.passed unbroken ∙ c.in_err-commands.ensures.broken)

pub returns-clause-passed : goal.returns-clause-passed
returns-clause-passed c =
    let unbroken : first_holding (rules (geometry_in c.args.bytes.now)) ≡ None = rw c.geometry_fields.ensures at c.in_ok-geometry.ensures.unbroken in
    end_decides c.args.bytes.now c.in_ok-check_start.ensures.passed unbroken ∙ c.in_ok-commands.ensures.passed
