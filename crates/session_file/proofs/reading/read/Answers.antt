use Rattle.std.proofs.Common.{[], length, ◌∙◌, sym, ap, arith}
use Rattle.std.proofs.lemmas.List.{append-nil}
use Rattle.std.proofs.lemmas.Result.{err_from_is_err_and}
use Rattle.zone_model.specs.Sessions.{spelling}
use Rattle.session_file.proofs.Firsts.{file-front, file-trailing, file-passed}
use Rattle.session_file.proofs.reading.read.Goals as goal

pub returns-in_err-session-clause-broken : goal.returns-in_err-session-clause-broken
returns-in_err-session-clause-broken c =
    let p = err_from_is_err_and c.from_residual.result c.from_residual.ensures.1 in
    rw (p.1, p.2) (file-front c.args.bytes.now c.in_err-session.field-0.0 c.in_err-session.ensures.broken)

pub returns-then-end-bytes-clause-complete : goal.returns-then-end-bytes-clause-complete
returns-then-end-bytes-clause-complete c = λ s is e.
    let all = c.in_ok-session.ensures.complete s [] is (e ∙ sym (append-nil (spelling s))) in
    absurd (omega (arith, all.1, ap length e))

pub returns-then-end-bytes-clause-broken : goal.returns-then-end-bytes-clause-broken
returns-then-end-bytes-clause-broken c = file-trailing c.args.bytes.now c.in_ok-session.end c.in_ok-session.ensures.end (omega arith) c.in_ok-session.ensures.passed

pub returns-clause-complete : goal.returns-clause-complete
returns-clause-complete c = λ s is e. (c.in_ok-session.ensures.complete s [] is (e ∙ sym (append-nil (spelling s)))).0

pub returns-clause-passed : goal.returns-clause-passed
returns-clause-passed c = file-passed c.args.bytes.now c.in_ok-session.end c.in_ok-session.ensures.end (omega arith) c.in_ok-session.ensures.passed
