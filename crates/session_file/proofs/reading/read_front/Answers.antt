use Rattle.std.proofs.Common.{rules, ◌∙◌}
use Rattle.std.proofs.lemmas.Result.{err_from_is_err_and}
use Rattle.zone_model.specs.Sessions.{spelling}
use Rattle.session_file.specs.Places.{session_in, session_end}
use Rattle.session_file.specs.FileRules.{front_rows}
use Rattle.session_file.proofs.Fronts.{begins_with, taken}
use Rattle.session_file.proofs.Firsts.{no_memory, front-header, front-records, WasRead, was_read}
use Rattle.session_file.proofs.reading.read_front.Goals as goal

pub returns-in_err-header-clause-complete : goal.returns-in_err-header-clause-complete
returns-in_err-header-clause-complete c = λ s after is e.
    let p = err_from_is_err_and c.from_residual.result c.from_residual.ensures.1 in
    rw (p.1, p.2) (no_memory (front_rows c.args.bytes.now) c.in_err-header.field-0.0 (begins_with c.args.bytes.now s after is e).passed (front-header c.args.bytes.now c.in_err-header.field-0.0 c.in_err-header.ensures.broken))

pub returns-in_err-header-clause-broken : goal.returns-in_err-header-clause-broken
returns-in_err-header-clause-broken c =
    let p = err_from_is_err_and c.from_residual.result c.from_residual.ensures.1 in
    rw (p.1, p.2) (front-header c.args.bytes.now c.in_err-header.field-0.0 c.in_err-header.ensures.broken)

pub returns-in_err-acts-clause-complete : goal.returns-in_err-acts-clause-complete
returns-in_err-acts-clause-complete c = λ s after is e.
    let p = err_from_is_err_and c.from_residual-in_err-acts.result c.from_residual-in_err-acts.ensures.1 in
    rw (p.1, p.2) (no_memory (front_rows c.args.bytes.now) c.in_err-acts.field-0.0 (begins_with c.args.bytes.now s after is e).passed
    (front-records c.args.bytes.now c.in_ok-header.header.geometry.fields c.in_ok-header.header.commands c.in_err-acts.field-0.0 c.in_ok-header.ensures.geometry c.in_ok-header.ensures.commands c.in_ok-header.ensures.passed c.in_err-acts.ensures.broken))

pub returns-in_err-acts-clause-broken : goal.returns-in_err-acts-clause-broken
returns-in_err-acts-clause-broken c =
    let p = err_from_is_err_and c.from_residual-in_err-acts.result c.from_residual-in_err-acts.ensures.1 in
    rw (p.1, p.2) (front-records c.args.bytes.now c.in_ok-header.header.geometry.fields c.in_ok-header.header.commands c.in_err-acts.field-0.0 c.in_ok-header.ensures.geometry c.in_ok-header.ensures.commands c.in_ok-header.ensures.passed c.in_err-acts.ensures.broken)

pub new-requires : goal.new-requires
new-requires c =
    let header = c.in_ok-header.header in
    let acts = c.in_ok-acts.acts.acts in
    let first = c.in_ok-header.ensures in
    let rest = c.in_ok-acts.ensures in
    let was : WasRead c.args.bytes.now (record { geometry = header.geometry.fields; acts = acts }) c.in_ok-acts.end =
    was_read c.args.bytes.now header.geometry.fields header.commands acts c.in_ok-acts.end (search rules) first.geometry header.geometry.valid first.commands first.passed rest.acts rest.end rest.passed in
    rw was.session was.front.session

pub returns : goal.returns
returns c =
    let bytes = c.args.bytes.now in
    let header = c.in_ok-header.header in
    let acts = c.in_ok-acts.acts.acts in
    let first = c.in_ok-header.ensures in
    let rest = c.in_ok-acts.ensures in
    let was : WasRead bytes (record { geometry = header.geometry.fields; acts = acts }) c.in_ok-acts.end =
    was_read bytes header.geometry.fields header.commands acts c.in_ok-acts.end (search rules) first.geometry header.geometry.valid first.commands first.passed rest.acts rest.end rest.passed in
    record {
      session = rw (c.new.ensures, was.session) was.front.session;
      spelled = rw (c.new.ensures, was.session, was.last) (taken (spelling (session_in bytes)) (session_end bytes) bytes was.front.within was.front.spelled);
      within = rw was.last was.front.within;
      end = was.last;
      complete = λ s after is e. let whole = begins_with bytes s after is e in (c.new.ensures ∙ was.session ∙ whole.session, was.last ∙ whole.end);
      passed = was.passed;
      broken = tt;
    }
