use Rattle.std.proofs.Common.{◌≡◌, ◌++◌, arith}
use Rattle.std.proofs.lemmas.Result.{err_from_is_err_and}
use Rattle.zone_model.specs.Sessions.{spelling}
use Rattle.session_file.specs.Streams.{BeginsWith}
use Rattle.session_file.proofs.Streams.{began_more, began_few, began_front}
use Rattle.session_file.proofs.streaming.read_from.Goals as goal

pub returns-in_err-has_ended-clause-stops : goal.returns-in_err-has_ended-clause-stops
returns-in_err-has_ended-clause-stops g c =
    let p = err_from_is_err_and c.from_residual-in_err-has_ended.result c.from_residual-in_err-has_ended.ensures.1 in
    let left = g.S.Source.left c.args.source.now in
    let mid = g.S.Source.left c.begin_from.new.source in
    let began : BeginsWith left mid c.in-Session.begun = rw c.in-Session.is at c.in_ok-begun.ensures.begins in
    rw p.1 (began_front left mid (g.S.Source.left c.has_ended.new.source) c.in-Session.begun c.has_ended.new.feed began c.in_err-has_ended.ensures.goes_on (omega (arith, c.in_err-has_ended.ensures.held, began.few)))

pub returns-in_err-spelled-clause-stops : goal.returns-in_err-spelled-clause-stops
returns-in_err-spelled-clause-stops g c =
    let p = err_from_is_err_and c.from_residual-in_err-spelled.result c.from_residual-in_err-spelled.ensures.1 in
    let left = g.S.Source.left c.args.source.now in
    let mid = g.S.Source.left c.begin_from.new.source in
    let began : BeginsWith left mid c.in-Session.begun = rw c.in-Session.is at c.in_ok-begun.ensures.begins in
    rw p.1 (began_front left mid (g.S.Source.left c.has_ended.new.source) c.in-Session.begun c.has_ended.new.feed began c.in_ok-has_ended.ensures.goes_on (omega (arith, c.in_ok-has_ended.ensures.held, began.few)))

pub returns-clause-gives : goal.returns-clause-gives
returns-clause-gives g c =
    let b = c.in-Session.begun in
    let left = g.S.Source.left c.args.source.now in
    let mid = g.S.Source.left c.begin_from.new.source in
    let after = c.has_ended.new.feed in
    let began : BeginsWith left mid b = rw c.in-Session.is at c.in_ok-begun.ensures.begins in
    let same : c.in_ok-spelled.field-0 ≡ spelling b.session ++ after = rw c.rest-2.ensures.rest at c.in_ok-spelled.ensures in
    rw same (began_more left mid (g.S.Source.left c.has_ended.new.source) b after began c.in_ok-has_ended.ensures.goes_on, began_few b after began.session (omega (arith, c.in_ok-has_ended.ensures.held, began.few)))
