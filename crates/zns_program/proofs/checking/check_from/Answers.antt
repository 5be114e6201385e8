use Rattle.std.proofs.Common.{◌≡◌, ◌+◌, ◌^◌, ◌≤◌, length, Err, ap, arith}
use Rattle.std.proofs.lemmas.Result.{err_from_is_err_and}
use Rattle.zns_io.specs.Faults.{Rose}
use Rattle.zns_io.specs.Reading.{ReadsFrontUpTo}
use Rattle.zns_io.specs.declared.read_err.ReadErr.TheVariants as read_err
use Rattle.zns_program.specs.declared.task.Task.TheVariants as the_task
use Rattle.zns_program.specs.Tails.{StaysIn, IsOver}
use Rattle.zns_program.specs.Making.{EndsBefore, status_of_reading}
use Rattle.zns_program.specs.Answers.{IsConfirmedBy}
use Rattle.zns_program.proofs.Tails.{stays_then}
use Rattle.zns_program.proofs.Answers.{WasDrained, begun_front, ends_with, ends_reading, confirmed_output}
use Rattle.zns_program.proofs.checking.check_from.Goals as goal

pub returns-in_err-of-in-Ok : goal.returns-in_err-of-in-Ok
returns-in_err-of-in-Ok g c =
    let p = err_from_is_err_and c.from_residual-in_err-of-in-Ok.result c.from_residual-in_err-of-in-Ok.ensures.1 in
    let left = g.S.Source.left c.args.source.now in
    let mid = g.S.Source.left c.begun_from.new.source in
    let now = g.S.Source.left c.check_rest.new.source in
    let confirmed : IsConfirmedBy mid now c.in_ok-session.tail c.check_rest.new.tail c.in_ok-session.session = c.in-Ok.ensures.same in
    let read : ReadsFrontUpTo left now (2 ^ 29 + 1) =
    begun_front left mid now c.in_ok-session.session c.in_ok-session.tail c.check_rest.new.tail c.in_ok-session.ensures.begun c.in-Ok.ensures.stays (omega (arith, confirmed.short, ap length confirmed.all)) in
    rw (p.1, p.2) read

pub returns-in-Ok : goal.returns-in-Ok
returns-in-Ok g c =
    confirmed_output (g.S.Source.left c.args.source.now) (g.S.Source.left c.begun_from.new.source) (g.S.Source.left c.check_rest.new.source) c.in_ok-session.session c.in_ok-session.tail c.check_rest.new.tail c.in_ok-of-in-Ok.field-0
    c.in_ok-session.ensures.begun c.in-Ok.ensures.stays c.in-Ok.ensures.same c.in_ok-of-in-Ok.ensures

pub returns-in_err-drain-in-Err : goal.returns-in_err-drain-in-Err
returns-in_err-drain-in-Err g c =
    let p = err_from_is_err_and c.from_residual-in_err-drain-in-Err.result c.from_residual-in_err-drain-in-Err.ensures.1 in
    let left = g.S.Source.left c.args.source.now in
    let mid = g.S.Source.left c.begun_from.new.source in
    let then = g.S.Source.left c.check_rest.new.source in
    let now = g.S.Source.left c.drain.new.source in
    let first = g.S.Source.faults c.args.source.now in
    let faults = g.S.Source.faults c.check_rest.new.source in
    let faults_now = g.S.Source.faults c.drain.new.source in
    let e = c.in_err-drain-in-Err.field-0.0 in
    let stays : StaysIn mid now c.in_ok-session.tail c.drain.new.self = stays_then mid then now c.in_ok-session.tail c.check_rest.new.tail c.drain.new.self c.in-Err.ensures.stays c.in_err-drain-in-Err.ensures.stays in
    let few : first ≤ faults = omega (arith, c.in_ok-session.ensures.never_falls, c.in-Err.ensures.never_falls) in
    let over : e ≡ read_err.Over → IsOver c.drain.new.self = λ same. c.in_err-drain-in-Err.ensures.over (ap Err same) in
    let fault : e ≡ read_err.Failed → Rose faults faults_now = λ same. c.in_err-drain-in-Err.ensures.fault (ap Err same) in
    let ends : EndsBefore the_task.Check left now first faults_now (status_of_reading e) =
    ends_reading left mid now c.in_ok-session.session c.in_ok-session.tail c.drain.new.self first faults faults_now e c.in_ok-session.ensures.begun stays c.in_err-drain-in-Err.ensures.few few over fault in
    rw (p.1, p.2) ends

pub returns : goal.returns
returns g c =
    let left = g.S.Source.left c.args.source.now in
    let mid = g.S.Source.left c.begun_from.new.source in
    let then = g.S.Source.left c.check_rest.new.source in
    let now = g.S.Source.left c.drain.new.source in
    let stays : StaysIn mid now c.in_ok-session.tail c.drain.new.self = stays_then mid then now c.in_ok-session.tail c.check_rest.new.tail c.drain.new.self c.in-Err.ensures.stays c.in_ok-drain-in-Err.ensures.stays in
    let drained : WasDrained now c.drain.new.self = record { all = c.in_ok-drain-in-Err.ensures.all; end = c.in_ok-drain-in-Err.ensures.end; short = c.in_ok-drain-in-Err.ensures.short } in
    ends_with left mid now c.in_ok-session.session c.in_ok-session.tail c.drain.new.self (g.S.Source.faults c.args.source.now) (g.S.Source.faults c.begun_from.new.source) (g.S.Source.faults c.check_rest.new.source) (g.S.Source.faults c.drain.new.source) c.in-Err.status
    c.in_ok-session.ensures.begun stays drained c.in_ok-session.ensures.never_falls c.in_ok-drain-in-Err.ensures.never_falls c.in-Err.ensures.stops
