use Rattle.std.proofs.Common.{◌≡◌, ℕ, ◌<◌, List, length, Err, ap, arith}
use Rattle.std.proofs.lemmas.Bool.Decides.{nat_tests}
use Rattle.std.proofs.lemmas.List.{nil_from_length}
use Rattle.std.proofs.lemmas.Result.{err_from_is_err_and}
use Rattle.zns_io.specs.declared.read_err.ReadErr.{ReadErr}
use Rattle.zns_program.specs.Tails.{ComeOtherwise}
use Rattle.zns_program.specs.Checking.{bytes_after_order}
use Rattle.zns_program.proofs.Tails.{rose_from, stops_reading}
use Rattle.zns_program.proofs.Checked.{stops_alone, more_comes}
use Rattle.zns_program.proofs.checking.take_rest.Goals as goal

pub returns-in_err-take_session-clause-stops : goal.returns-in_err-take_session-clause-stops
returns-in_err-take_session-clause-stops g c =
    let p = err_from_is_err_and c.from_residual.result c.from_residual.ensures.1 in
    rw (p.1, p.2) (stops_alone (g.S.Source.left c.args.source.now) c.args.tail.now c.take_session.new.tail (g.S.Source.faults c.args.source.now) (g.S.Source.faults c.take_session.new.source) (bytes_after_order c.args.session c.args.order.now) c.in_err-take_session.field-0.0 c.in_err-take_session.ensures.stops)

pub returns-in_err-fill-clause-stops : goal.returns-in_err-fill-clause-stops
returns-in_err-fill-clause-stops g c =
    let p = err_from_is_err_and c.from_residual-in_err-fill.result c.from_residual-in_err-fill.ensures.1 in
    let first = g.S.Source.faults c.args.source.now in
    let mid = g.S.Source.faults c.take_session.new.source in
    let now = g.S.Source.faults c.fill.new.source in
    rw (p.1, p.2) (stops_reading first now c.fill.new.self (ComeOtherwise (g.S.Source.left c.args.source.now) c.args.tail.now (bytes_after_order c.args.session c.args.order.now)) c.in_err-fill.field-0.0 (λ same. c.in_err-fill.ensures.over (ap (λ (e : ReadErr). Err e) same)) (λ same. rose_from first mid now c.in_ok-take_session.ensures.never_falls (c.in_err-fill.ensures.fault (ap (λ (e : ReadErr). Err e) same))))

pub returns-then-not-is_empty-clause-stops : goal.returns-then-not-is_empty-clause-stops
returns-then-not-is_empty-clause-stops g c =
    let left = g.S.Source.left c.args.source.now in
    let mid = g.S.Source.left c.take_session.new.source in
    let now = g.S.Source.left c.fill.new.source in
    let some : 0 < length c.fill.new.self.held = grind (arith, nat_tests, c.is_empty.ensures, c.if-not-is_empty.true, ap (λ (bytes : List ℕ). length bytes) c.held.ensures) in
    rw c.at.ensures.at (more_comes left mid now c.args.tail.now c.take_session.new.tail c.fill.new.self (bytes_after_order c.args.session c.args.order.now) c.in_ok-take_session.ensures.stays c.in_ok-take_session.ensures.same c.in_ok-fill.ensures.stays c.in_ok-fill.ensures.at some)

pub returns-clause-all : goal.returns-clause-all
returns-clause-all g c =
    let none : length c.fill.new.self.held ≡ 0 = grind (arith, nat_tests, c.is_empty.ensures, c.if-not-is_empty.false, ap (λ (bytes : List ℕ). length bytes) c.held.ensures) in
    nil_from_length c.fill.new.self.held none
