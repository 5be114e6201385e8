use Rattle.std.proofs.Common.{◌≡◌, Err, ap}
use Rattle.std.proofs.lemmas.Result.{err_from_is_err_and}
use Rattle.zns_io.specs.Faults.{Rose}
use Rattle.zns_io.specs.declared.read_err.ReadErr.TheVariants as read_err
use Rattle.zns_program.specs.Tails.{IsOver}
use Rattle.zns_program.specs.Making.{status_of, status_of_reading}
use Rattle.zns_program.specs.Answers.{Answers, CallsFrom}
use Rattle.zns_program.proofs.Tails.{stays_then, stays_taken}
use Rattle.zns_program.proofs.Answers.{answers_reading, answers_order, order_fits, order_next}
use Rattle.zns_program.proofs.checking.take_order.Goals as goal

pub returns-in_err-fill-clause-stops : goal.returns-in_err-fill-clause-stops
returns-in_err-fill-clause-stops g c =
    let p = err_from_is_err_and c.from_residual.result c.from_residual.ensures.1 in
    let over : c.in_err-fill.field-0.0 ≡ read_err.Over → IsOver c.fill.new.self = λ same. c.in_err-fill.ensures.over (ap Err same) in
    let fault : c.in_err-fill.field-0.0 ≡ read_err.Failed → Rose (g.S.Source.faults c.args.source.now) (g.S.Source.faults c.fill.new.source) = λ same. c.in_err-fill.ensures.fault (ap Err same) in
    let answer : Answers (g.S.Source.faults c.args.source.now) (g.S.Source.faults c.fill.new.source) (CallsFrom (g.S.Source.left c.args.source.now) c.args.tail.now c.args.session.now) (status_of_reading c.in_err-fill.field-0.0) =
    answers_reading (g.S.Source.left c.args.source.now) (g.S.Source.left c.fill.new.source) c.args.tail.now c.fill.new.self c.args.session.now (g.S.Source.faults c.args.source.now) (g.S.Source.faults c.fill.new.source) c.in_err-fill.field-0.0
    c.in_err-fill.ensures.stays over fault in
    rw (p.1, p.2) answer

pub returns-in_err-order-clause-stops : goal.returns-in_err-order-clause-stops
returns-in_err-order-clause-stops g c =
    let p = err_from_is_err_and c.from_residual-in_err-order.result c.from_residual-in_err-order.ensures.1 in
    let answer : Answers (g.S.Source.faults c.args.source.now) (g.S.Source.faults c.fill.new.source) (CallsFrom (g.S.Source.left c.args.source.now) c.args.tail.now c.args.session.now) (status_of c.in_err-order.field-0.0) =
    answers_order (g.S.Source.left c.args.source.now) (g.S.Source.left c.fill.new.source) c.args.tail.now c.fill.new.self c.args.session.now (g.S.Source.faults c.args.source.now) (g.S.Source.faults c.fill.new.source) c.in_err-order.field-0.0
    c.acts.ensures.session c.in_ok-fill.ensures.stays c.in_ok-fill.ensures.at (rw (c.order_len.ensures, c.len.ensures, c.acts.ensures.acts) at c.in_ok-fill.ensures.end) (rw (c.at.ensures.at, c.held.ensures) at c.in_err-order.ensures.broken) in
    rw (p.1, p.2) answer

pub skip-requires : goal.skip-requires
skip-requires g c = order_fits c.in_ok-order.order c.fill.new.self.held c.order_len-2.result (rw c.held.ensures at c.in_ok-order.ensures.spelled) (rw c.len-2.ensures at c.order_len-2.ensures)

pub returns-clause-stays : goal.returns-clause-stays
returns-clause-stays g c =
    let fits = order_fits c.in_ok-order.order c.fill.new.self.held c.order_len-2.result (rw c.held.ensures at c.in_ok-order.ensures.spelled) (rw c.len-2.ensures at c.order_len-2.ensures) in
    stays_then (g.S.Source.left c.args.source.now) (g.S.Source.left c.fill.new.source) (g.S.Source.left c.fill.new.source) c.args.tail.now c.fill.new.self c.skip.new.self c.in_ok-fill.ensures.stays
    (stays_taken (g.S.Source.left c.fill.new.source) c.fill.new.self c.skip.new.self c.order_len-2.result fits c.skip.ensures.held c.skip.ensures.at)

pub returns-clause-named : goal.returns-clause-named
returns-clause-named g c =
    order_next (g.S.Source.left c.args.source.now) (g.S.Source.left c.fill.new.source) c.args.tail.now c.fill.new.self c.skip.new.self c.in_ok-order.order c.order_len-2.result c.in_ok-fill.ensures.stays c.in_ok-fill.ensures.at (rw c.held.ensures at c.in_ok-order.ensures.spelled) (rw c.len-2.ensures at c.order_len-2.ensures) c.skip.ensures.held c.skip.ensures.at
