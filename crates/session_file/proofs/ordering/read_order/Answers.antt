use Rattle.std.proofs.Common.{rules, ◌≡◌, ◌+◌, ◌∙◌, None, Some, length, refl, ap, arith}
use Rattle.std.proofs.lemmas.Result.{err_from_is_err_and}
use Rattle.zns_types.specs.Rows.{first_holding}
use Rattle.session_file.specs.Orders.{queues_from, order_rows, order_front_rows, result_rows}
use Rattle.session_file.specs.Faults.{IsFirstOf}
use Rattle.session_file.proofs.Firsts.{no_memory}
use Rattle.session_file.proofs.OrderFronts.{order_spelled, order_is, result-passed, result-front, result-queues, is_order_of, all_few, length-queues_from}
use Rattle.session_file.proofs.ordering.read_order.Goals as goal

pub read_queues-requires : goal.read_queues-requires
read_queues-requires c = record {
  within = rw (← c.len.ensures) c.in_ok-at.ensures.within;
  few = rw c.acts-acts.ensures.acts (all_few c.args.session.now c.acts-acts.ensures.session);
}

pub from_vec-requires : goal.from_vec-requires
from_vec-requires c = omega (arith, ap length c.in_ok-queues.ensures.queues, length-queues_from (length c.acts-acts.result.now.acts) c.in_ok-at.at c.args.bytes.now, c.len.ensures, c.len.type_inv)

pub returns : goal.returns
returns c =
    let front : first_holding (order_front_rows c.args.bytes.now c.args.from (length c.args.session.now.acts)) ≡ None = rw (← c.acts-acts.ensures.acts, ← c.len.ensures) c.in_ok-at.ensures.passed in
    let rows : first_holding (order_rows (length c.args.session.now.acts) c.args.bytes.now (c.args.from + 12) c.args.session.now.acts) ≡ None = rw (← c.acts-acts.ensures.acts, ← c.in_ok-at.ensures.place) c.in_ok-queues.ensures.passed in
    let order : c.from_vec.result ≡ queues_from (length c.args.session.now.acts) (c.args.from + 12) c.args.bytes.now = rw (c.from_vec.ensures, c.in_ok-queues.ensures.queues, c.in_ok-at.ensures.place, c.acts-acts.ensures.acts) refl in
    record {
      order = order_is c.args.bytes.now (c.args.from + 12) c.args.session.now.acts c.from_vec.result rows order;
      spelled = order_spelled c.args.bytes.now c.args.from (length c.args.session.now.acts) c.from_vec.result (search rules) front order;
      complete = λ other after is e. order ∙ (is_order_of c.args.bytes.now c.args.from c.args.session.now other after c.acts-acts.ensures.session is e).same;
      passed = result-passed c.args.bytes.now c.args.from c.args.session.now.acts front rows;
      broken = tt;
      within = tt;
    }

pub returns-in_err-at-clause-complete : goal.returns-in_err-at-clause-complete
returns-in_err-at-clause-complete c = λ order after is e.
    let p = err_from_is_err_and c.from_residual.result c.from_residual.ensures.1 in
    let front : first_holding (order_front_rows c.args.bytes.now c.args.from (length c.args.session.now.acts)) ≡ Some c.in_err-at.field-0.0 = rw (← c.acts-acts.ensures.acts, ← c.len.ensures) c.in_err-at.ensures.broken in
    rw (p.1, p.2) (no_memory (result_rows c.args.bytes.now c.args.from c.args.session.now.acts) c.in_err-at.field-0.0
    (is_order_of c.args.bytes.now c.args.from c.args.session.now order after c.acts-acts.ensures.session is e).passed
    (result-front c.args.bytes.now c.args.from c.args.session.now.acts c.in_err-at.field-0.0 front))

pub returns-in_err-at-clause-broken : goal.returns-in_err-at-clause-broken
returns-in_err-at-clause-broken c =
    let p = err_from_is_err_and c.from_residual.result c.from_residual.ensures.1 in
    let front : first_holding (order_front_rows c.args.bytes.now c.args.from (length c.args.session.now.acts)) ≡ Some c.in_err-at.field-0.0 = rw (← c.acts-acts.ensures.acts, ← c.len.ensures) c.in_err-at.ensures.broken in
    rw (p.1, p.2) (result-front c.args.bytes.now c.args.from c.args.session.now.acts c.in_err-at.field-0.0 front)

pub returns-in_err-queues-clause-complete : goal.returns-in_err-queues-clause-complete
returns-in_err-queues-clause-complete c = λ order after is e.
    let p = err_from_is_err_and c.from_residual-in_err-queues.result c.from_residual-in_err-queues.ensures.1 in
    let front : first_holding (order_front_rows c.args.bytes.now c.args.from (length c.args.session.now.acts)) ≡ None = rw (← c.acts-acts.ensures.acts, ← c.len.ensures) c.in_ok-at.ensures.passed in
    let rows : IsFirstOf (order_rows (length c.args.session.now.acts) c.args.bytes.now (c.args.from + 12) c.args.session.now.acts) c.in_err-queues.field-0.0 = rw (← c.acts-acts.ensures.acts, ← c.in_ok-at.ensures.place) c.in_err-queues.ensures.broken in
    rw (p.1, p.2) (no_memory (result_rows c.args.bytes.now c.args.from c.args.session.now.acts) c.in_err-queues.field-0.0
    (is_order_of c.args.bytes.now c.args.from c.args.session.now order after c.acts-acts.ensures.session is e).passed
    (result-queues c.args.bytes.now c.args.from c.args.session.now.acts c.in_err-queues.field-0.0 front rows))

pub returns-in_err-queues-clause-broken : goal.returns-in_err-queues-clause-broken
returns-in_err-queues-clause-broken c =
    let p = err_from_is_err_and c.from_residual-in_err-queues.result c.from_residual-in_err-queues.ensures.1 in
    let front : first_holding (order_front_rows c.args.bytes.now c.args.from (length c.args.session.now.acts)) ≡ None = rw (← c.acts-acts.ensures.acts, ← c.len.ensures) c.in_ok-at.ensures.passed in
    let rows : IsFirstOf (order_rows (length c.args.session.now.acts) c.args.bytes.now (c.args.from + 12) c.args.session.now.acts) c.in_err-queues.field-0.0 = rw (← c.acts-acts.ensures.acts, ← c.in_ok-at.ensures.place) c.in_err-queues.ensures.broken in
    rw (p.1, p.2) (result-queues c.args.bytes.now c.args.from c.args.session.now.acts c.in_err-queues.field-0.0 front rows)
