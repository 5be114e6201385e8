use Rattle.std.proofs.Common.{sym}
use Rattle.std.proofs.lemmas.Result.{err_from_is_err_and}
use Rattle.zone_model.specs.Sessions.{order_bytes, result_of}
use Rattle.zns_program.specs.Tails.{ComeNext}
use Rattle.zns_program.specs.Checking.{bytes_after_order}
use Rattle.zns_program.specs.Making.{status_of_comparison}
use Rattle.zns_program.specs.Answers.{Answers, CallsFrom}
use Rattle.zns_program.proofs.Tails.{next_then, next_same}
use Rattle.zns_program.proofs.Inputs.{result_of-parts}
use Rattle.zns_program.proofs.Answers.{answers_comparison}
use Rattle.zns_program.proofs.checking.check_rest.Goals as goal

pub returns-in_err-take_rest-clause-stops : goal.returns-in_err-take_rest-clause-stops
returns-in_err-take_rest-clause-stops g c =
    let p = err_from_is_err_and c.from_residual-in_err-take_rest.result c.from_residual-in_err-take_rest.ensures.1 in
    let answer : Answers (g.S.Source.faults c.args.source.now) (g.S.Source.faults c.take_rest.new.source) (CallsFrom (g.S.Source.left c.args.source.now) c.args.tail.now c.args.session) (status_of_comparison c.in_err-take_rest.field-0.0) =
    answers_comparison (g.S.Source.left c.args.source.now) (g.S.Source.left c.take_order.new.source) (g.S.Source.left c.take_rest.new.source) c.args.tail.now c.take_order.new.tail c.take_rest.new.tail c.args.session c.in_ok-order.order
    (g.S.Source.faults c.args.source.now) (g.S.Source.faults c.take_order.new.source) (g.S.Source.faults c.take_rest.new.source) c.in_err-take_rest.field-0.0
    c.in_ok-order.ensures.session c.in_ok-order.ensures.order c.in_ok-order.ensures.stays c.in_err-take_rest.ensures.stays c.in_ok-order.ensures.named c.in_ok-order.ensures.never_falls c.in_err-take_rest.ensures.stops in
    rw (p.1, p.2) answer

pub returns-clause-same : goal.returns-clause-same
returns-clause-same g c =
    let left = g.S.Source.left c.args.source.now in
    let mid = g.S.Source.left c.take_order.new.source in
    let s = c.args.session in
    let order = c.in_ok-order.order in
    let all : ComeNext left c.args.tail.now c.take_rest.new.tail (result_of s order) =
    next_same left c.args.tail.now c.take_rest.new.tail _ (result_of s order) (sym (result_of-parts s order))
    (next_then left mid c.args.tail.now c.take_order.new.tail c.take_rest.new.tail (order_bytes order) (bytes_after_order s order) c.in_ok-order.ensures.stays c.in_ok-order.ensures.named c.in_ok-take_rest.ensures.same) in
    record {
      order = order;
      each_once = c.in_ok-order.ensures.order;
      result = all;
      all = c.in_ok-take_rest.ensures.all;
      end = c.in_ok-take_rest.ensures.end;
      short = c.in_ok-take_rest.ensures.short;
    }
