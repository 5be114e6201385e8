use Rattle.std.proofs.Common.{◌<◌, ◌∙◌, ap, arith, length}
use Rattle.std.proofs.lemmas.List.{length-set}
use Rattle.session_file.proofs.Appending.{some_act}
use Rattle.session_file.proofs.OrderCounts.{counted_at_most, counts-more}
use Rattle.session_file.proofs.ordering.count_acts.Goals as goal

pub overflow_add-counts : goal.overflow_add-counts
overflow_add-counts c =
    let small : c.from.result < 17 = rw (c.from.ensures, c.act.ensures some_act) (c.requires c.loop-number.number some_act (omega arith)) in
    omega (arith, c.loop-number.invariant.counts c.from.result small, counted_at_most c.args.acts.now.acts c.loop-number.number c.from.result (omega arith))

pub loop-number-preserved : goal.loop-number-preserved
loop-number-preserved c =
    let small : c.from.result < 17 = rw (c.from.ensures, c.act.ensures some_act) (c.requires c.loop-number.number some_act (omega arith)) in
    let within : c.from.result < length c.loop-number.counts = rw c.loop-number.invariant.long small in
    record {
      long = length-set c.loop-number.counts c.from.result _ ∙ c.loop-number.invariant.long;
      counts = counts-more c.loop-number.counts c.args.acts.now.acts c.loop-number.number c.from.result some_act (omega arith)
          (c.from.ensures ∙ ap (λ act. act.queue) (c.act.ensures some_act)) within c.loop-number.invariant.counts;
    }
