use Rattle.std.proofs.Common.{◌+◌, ◌∙◌, List, [], ◌∷◌, ap, arith, length, length-append, subst, sym}
use Rattle.std.specs.Global.{Vec}
use Rattle.queue_controller.specs.Sessions.{AreEmpty}
use Rattle.queue_controller.specs.declared.job.Prepared.{Prepared}
use Rattle.queue_controller.proofs.Dealt.{empty_more}
use Rattle.queue_controller.proofs.opening.empty_lists.Goals as goal

pub loop-preserved : goal.loop-preserved
loop-preserved c =
    let inv = c.loop.invariant in
    let p = c.push_reserved.ensures in
    record {
      count = ap (λ (l : List (Vec Prepared)). length l) p.items ∙ (length-append c.loop.lists.items (c.new.result ∷ []) ∙ ap (λ n. n + 1) inv.count);
      empty = subst AreEmpty (sym p.items) (empty_more c.loop.lists.items c.new.result inv.empty c.new.ensures.items);
      room = let room = inv.room in omega (arith, p.capacity, room);
    }
