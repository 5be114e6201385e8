use Rattle.std.proofs.Common.{◌≡◌, ◌<◌, List, [], ◌∷◌, ◌++◌, length, get_or, ap, sym, ◌∙◌, subst, arith, append_assoc, length-append}
use mathlib.Core.Option.{some}
use lib.ListN.{get_elem?}
use Rattle.std.specs.Global.{Vec}
use Rattle.atomic_table.proofs.Lists.{at_index}
use Rattle.zone_model.specs.declared.act.Act.{Act}
use Rattle.zone_model.specs.Sessions.{IsAct}
use Rattle.queue_controller.specs.declared.job.Prepared.{Prepared}
use Rattle.queue_controller.proofs.Opened.{seam}
use Rattle.queue_controller.proofs.Dealt.{dealt_none, dealt_more}
use Rattle.queue_controller.proofs.opening.deal.Goals as goal

pub loop-act-init : goal.loop-act-init
loop-act-init c = record {
  dealt = dealt_none c.args.g.now.fields c.in_ok-lists.lists.items c.in_ok-lists.ensures.0 c.in_ok-lists.ensures.1;
  items = c.into_iter-act-iterator.ensures.into_iter_gives.0;
}

pub loop-act-preserved : goal.loop-act-preserved
loop-act-preserved c =
    let inv = c.loop-act.invariant in
    let a : Act = c.in-Some.act in
    let ys : List Act = c.loop-act.yielded in
    let xs : List Act = c.next.new.self.rest.items in
    let rest : c.loop-act.act-iterator.rest.items ≡ a ∷ xs = c.in-Some.ensures.steps.0 in
    let all : ys ++ a ∷ xs ≡ c.args.acts.items = ap (λ (z : List Act). ys ++ z) (sym rest) ∙ inv.items in
    let long : length (ys ++ a ∷ xs) ≡ length c.args.acts.items = ap (λ (z : List Act). length z) all in
    let is : IsAct c.args.g.now.fields a = subst (IsAct c.args.g.now.fields) (ap (λ (z : List Act). get_or z (length ys) a) (sym all) ∙ seam ys xs a a) (c.requires (length ys) a (omega (arith, long, length-append ys (a ∷ xs)))) in
    let old : Vec Prepared = c.index_mut.result.now in
    let near : a.queue < length c.loop-act.lists.items = omega (arith, is.queue, inv.dealt.count) in
    let there : get_elem? c.loop-act.lists.items a.queue ≡ some old = at_index c.loop-act.lists.items a.queue old near c.index_mut.ensures.value in
    record {
      dealt = dealt_more c.args.g.now.fields ys c.loop-act.lists.items a old c.push.new.self inv.dealt there
          record { prepared = c.in_ok-prepared.prepared; items = c.in_ok-push.ensures.items; act_is = c.in_ok-prepared.ensures.act; is = c.in_ok-prepared.ensures.prepared };
      items = append_assoc ys (a ∷ []) xs ∙ all;
    }
