use Rattle.std.proofs.Common.{◌≡◌, ℕ, ◌<◌, List, ◌∷◌, [], ◌++◌, length, get_or, set, ap, sym, subst, ◌∙◌, arith}
use Rattle.std.proofs.lemmas.List.{get_or_read}
use Rattle.zone_model.specs.declared.act.Act.{Act}
use Rattle.zns_program.specs.Queues.{AreQueues}
use Rattle.zns_program.proofs.Iterated.{given_first, all_here}
use Rattle.zns_program.proofs.Mixing.{queue-more}
use Rattle.zns_program.proofs.merging.queues_of.Goals as goal

pub index_mut-requires : goal.index_mut-requires
index_mut-requires c =
    let whole : c.args.acts.items ≡ c.loop-act.yielded ++ c.in-Some.act ∷ c.next.new.self.rest.items =
    sym c.into_iter-act-iterator.ensures.into_iter_gives.0 ∙ given_first c.into_iter-act-iterator.result c.loop-act.yielded c.loop-act.act-iterator c.loop-act.yielded_by ∙ ap (λ (rest : List Act). c.loop-act.yielded ++ rest) c.in-Some.ensures.steps.0 in
    let small : c.in-Some.act.queue < c.args.count = all_here (λ (a : Act). a.queue < c.args.count) c.args.acts.items c.loop-act.yielded c.in-Some.act c.next.new.self.rest.items whole c.requires in
    omega (arith, small, c.from-queue.ensures, c.loop-act.invariant.long, c.loop-act.queues.ok.0)

pub loop-act-preserved : goal.loop-act-preserved
loop-act-preserved c =
    let whole : c.args.acts.items ≡ c.loop-act.yielded ++ c.in-Some.act ∷ c.next.new.self.rest.items =
    sym c.into_iter-act-iterator.ensures.into_iter_gives.0 ∙ given_first c.into_iter-act-iterator.result c.loop-act.yielded c.loop-act.act-iterator c.loop-act.yielded_by ∙ ap (λ (rest : List Act). c.loop-act.yielded ++ rest) c.in-Some.ensures.steps.0 in
    let small : c.in-Some.act.queue < c.args.count = all_here (λ (a : Act). a.queue < c.args.count) c.args.acts.items c.loop-act.yielded c.in-Some.act c.next.new.self.rest.items whole c.requires in
    let within : c.from-queue.result < length c.loop-act.queues.items = omega (arith, small, c.from-queue.ensures, c.loop-act.invariant.long) in
    let read : c.index_mut.result.now ≡ get_or c.loop-act.queues.items c.in-Some.act.queue [] =
    get_or_read c.loop-act.queues.items c.from-queue.result c.index_mut.result.now within c.index_mut.ensures.value [] ∙ ap (λ i. get_or c.loop-act.queues.items i []) c.from-queue.ensures in
    let grown : c.push.new.self ≡ get_or c.loop-act.queues.items c.in-Some.act.queue [] ++ c.in-Some.act ∷ [] = c.in_ok-push.ensures ∙ ap (λ (q : List Act). q ++ c.in-Some.act ∷ []) read in
    let P : ℕ → Type 0 = λ i. AreQueues c.args.count (c.loop-act.yielded ++ c.in-Some.act ∷ []) (set c.loop-act.queues.items i c.push.new.self) in
    subst P (sym c.from-queue.ensures) (queue-more c.args.count c.loop-act.yielded c.in-Some.act c.loop-act.queues.items c.push.new.self small c.loop-act.invariant grown)
