-- Acts that have, for each queue, the same acts as others are an order of those.
use Rattle.std.proofs.Common.{◌≡◌, ℕ, suc, ◌+◌, ◌≤◌, Bool, true, false, cond, List, [], ◌∷◌, length, Option, Some, refl, sym, ap, ◌∙◌, subst, arith}
use Rattle.std.specs.Prelude.{◌==◌, All}
use Rattle.std.proofs.lemmas.Bool.{eqb-true, eq-eqb}
use Rattle.std.proofs.lemmas.List.Sums.{length-filter}
use Rattle.drive_rules.specs.Shown.{one}
use Rattle.zns_types.specs.declared.fields.GeometryFields.{GeometryFields}
use Rattle.zone_model.specs.declared.act.Act.{Act}
use Rattle.zone_model.specs.Sessions.{IsAct, is_of, next_of, rest_of, next_then, merged, own_order, IsOrder, acts_of, IsMerge}
use Rattle.zone_model.proofs.Merging.{with_one, count-cons, is_next, merge_keeps_order}

-- acts on queues below a number have none of the others
pub no_acts : (g : GeometryFields) (acts : List Act) (queue : ℕ) → All (IsAct g) acts → g.queues ≤ queue → acts_of queue acts ≡ []
no_acts g [] queue all far = refl
no_acts g (a ∷ acts) queue all far = by_own (is_of queue a) refl (no_acts g acts queue (λ k d h. all (suc k) d (omega arith)) far)
  where
    below : IsAct g a
    below = all 0 a (omega arith)

    by_own : (own : Bool) → is_of queue a ≡ own → acts_of queue acts ≡ [] → cond own (a ∷ acts_of queue acts) (acts_of queue acts) ≡ []
    by_own true e none = let same : a.queue ≡ queue = eqb-true a.queue queue e in let near = below.queue in absurd (omega arith)
    by_own false e none = none

-- the first act of a queue is the first of its acts
first_next : (queue : ℕ) (acts : List Act) (a : Act) (rest : List Act) → acts_of queue acts ≡ a ∷ rest → next_of queue acts ≡ Some a
first_next queue [] a rest e = absurd (cc e)
first_next queue (b ∷ acts) a rest e =
    elim (is_of queue b) as (λ t. cond t (b ∷ acts_of queue acts) (acts_of queue acts) ≡ a ∷ rest → cond t (Some b) (next_of queue acts) ≡ Some a) [ true ↦ λ h. cc h | false ↦ λ h. first_next queue acts a rest h ] e

without : (t : Bool) (a : Act) (xs ys : List Act) → with_one t a xs ≡ with_one t a ys → xs ≡ ys
without true a xs ys e = cc e
without false a xs ys e = e

pub merged-same : (log acts : List Act) → ((queue : ℕ) → acts_of queue log ≡ acts_of queue acts) → merged acts (own_order log) ≡ log
merged-same [] acts same = refl
merged-same (a ∷ log) acts same =
    let own : acts_of a.queue (a ∷ log) ≡ a ∷ acts_of a.queue log = ap (λ t. cond t (a ∷ acts_of a.queue log) (acts_of a.queue log)) (eq-eqb a.queue a.queue refl) in
    let first : next_of a.queue acts ≡ Some a = first_next a.queue acts a (acts_of a.queue log) (sym (same a.queue) ∙ own) in
    let next = is_next a.queue acts a first in
    let rest : merged (rest_of a.queue acts) (own_order log) ≡ log =
    merged-same log (rest_of a.queue acts) (λ q. without (is_of q a) a (acts_of q log) (acts_of q (rest_of a.queue acts)) (same q ∙ next.acts_of q)) in
    ap (λ (o : Option Act). next_then o (merged (rest_of a.queue acts) (own_order log))) first ∙ ap (λ (l : List Act). a ∷ l) rest

own_order-counts : (log : List Act) → IsOrder log (own_order log)
own_order-counts [] queue = refl
own_order-counts (a ∷ log) queue =
    count-cons (λ q. q == queue) a.queue (own_order log)
    ∙ ap (λ (n : ℕ). one (is_of queue a) + n) (own_order-counts log queue)
    ∙ sym (count-cons (is_of queue) a log)

pub order-same : (log acts : List Act) → ((queue : ℕ) → acts_of queue log ≡ acts_of queue acts) → IsOrder acts (own_order log)
order-same log acts same queue =
    own_order-counts log queue
    ∙ (sym (length-filter (is_of queue) log)
    ∙ (ap (λ (l : List Act). length l) (same queue) ∙ length-filter (is_of queue) acts))

pub merge-same : (log acts : List Act) → ((queue : ℕ) → acts_of queue log ≡ acts_of queue acts) → IsMerge acts log
merge-same log acts same = subst (IsMerge acts) (merged-same log acts same) (merge_keeps_order acts (own_order log) (order-same log acts same))
