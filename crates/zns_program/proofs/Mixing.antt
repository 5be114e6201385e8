-- Acts of several queues, and the next one of each.
use Rattle.std.proofs.Common.{◌≡◌, ◌≢◌, ℕ, zero, suc, ◌+◌, ◌<◌, ◌≤◌, Bool, true, false, cond, List, [], ◌∷◌, ◌++◌, length, get_or, set, drop, Option, Some, None, refl, sym, ap, subst, ◌∙◌, ⊎_elim, arith}
use Rattle.std.proofs.lemmas.Bool.{eqb-true, eq-eqb, cases_lt}
use Rattle.std.proofs.lemmas.Bool.Decides.{nat_tests}
use Rattle.std.proofs.lemmas.List.{append-nil, append_assoc, length-set, get_or-set_same, get_or-set_other, drop_more, drop_all, length_push, get_or_append_left, get_or_push}
use Rattle.std.proofs.lemmas.List.Elements.{filter-append, recursion_from_All, All-from_recursion}
use Rattle.std.specs.Prelude.{◌==◌, count_by, All}
use Rattle.std.specs.List.{AllByRecursion}
use Rattle.drive_rules.specs.Shown.{one}
use Rattle.zone_model.specs.declared.act.Act.{Act}
use Rattle.zone_model.specs.Sessions.{is_of, next_of, rest_of, next_then, merged, IsOrder, acts_of}
use Rattle.zone_model.proofs.Merging.{count-cons, with_one}
use Rattle.session_file.proofs.OrderLists.{HasNext, counted-next, next-count, next-all, rest-all}
use Rattle.zns_program.specs.Queues.{AreQueues}

-- ---- queues

pub queues-none : (queues : List (List Act)) → queues ≡ [] → AreQueues 0 [] queues
queues-none queues none = record { long = ap length none; each = λ queue few d. absurd (omega (arith, few)) }

-- one more queue, without acts
pub queues-one : (count : ℕ) (queues grown : List (List Act)) (new : List Act) → AreQueues count [] queues → new ≡ [] → grown ≡ queues ++ new ∷ [] → AreQueues (count + 1) [] grown
queues-one count queues grown new are empty e = record {
  long = ap length e ∙ length_push queues new ∙ ap (λ n. n + 1) are.long;
  each = λ queue few d. ap (λ (qs : List (List Act)). get_or qs queue d) e ∙ ⊎_elim (λ h. before queue d h) (λ h. last queue d (omega (arith, few, h))) (cases_lt queue count);
}
  where
    before : (queue : ℕ) (d : List Act) → queue < count → get_or (queues ++ new ∷ []) queue d ≡ []
    before queue d h = get_or_append_left queues (new ∷ []) d queue (omega (arith, are.long)) ∙ are.each queue h d

    last : (queue : ℕ) (d : List Act) → queue ≡ count → get_or (queues ++ new ∷ []) queue d ≡ []
    last queue d same = get_or_push queues new d queue (omega (arith, are.long)) ∙ empty

pub queues-count : (count other : ℕ) (queues : List (List Act)) → count ≡ other → AreQueues count [] queues → AreQueues other [] queues
queues-count count other queues same are = let P : ℕ → Type 0 = λ n. AreQueues n [] queues in subst P same are

-- one more act on a queue
pub queue-more : (count : ℕ) (acts : List Act) (a : Act) (queues : List (List Act)) (new : List Act) → a.queue < count → AreQueues count acts queues → new ≡ get_or queues a.queue [] ++ a ∷ [] → AreQueues count (acts ++ a ∷ []) (set queues a.queue new)
queue-more count acts a queues new small are grown = record {
  long = length-set queues a.queue new ∙ are.long;
  each = λ queue few d. by_queue queue few d (is_of queue a) refl ∙ sym (filter-append (is_of queue) acts (a ∷ []));
}
  where
    by_queue : (queue : ℕ) → queue < count → (d : List Act) → (b : Bool) → is_of queue a ≡ b → get_or (set queues a.queue new) queue d ≡ acts_of queue acts ++ cond b (a ∷ []) []
    by_queue queue few d true mine =
        let same : a.queue ≡ queue = eqb-true a.queue queue mine in
        ap (λ q. get_or (set queues a.queue new) q d) (sym same)
        ∙ get_or-set_same queues a.queue new d (omega (arith, are.long))
        ∙ grown
        ∙ ap (λ (before : List Act). before ++ a ∷ []) (are.each a.queue small [])
        ∙ ap (λ q. acts_of q acts ++ a ∷ []) same
    by_queue queue few d false other =
        let unlike : queue ≢ a.queue = grind (arith, nat_tests) in
        get_or-set_other queues a.queue queue new d unlike ∙ are.each queue few d ∙ sym (append-nil (acts_of queue acts))

-- a queue begins with its next act
pub queue-next : (count : ℕ) (acts : List Act) (queue : ℕ) (queues : List (List Act)) (d : List Act) → queue < count → AreQueues count acts queues → (has : HasNext queue acts) → get_or queues queue d ≡ has.act ∷ acts_of queue (rest_of queue acts)
queue-next count acts queue queues d small are has =
    are.each queue small d ∙ has.next.acts_of queue ∙ ap (λ b. with_one b has.act (acts_of queue (rest_of queue acts))) has.next.of_queue

-- a queue without its next act
pub queue-less : (count : ℕ) (acts : List Act) (queue : ℕ) (queues : List (List Act)) (new : List Act) → queue < count → AreQueues count acts queues → HasNext queue acts → new ≡ acts_of queue (rest_of queue acts) → AreQueues count (rest_of queue acts) (set queues queue new)
queue-less count acts queue queues new small are has left = record {
  long = length-set queues queue new ∙ are.long;
  each = λ q few d. by_queue q few d (queue == q) refl;
}
  where
    of : has.act.queue ≡ queue
    of = eqb-true has.act.queue queue has.next.of_queue

    by_queue : (q : ℕ) → q < count → (d : List Act) → (b : Bool) → (queue == q) ≡ b → get_or (set queues queue new) q d ≡ acts_of q (rest_of queue acts)
    by_queue q few d true mine =
        let same : queue ≡ q = eqb-true queue q mine in
        ap (λ k. get_or (set queues queue new) k d) (sym same)
        ∙ get_or-set_same queues queue new d (omega (arith, are.long))
        ∙ left
        ∙ ap (λ k. acts_of k (rest_of queue acts)) same
    by_queue q few d false other =
        let unlike : q ≢ queue = grind (arith, nat_tests) in
        let none : is_of q has.act ≡ false = ap (λ k. k == q) of ∙ other in
        get_or-set_other queues queue q new d unlike
        ∙ are.each q few d
        ∙ has.next.acts_of q
        ∙ ap (λ b. with_one b has.act (acts_of q (rest_of queue acts))) none

-- ---- orders

order-next : (acts : List Act) (queue : ℕ) (order : List ℕ) → IsOrder acts (queue ∷ order) → HasNext queue acts
order-next acts queue order is =
    let own : one (queue == queue) ≡ 1 = ap one (eq-eqb queue queue refl) in
    counted-next queue acts (omega (arith, is queue, count-cons (λ q. q == queue) queue order, own))

order-rest : (acts : List Act) (queue : ℕ) (order : List ℕ) → IsOrder acts (queue ∷ order) → HasNext queue acts → IsOrder (rest_of queue acts) order
order-rest acts queue order is has = λ k. omega (arith, is k, count-cons (λ q. q == k) queue order, next-count queue acts has k)

counted-at : (order : List ℕ) (i : ℕ) → i < length order → 0 < count_by (λ q. q == get_or order i 0) order
counted-at [] i h = absurd (omega arith)
counted-at (queue ∷ order) zero h =
    let own : one (queue == queue) ≡ 1 = ap one (eq-eqb queue queue refl) in
    omega (arith, count-cons (λ q. q == queue) queue order, own)
counted-at (queue ∷ order) (suc i) h =
    let rest : 0 < count_by (λ q. q == get_or order i 0) order = counted-at order i (omega arith) in
    omega (arith, count-cons (λ q. q == get_or order i 0) queue order, rest)

-- an order of acts on `count` queues names no other queue
pub order-few : (count : ℕ) (acts : List Act) (order : List ℕ) (i : ℕ) → All (λ (a : Act). a.queue < count) acts → IsOrder acts order → i < length order → get_or order i 0 < count
order-few count acts order i few is h =
    let queue = get_or order i 0 in
    let has : HasNext queue acts = counted-next queue acts (omega (arith, counted-at order i h, is queue)) in
    let small : has.act.queue < count = next-all (λ (a : Act). a.queue < count) queue acts has.act (recursion_from_All (λ (a : Act). a.queue < count) acts few) has.found in
    let P : ℕ → Type 0 = λ q. q < count in
    subst P (eqb-true has.act.queue queue has.next.of_queue) small

-- what holds of all acts holds of them in any order of queues
merged-recursion : (P : Act → Type 0) (acts : List Act) (order : List ℕ) → AllByRecursion P acts → AllByRecursion P (merged acts order)
merged-recursion P acts [] all = tt
merged-recursion P acts (queue ∷ order) all = by_next (next_of queue acts) refl (merged-recursion P (rest_of queue acts) order (rest-all P queue acts all))
  where
    by_next : (o : Option Act) → next_of queue acts ≡ o → AllByRecursion P (merged (rest_of queue acts) order) → AllByRecursion P (next_then o (merged (rest_of queue acts) order))
    by_next None e rest = rest
    by_next (Some a) e rest = (next-all P queue acts a all e, rest)

pub merged-all : (P : Act → Type 0) (acts : List Act) (order : List ℕ) → All P acts → All P (merged acts order)
merged-all P acts order all = All-from_recursion P (merged acts order) (merged-recursion P acts order (recursion_from_All P acts all))

-- ---- the first places of an order

-- The acts of the first places were taken from their queues, and the rest is an order of the acts that are left.
pub record Mixes (count : ℕ) (acts : List Act) (order : List ℕ) (number : ℕ) (queues : List (List Act)) (mixed : List Act) : Type 0 where
  pub rest : List Act
  pub wait : AreQueues count rest queues
  pub left : IsOrder rest (drop number order)
  pub together : mixed ++ merged rest (drop number order) ≡ merged acts order

pub mixes-none : (count : ℕ) (acts : List Act) (order : List ℕ) (queues : List (List Act)) → AreQueues count acts queues → IsOrder acts order → Mixes count acts order 0 queues []
mixes-none count acts order queues are is = record { rest = acts; wait = are; left = is; together = refl }

-- the queue that is named has an act
pub mixes-next : (count : ℕ) (acts : List Act) (order : List ℕ) (number : ℕ) (queues : List (List Act)) (mixed : List Act) (queue : ℕ) (d : List Act) → number < length order → queue ≡ get_or order number 0 → queue < count
    → Mixes count acts order number queues mixed → 0 < length (get_or queues queue d)
mixes-next count acts order number queues mixed queue d h named small mixes =
    let places : drop number order ≡ queue ∷ drop (number + 1) order = drop_more order number 0 h ∙ ap (λ q. q ∷ drop (number + 1) order) (sym named) in
    let P : List ℕ → Type 0 = λ o. IsOrder mixes.rest o in
    let is : IsOrder mixes.rest (queue ∷ drop (number + 1) order) = subst P places mixes.left in
    let has : HasNext queue mixes.rest = order-next mixes.rest queue (drop (number + 1) order) is in
    omega (arith, ap length (queue-next count mixes.rest queue queues d small mixes.wait has))

pub mixes-more : (count : ℕ) (acts : List Act) (order : List ℕ) (number : ℕ) (queues : List (List Act)) (mixed : List Act) (queue : ℕ) (a : Act) (new : List Act) → number < length order → queue ≡ get_or order number 0 → queue < count
    → get_or queues queue [] ≡ a ∷ new → Mixes count acts order number queues mixed → Mixes count acts order (number + 1) (set queues queue new) (mixed ++ a ∷ [])
mixes-more count acts order number queues mixed queue a new h named small taken mixes =
    let places : drop number order ≡ queue ∷ drop (number + 1) order = drop_more order number 0 h ∙ ap (λ q. q ∷ drop (number + 1) order) (sym named) in
    let P : List ℕ → Type 0 = λ o. IsOrder mixes.rest o in
    let is : IsOrder mixes.rest (queue ∷ drop (number + 1) order) = subst P places mixes.left in
    let has : HasNext queue mixes.rest = order-next mixes.rest queue (drop (number + 1) order) is in
    let first : a ∷ new ≡ has.act ∷ acts_of queue (rest_of queue mixes.rest) = sym taken ∙ queue-next count mixes.rest queue queues [] small mixes.wait has in
    let act : has.act ≡ a = cc in
    let others : new ≡ acts_of queue (rest_of queue mixes.rest) = cc in
    record {
      rest = rest_of queue mixes.rest;
      wait = queue-less count mixes.rest queue queues new small mixes.wait has others;
      left = order-rest mixes.rest queue (drop (number + 1) order) is has;
      together =
          append_assoc mixed (a ∷ []) (merged (rest_of queue mixes.rest) (drop (number + 1) order))
          ∙ ap (λ (b : Act). mixed ++ b ∷ merged (rest_of queue mixes.rest) (drop (number + 1) order)) (sym act)
          ∙ ap (λ o. mixed ++ next_then o (merged (rest_of queue mixes.rest) (drop (number + 1) order))) (sym has.found)
          ∙ ap (λ (o : List ℕ). mixed ++ merged mixes.rest o) (sym places)
          ∙ mixes.together;
    }

pub mixes-all : (count : ℕ) (acts : List Act) (order : List ℕ) (number : ℕ) (queues : List (List Act)) (mixed : List Act) → length order ≤ number → Mixes count acts order number queues mixed → mixed ≡ merged acts order
mixes-all count acts order number queues mixed h mixes =
    let none : drop number order ≡ [] = drop_all number order h in
    sym (append-nil mixed) ∙ ap (λ (o : List ℕ). mixed ++ merged mixes.rest o) (sym none) ∙ mixes.together
