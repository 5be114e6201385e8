-- Acts merged by an order of their queues.
use Rattle.std.proofs.Common.{◌≡◌, ℕ, suc, ◌+◌, Bool, true, false, cond, List, [], ◌∷◌, length, Option, Some, None, refl, sym, ap, ◌∙◌, arith}
use Rattle.std.specs.Prelude.{◌==◌, count_by}
use Rattle.std.proofs.lemmas.Bool.{eqb-true, eq-eqb}
use Rattle.std.proofs.lemmas.List.Sums.{sum_by-cons}
use Rattle.drive_rules.specs.Shown.{one}
use Rattle.zone_model.specs.declared.act.Act.{Act}
use Rattle.zone_model.specs.Sessions.{is_of, next_of, rest_of, next_then, merged, IsOrder, acts_of, IsMerge}

-- one more element, if it passes
abbrev pub with_one : {A : Type 0} → Bool → A → List A → List A
with_one b a xs = cond b (a ∷ xs) xs

pub count-cons : {A : Type 0} (p : A → Bool) (x : A) (xs : List A) → count_by p (x ∷ xs) ≡ one (p x) + count_by p xs
count-cons p x xs = sum_by-cons (λ y. one (p y)) x xs

-- ---- the next act of a queue

-- the acts are this one, which is of the queue, and the rest
pub record IsNext (queue : ℕ) (acts : List Act) (a : Act) : Type 0 where
  pub of_queue : is_of queue a ≡ true
  pub length : length acts ≡ suc (length (rest_of queue acts))
  pub count : (q : ℕ) → count_by (is_of q) acts ≡ one (is_of q a) + count_by (is_of q) (rest_of queue acts)
  pub acts_of : (q : ℕ) → acts_of q acts ≡ with_one (is_of q a) a (acts_of q (rest_of queue acts))

-- two acts, of which one is of the queue and the other isn't, are not both of any other queue
with_both : (queue q : ℕ) (a b : Act) (xs : List Act) → is_of queue a ≡ true → is_of queue b ≡ false
    → with_one (is_of q b) b (with_one (is_of q a) a xs) ≡ with_one (is_of q a) a (with_one (is_of q b) b xs)
with_both queue q a b xs mine other = by_both (is_of q a) (is_of q b) refl refl
  where
    by_both : (x y : Bool) → is_of q a ≡ x → is_of q b ≡ y → with_one y b (with_one x a xs) ≡ with_one x a (with_one y b xs)
    by_both false y e f = refl
    by_both true false e f = refl
    by_both true true e f =
        let same : b.queue ≡ queue = eqb-true _ _ f ∙ sym (eqb-true a.queue q e) ∙ eqb-true _ _ mine in
        absurd (cc (other, eq-eqb _ _ same))

next-cons : (queue : ℕ) (acts : List Act) (a b : Act) → is_of queue b ≡ false → IsNext queue acts a → IsNext queue (b ∷ acts) a
next-cons queue acts a b other next = record {
  of_queue = next.of_queue;
  length = rw other (ap suc next.length);
  count = λ q. rw other (omega (arith, count-cons (is_of q) b acts, count-cons (is_of q) b (rest_of queue acts), next.count q));
  acts_of = λ q. rw other (ap (with_one (is_of q b) b) (next.acts_of q) ∙ with_both queue q a b (acts_of q (rest_of queue acts)) next.of_queue other);
}

pub is_next : (queue : ℕ) (acts : List Act) (a : Act) → next_of queue acts ≡ Some a → IsNext queue acts a
is_next queue [] a e = absurd (cc e)
is_next queue (b ∷ acts) a e = by_first (is_of queue b) refl e (is_next queue acts a)
  where
    by_first : (first : Bool) → is_of queue b ≡ first → cond first (Some b) (next_of queue acts) ≡ Some a → (next_of queue acts ≡ Some a → IsNext queue acts a) → IsNext queue (b ∷ acts) a
    by_first true mine e k =
        let same : b ≡ a = cc in
        record {
          of_queue = ap (is_of queue) (sym same) ∙ mine;
          length = rw mine refl;
          count = λ q. rw mine (count-cons (is_of q) b acts ∙ ap (λ (x : Act). one (is_of q x) + count_by (is_of q) acts) same);
          acts_of = λ q. rw mine (ap (λ (x : Act). with_one (is_of q x) x (acts_of q acts)) same);
        }
    by_first false other e k = next-cons queue acts a b other (k e)

pub none-next : (queue : ℕ) (acts : List Act) → next_of queue acts ≡ None → count_by (is_of queue) acts ≡ 0
none-next queue [] e = refl
none-next queue (b ∷ acts) e = by_first (is_of queue b) refl e (none-next queue acts)
  where
    by_first : (first : Bool) → is_of queue b ≡ first → cond first (Some b) (next_of queue acts) ≡ None → (next_of queue acts ≡ None → count_by (is_of queue) acts ≡ 0) → count_by (is_of queue) (b ∷ acts) ≡ 0
    by_first true mine e k = absurd (cc e)
    by_first false other e k = count-cons (is_of queue) b acts ∙ rw other (omega (arith, k e))

-- ---- all of them

pub mine-counts : (a : Act) (acts : List Act) → count_by (is_of a.queue) (a ∷ acts) ≡ suc (count_by (is_of a.queue) acts)
mine-counts a acts = count-cons (is_of a.queue) a acts ∙ rw (eq-eqb a.queue a.queue refl) (omega arith)

pub merge_keeps_order : (acts : List Act) (order : List ℕ) → IsOrder acts order → IsMerge acts (merged acts order)
merge_keeps_order [] [] is = record { count = refl; queues = λ q. refl }
merge_keeps_order (a ∷ acts) [] is = let none : 0 ≡ count_by (is_of a.queue) (a ∷ acts) = is a.queue in absurd (omega (arith, none, mine-counts a acts))
merge_keeps_order acts (queue ∷ order) is = by_next (next_of queue acts) refl (merge_keeps_order (rest_of queue acts) order)
  where
    counts : (q : ℕ) → one (queue == q) + count_by (λ x. x == q) order ≡ count_by (is_of q) acts
    counts q = sym (count-cons (λ x. x == q) queue order) ∙ is q

    by_next : (o : Option Act) → next_of queue acts ≡ o → (IsOrder (rest_of queue acts) order → IsMerge (rest_of queue acts) (merged (rest_of queue acts) order))
        → IsMerge acts (next_then o (merged (rest_of queue acts) order))
    by_next None e k =
        let one_of : one (queue == queue) ≡ 1 = ap one (eq-eqb queue queue refl) in
        absurd (omega (arith, counts queue, none-next queue acts e, one_of))
    by_next (Some a) e k =
        let next = is_next queue acts a e in
        let same : queue ≡ a.queue = sym (eqb-true a.queue queue next.of_queue) in
        let rest = k (λ q. let here : one (queue == q) ≡ one (is_of q a) = ap (λ (x : ℕ). one (x == q)) same in omega (arith, counts q, next.count q, here)) in
        record {
          count = ap suc rest.count ∙ sym next.length;
          queues = λ q. ap (with_one (is_of q a) a) (rest.queues q) ∙ sym (next.acts_of q);
        }
