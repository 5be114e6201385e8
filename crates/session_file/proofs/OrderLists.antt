-- The next act of a queue, and the acts that remain.
use Rattle.std.proofs.Common.{◌≡◌, ℕ, ◌+◌, ◌<◌, Bool, true, false, cond, List, [], ◌∷◌, Option, Some, None, refl, ap, ◌∙◌, subst, arith}
use Rattle.std.proofs.lemmas.Bool.{eqb-true}
use Rattle.std.specs.Prelude.{count_by, is_some, ◌==◌}
use Rattle.std.specs.List.{AllByRecursion}
use Rattle.drive_rules.specs.Shown.{one}
use Rattle.zone_model.specs.declared.act.Act.{Act}
use Rattle.zone_model.specs.Sessions.{is_of, next_of, rest_of}
use Rattle.zone_model.proofs.Merging.{IsNext, is_next, none-next, mine-counts}

-- a queue has a next act
pub record HasNext (queue : ℕ) (acts : List Act) : Type 0 where
  pub act : Act
  pub found : next_of queue acts ≡ Some act
  pub next : IsNext queue acts act

found-next : (queue : ℕ) (acts : List Act) (a : Act) → next_of queue acts ≡ Some a → HasNext queue acts
found-next queue acts a e = record { act = a; found = e; next = is_next queue acts a e }

pub some-next : (queue : ℕ) (acts : List Act) → is_some (next_of queue acts) ≡ true → HasNext queue acts
some-next queue acts some = by_next (next_of queue acts) refl some
  where
    by_next : (o : Option Act) → next_of queue acts ≡ o → is_some o ≡ true → HasNext queue acts
    by_next None e h = absurd (cc h)
    by_next (Some a) e h = found-next queue acts a e

pub counted-next : (queue : ℕ) (acts : List Act) → 0 < count_by (is_of queue) acts → HasNext queue acts
counted-next queue acts some = by_next (next_of queue acts) refl
  where
    by_next : (o : Option Act) → next_of queue acts ≡ o → HasNext queue acts
    by_next None e = absurd (omega (arith, some, none-next queue acts e))
    by_next (Some a) e = found-next queue acts a e

-- the number of acts of each queue: this queue has one more than remain
pub next-count : (queue : ℕ) (acts : List Act) → HasNext queue acts → (k : ℕ) → count_by (is_of k) acts ≡ one (queue == k) + count_by (is_of k) (rest_of queue acts)
next-count queue acts has k =
    let same : has.act.queue ≡ queue = eqb-true has.act.queue queue has.next.of_queue in
    has.next.count k ∙ ap (λ (q : ℕ). one (q == k) + count_by (is_of k) (rest_of queue acts)) same

-- a queue without acts has no next one
pub uncounted-next : (queue : ℕ) (acts : List Act) → count_by (is_of queue) acts ≡ 0 → is_some (next_of queue acts) ≡ false
uncounted-next queue acts none = by_next (next_of queue acts) refl
  where
    by_next : (o : Option Act) → next_of queue acts ≡ o → is_some o ≡ false
    by_next None e = refl
    by_next (Some a) e =
        let next = is_next queue acts a e in
        let own : one (is_of queue a) ≡ 1 = ap one next.of_queue in
        absurd (omega (arith, none, next.count queue, own))

-- what holds for all acts holds for the next one
pub next-all : (P : Act → Type 0) (queue : ℕ) (acts : List Act) (a : Act) → AllByRecursion P acts → next_of queue acts ≡ Some a → P a
next-all P queue [] a all e = absurd (cc e)
next-all P queue (b ∷ acts) a all e = by_first (is_of queue b) e (next-all P queue acts a all.1)
  where
    by_first : (first : Bool) → cond first (Some b) (next_of queue acts) ≡ Some a → (next_of queue acts ≡ Some a → P a) → P a
    by_first true e k = let same : b ≡ a = cc in subst P same all.0
    by_first false e k = k e

-- and for those that remain
pub rest-all : (P : Act → Type 0) (queue : ℕ) (acts : List Act) → AllByRecursion P acts → AllByRecursion P (rest_of queue acts)
rest-all P queue [] h = tt
rest-all P queue (a ∷ acts) h = by_first (is_of queue a) (rest-all P queue acts h.1)
  where
    by_first : (first : Bool) → AllByRecursion P (rest_of queue acts) → AllByRecursion P (cond first acts (a ∷ rest_of queue acts))
    by_first true k = h.1
    by_first false k = (h.0, k)

-- a queue that has acts is one of the drive's
pub next-few : (queue : ℕ) (acts : List Act) → AllByRecursion (λ (a : Act). a.queue < 17) acts → HasNext queue acts → queue < 17
next-few queue acts all has =
    let small : has.act.queue < 17 = next-all (λ (a : Act). a.queue < 17) queue acts has.act all has.found in
    let same : has.act.queue ≡ queue = eqb-true has.act.queue queue has.next.of_queue in
    rw (← same) small

-- if no queue has any acts, there are none
pub none-counted : (acts : List Act) → ((k : ℕ) → count_by (is_of k) acts ≡ 0) → acts ≡ []
none-counted [] h = refl
none-counted (a ∷ acts) h = let none : count_by (is_of a.queue) (a ∷ acts) ≡ 0 = h a.queue in absurd (omega (arith, none, mine-counts a acts))
