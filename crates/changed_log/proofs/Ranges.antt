-- Consecutive numbers, and those of them that pass a test.
use Rattle.std.proofs.Common.{◌≡◌, ℕ, zero, suc, ◌+◌, ◌-◌, ◌<◌, ◌≤◌, Bool, true, false, cond, List, [], ◌∷◌, ◌++◌, length, refl, sym, ap, ◌∙◌, inl, inr, arith, length-append}
use Rattle.std.specs.List.{range_with_len, filter, Contains}
use Rattle.std.specs.List.Sorted.{IsStrictlyIncreasing}
use Rattle.std.proofs.lemmas.List.Elements.{filter-append, Contains-append_right}
use Rattle.std.proofs.lemmas.List.Kept.{IsStrictlyIncreasing-filter}
use Rattle.std.proofs.lemmas.List.FromFn.{length-range_with_len, get_or-range_with_len}
use Rattle.std.proofs.lemmas.Bool.{cases_Bool, cases_eq, lt-ltb}
use Rattle.std.proofs.lemmas.Bool.Decides.{nat_tests}
use Rattle.changed_log.specs.Logs.{with_zone}

-- `m` numbers from `a` on, followed by the next `n`
pub range_with_len-append : (a m n : ℕ) → range_with_len a m ++ range_with_len (a + m) n ≡ range_with_len a (m + n)
range_with_len-append a zero n =
    let e : a + 0 ≡ a = omega arith in
    let f : 0 + n ≡ n = omega arith in
    rw (e, f) refl
range_with_len-append a (suc m) n =
    let e : suc m + n ≡ suc (m + n) = omega arith in
    let f : a + suc m ≡ a + 1 + m = omega arith in
    rw (e, f) (ap (λ (xs : List ℕ). a ∷ xs) (range_with_len-append (a + 1) m n))

-- the numbers that pass, split at a place
pub filter-split : (p : ℕ → Bool) (i n : ℕ) → i ≤ n → filter p (range_with_len 0 n) ≡ filter p (range_with_len 0 i) ++ filter p (range_with_len i (n - i))
filter-split p i n le =
    let whole : n ≡ i + (n - i) = omega arith in
    let start : 0 + i ≡ i = omega arith in
    ap (λ (k : ℕ). filter p (range_with_len 0 k)) whole
    ∙ ap (λ (xs : List ℕ). filter p xs) (sym (range_with_len-append 0 i (n - i)))
    ∙ filter-append p (range_with_len 0 i) (range_with_len (0 + i) (n - i))
    ∙ ap (λ (k : ℕ). filter p (range_with_len 0 i) ++ filter p (range_with_len k (n - i))) start

-- one more number
pub filter-one_more : (p : ℕ → Bool) (i : ℕ) → filter p (range_with_len 0 (i + 1)) ≡ filter p (range_with_len 0 i) ++ cond (p i) (i ∷ []) []
filter-one_more p i =
    let one : i + 1 - i ≡ 1 = omega arith in
    filter-split p i (i + 1) (omega arith) ∙ ap (λ (k : ℕ). filter p (range_with_len 0 i) ++ filter p (range_with_len i k)) one

-- no more numbers pass up to a place than in all
pub filter-fewer : (p : ℕ → Bool) (i n : ℕ) → i ≤ n → length (filter p (range_with_len 0 i)) ≤ length (filter p (range_with_len 0 n))
filter-fewer p i n le =
    let whole = filter-split p i n le in
    rw whole (omega (arith, length-append (filter p (range_with_len 0 i)) (filter p (range_with_len i (n - i)))))

from_here : (p : ℕ → Bool) (i n : ℕ) → p i ≡ true → Contains (filter p (range_with_len i (suc n))) i
from_here p i n is = rw is (0, omega arith, refl)

-- a number that passes is in the list
pub filter-has : (p : ℕ → Bool) (i n : ℕ) → i < n → p i ≡ true → Contains (filter p (range_with_len 0 n)) i
filter-has p i n lt is =
    let some : n - i ≡ suc (n - i - 1) = omega arith in
    rw (filter-split p i n (omega arith), some) (Contains-append_right (filter p (range_with_len 0 i)) (filter p (range_with_len i (suc (n - i - 1)))) i (from_here p i (n - i - 1) is))

-- the list rises
pub filter-rises : (p : ℕ → Bool) (n : ℕ) → IsStrictlyIncreasing (filter p (range_with_len 0 n))
filter-rises p n =
    IsStrictlyIncreasing-filter p (range_with_len 0 n)
    (λ k lt.
    let len = length-range_with_len 0 n in
    omega (arith, get_or-range_with_len 0 n k 0 (omega arith), get_or-range_with_len 0 n (k + 1) 0 (omega arith)))

-- if none passes, the list is empty
pub filter-none : (p : ℕ → Bool) (a n : ℕ) → ((i : ℕ) → p i ≡ false) → filter p (range_with_len a n) ≡ []
filter-none p a zero fails = refl
filter-none p a (suc n) fails = rw (fails a) (filter-none p (a + 1) n fails)

-- ---- one more number that passes

-- a number below all of them goes to the front
with_zone-front : (p : ℕ → Bool) (z a n : ℕ) → z < a → with_zone z (filter p (range_with_len a n)) ≡ z ∷ filter p (range_with_len a n)
with_zone-front p z a zero lt = refl
with_zone-front p z a (suc n) lt = elim (cases_Bool (p a)) [
  | inl is ↦ rw (is, lt-ltb z a lt) refl
  | inr not ↦ rw not (with_zone-front p z (a + 1) n (omega arith))
]

-- tests that agree from a place on pass the same numbers
filter-agree_from : (p q : ℕ → Bool) (z a n : ℕ) → z < a → ((y : ℕ) → (y ≡ z → ⊥) → q y ≡ p y) → filter q (range_with_len a n) ≡ filter p (range_with_len a n)
filter-agree_from p q z a zero lt other = refl
filter-agree_from p q z a (suc n) lt other =
    let e : q a ≡ p a = other a (λ same. omega arith) in
    rw (e, filter-agree_from p q z (a + 1) n (omega arith) other) refl

-- a list that begins with the number stays as it is
with_zone-here : (z : ℕ) (ys : List ℕ) → with_zone z (z ∷ ys) ≡ z ∷ ys
with_zone-here z ys = grind (arith, nat_tests)

-- in a list that begins with a lower number, it goes after that
with_zone-after : (z a : ℕ) (ys : List ℕ) → a < z → with_zone z (a ∷ ys) ≡ a ∷ with_zone z ys
with_zone-after z a ys lt = grind (arith, nat_tests)

at_place : (p q : ℕ → Bool) (z n : ℕ) → q z ≡ true → ((y : ℕ) → (y ≡ z → ⊥) → q y ≡ p y) → filter q (range_with_len z (suc n)) ≡ with_zone z (filter p (range_with_len z (suc n)))
at_place p q z n is other =
    let rest = filter-agree_from p q z (z + 1) n (omega arith) other in
    elim (cases_Bool (p z)) [
      | inl was ↦ rw (is, was, rest) (sym (with_zone-here z (filter p (range_with_len (z + 1) n))))
      | inr wasnt ↦ rw (is, wasnt, rest) (sym (with_zone-front p z (z + 1) n (omega arith)))
    ]

-- If one more number passes, it is put into the list of those that did.
pub filter-with_zone : (p q : ℕ → Bool) (z a n : ℕ) → q z ≡ true → ((y : ℕ) → (y ≡ z → ⊥) → q y ≡ p y) → a ≤ z → z < a + n → filter q (range_with_len a n) ≡ with_zone z (filter p (range_with_len a n))
filter-with_zone p q z a zero is other le lt = absurd (omega arith)
filter-with_zone p q z a (suc n) is other le lt = elim (cases_eq a z) [
  | inl same ↦ rw same (at_place p q z n is other)
  | inr before ↦
      let below : a < z = omega arith in
      let e : q a ≡ p a = other a (λ same. omega arith) in
      let rest = filter-with_zone p q z (a + 1) n is other (omega arith) (omega arith) in
      elim (cases_Bool (p a)) [
        | inl was ↦ rw (e, was, rest) (sym (with_zone-after z a (filter p (range_with_len (a + 1) n)) below))
        | inr wasnt ↦ rw (e, wasnt) rest
      ]
]
