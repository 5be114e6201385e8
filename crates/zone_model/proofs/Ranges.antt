-- Sums and counts over a range of numbers.
use Rattle.std.proofs.Common.{◌≡◌, ◌≢◌, ℕ, zero, suc, ◌+◌, ◌*◌, ◌<◌, ◌≤◌, Bool, true, false, refl, ap, ◌∙◌, arith, inl, inr}
use Rattle.std.specs.Prelude.{◌==◌, ◌&&◌, ◌⊎◌, not, count_by}
use Rattle.std.specs.List.{sum_by, range_with_len}
use Rattle.std.proofs.lemmas.List.Sums.{sum_by-cons, count_by-le-length}
use Rattle.std.proofs.lemmas.List.FromFn.{length-range_with_len}
use Rattle.std.proofs.lemmas.Bool.{cases_eq, cases_lt, eq-eqb, ne_eqb}
use Rattle.zone_limits.specs.Resources.{more, fewer}
use Rattle.drive_rules.specs.Shown.{one}

-- ---- sums

-- the sum over n numbers, starting with a
abbrev sum_of : (ℕ → ℕ) → ℕ → ℕ → ℕ
sum_of f a n = sum_by f (range_with_len a n)

step : (f : ℕ → ℕ) (a n : ℕ) → sum_of f a (suc n) ≡ f a + sum_of f (a + 1) n
step f a n = sum_by-cons f a (range_with_len (a + 1) n)

sum_of-add : (f g : ℕ → ℕ) (a n : ℕ) → sum_of (λ x. f x + g x) a n ≡ sum_of f a n + sum_of g a n
sum_of-add f g a zero = refl
sum_of-add f g a (suc n) = omega (arith, step f a n, step g a n, step (λ x. f x + g x) a n, sum_of-add f g (a + 1) n)

sum_of-le : (f g : ℕ → ℕ) (a n : ℕ) → ((x : ℕ) → a ≤ x → x < a + n → f x ≤ g x) → sum_of f a n ≤ sum_of g a n
sum_of-le f g a zero e = omega arith
sum_of-le f g a (suc n) e =
    let rest = sum_of-le f g (a + 1) n (λ x low high. e x (omega arith) (omega arith)) in
    let here = e a (omega arith) (omega arith) in
    omega (arith, step f a n, step g a n, rest, here)

-- if one function is at most another except at one number, so is its sum, apart from the values there
sum_of-le_at : (f g : ℕ → ℕ) (z a n : ℕ) → a ≤ z → z < a + n → ((x : ℕ) → x ≢ z → f x ≤ g x) → sum_of f a n + g z ≤ sum_of g a n + f z
sum_of-le_at f g z a zero low high e = absurd (omega arith)
sum_of-le_at f g z a (suc n) low high e = elim (cases_eq a z) [
  | inl at ↦
      let rest = sum_of-le f g (a + 1) n (λ x from to. e x (omega arith)) in
      omega (arith, step f a n, step g a n, rest, ap f at, ap g at)
  | inr other ↦
      let rest = sum_of-le_at f g z (a + 1) n (omega arith) (omega arith) e in
      omega (arith, step f a n, step g a n, rest, e a other)
]

sum_of-same : (k a n : ℕ) → sum_of (λ x. k) a n ≡ n * k
sum_of-same k a zero = omega arith
sum_of-same k a (suc n) = omega (arith, step (λ x. k) a n, sum_of-same k (a + 1) n)

-- ---- counts

-- how many of the numbers below n pass the test
abbrev pub count_below : (ℕ → Bool) → ℕ → ℕ
count_below test n = count_by test (range_with_len 0 n)

pub count-le : (f g : ℕ → Bool) (n : ℕ) → ((x : ℕ) → x < n → one (f x) ≤ one (g x)) → count_below f n ≤ count_below g n
count-le f g n e = sum_of-le (λ x. one (f x)) (λ x. one (g x)) 0 n (λ x low high. e x (omega arith))

pub count-same : (f g : ℕ → Bool) (n : ℕ) → ((x : ℕ) → x < n → f x ≡ g x) → count_below f n ≡ count_below g n
count-same f g n e =
    let le = count-le f g n (λ x lt. let same = ap one (e x lt) in omega arith) in
    let ge = count-le g f n (λ x lt. let same = ap one (e x lt) in omega arith) in
    omega arith

-- if what passes one test passes one of two others, its count is at most their sum
pub count-le_both : (f g k : ℕ → Bool) (n : ℕ) → ((x : ℕ) → x < n → one (f x) ≤ one (g x) + one (k x)) → count_below f n ≤ count_below g n + count_below k n
count-le_both f g k n e =
    let both = sum_of-le (λ x. one (f x)) (λ x. one (g x) + one (k x)) 0 n (λ x low high. e x (omega arith)) in
    omega (arith, both, sum_of-add (λ x. one (g x)) (λ x. one (k x)) 0 n)

pub count-le_all : (f : ℕ → Bool) (n : ℕ) → count_below f n ≤ n
count-le_all f n = omega (arith, count_by-le-length f (range_with_len 0 n), length-range_with_len 0 n)

pub count-none : (n : ℕ) → count_below (λ x. false) n ≡ 0
count-none n = omega (arith, sum_of-same 0 0 n)

-- ---- one number

one-le : (b : Bool) → one b ≤ 1
one-le true = omega arith
one-le false = omega arith

-- a count is at least 1 if some number passes
pub count-used : (f : ℕ → Bool) (z n : ℕ) → z < n → f z ≡ true → 1 ≤ count_below f n
count-used f z n lt on =
    let le = sum_of-le_at (λ x. 0) (λ x. one (f x)) z 0 n (omega arith) (omega arith) (λ x other. omega arith) in
    omega (arith, le, ap one on)

-- and less than n if some number doesn't
pub count-unused : (f : ℕ → Bool) (z n : ℕ) → z < n → f z ≡ false → count_below f n < n
count-unused f z n lt off =
    let le = sum_of-le_at (λ x. one (f x)) (λ x. 1) z 0 n (omega arith) (omega arith) (λ x other. one-le (f x)) in
    omega (arith, le, sum_of-same 1 0 n, ap one off)

-- If what passes one test passes another, except at one number, at most one more passes, and none if d is 0.
pub count-le_but : (f g : ℕ → Bool) (z d n : ℕ) → ((x : ℕ) → x ≢ z → one (f x) ≤ one (g x)) → one (f z) ≤ one (g z) + d → count_below f n ≤ count_below g n + d
count-le_but f g z d n e here = elim (cases_lt z n) [
  | inl lt ↦ let le = sum_of-le_at (λ x. one (f x)) (λ x. one (g x)) z 0 n (omega arith) (omega arith) e in omega arith
  | inr past ↦ let le = count-le f g n (λ x lt. e x (omega arith)) in omega arith
]

-- If only the test of z changes, the count changes by just that.
pub count-set : (f g : ℕ → Bool) (z n : ℕ) → z < n → ((x : ℕ) → x ≢ z → f x ≡ g x) → count_below f n ≡ more (f z) (fewer (g z) (count_below g n))
count-set f g z n lt e =
    let le = sum_of-le_at (λ x. one (f x)) (λ x. one (g x)) z 0 n (omega arith) (omega arith) (λ x other. let same = ap one (e x other) in omega arith) in
    let ge = sum_of-le_at (λ x. one (g x)) (λ x. one (f x)) z 0 n (omega arith) (omega arith) (λ x other. let same = ap one (e x other) in omega arith) in
    moved (count_below g n) (count_below f n) (g z) (f z) (omega arith) (count-used g z n lt)
  where
    moved : (old new : ℕ) (before after : Bool) → new + one before ≡ old + one after → (before ≡ true → 1 ≤ old) → new ≡ more after (fewer before old)
    moved old new true true e some = let have = some refl in omega arith
    moved old new true false e some = let have = some refl in omega arith
    moved old new false true e some = omega arith
    moved old new false false e some = omega arith

-- If one number that passed doesn't now, and only one other may pass now, no more pass.
pub count-le_swap : (f g : ℕ → Bool) (y z n : ℕ) → y < n → g y ≡ true → f y ≡ false → ((x : ℕ) → x ≢ z → one (f x) ≤ one (g x)) → count_below f n ≤ count_below g n
count-le_swap f g y z n lt was gone e =
    let le = count-le_but f but z 1 n (λ x other. off_z x other (cases_eq x y)) (omega (arith, one-le (f z))) in
    let fewer_by = count-set but g y n lt (λ x other. rw (ne_eqb x y other) (and_true (g x))) in
    let none : but y ≡ false = rw (eq-eqb y y refl, was) refl in
    omega (arith, le, rw (none, was) at fewer_by, count-used g y n lt was)
  where
    but : ℕ → Bool
    but x = g x && not (x == y)

    and_true : (b : Bool) → (b && true) ≡ b
    and_true true = refl
    and_true false = refl

    off_z : (x : ℕ) → x ≢ z → (x ≡ y) ⊎ (x ≡ y → ⊥) → one (f x) ≤ one (but x)
    off_z x other (inl here) = let none : one (f x) ≡ 0 = ap (λ (k : ℕ). one (f k)) here ∙ ap one gone in omega arith
    off_z x other (inr there) = let same : but x ≡ g x = rw (ne_eqb x y there) (and_true (g x)) in omega (arith, e x other, ap one same)
