-- Tests and pieces over the numbers of a range.
use Rattle.std.proofs.Common.{◌≡◌, ℕ, zero, suc, ◌+◌, ◌-◌, ◌<◌, ◌≤◌, Bool, true, false, List, refl, sym, ap, ◌∙◌, arith, add-zero}
use Rattle.std.specs.Prelude.{◌||◌}
use Rattle.std.specs.List.{list_any, range_with_len, flat_map}
use Rattle.std.proofs.lemmas.Bool.{or_right}

any_at : (test : ℕ → Bool) (from n k : ℕ) → k < n → test (from + k) ≡ true → list_any test (range_with_len from n) ≡ true
any_at test from zero k lt e = absurd (omega arith)
any_at test from (suc n) zero lt e = let here : test from ≡ true = ap test (sym (add-zero from)) ∙ e in rw here refl
any_at test from (suc n) (suc k) lt e = let there : test (from + 1 + k) ≡ true = ap test (omega arith) ∙ e in or_right _ _ (any_at test (from + 1) n k (omega arith) there)

-- one number of the range passes
pub any-found : (test : ℕ → Bool) (from n place : ℕ) → from ≤ place → place < from + n → test place ≡ true → list_any test (range_with_len from n) ≡ true
any-found test from n place low high e = any_at test from n (place - from) (omega arith) (ap test (omega arith) ∙ e)

neither : (b c : Bool) → (b || c) ≡ false → (b ≡ false) × (c ≡ false)
neither true c e = absurd cc
neither false c e = (refl, e)

none_after : (test : ℕ → Bool) (from n : ℕ) → list_any test (range_with_len from n) ≡ false → test (from + n) ≡ false → list_any test (range_with_len from (suc n)) ≡ false
none_after test from zero none e = let here : test from ≡ false = ap test (sym (add-zero from)) ∙ e in rw here refl
none_after test from (suc n) none e =
    let parts = neither (test from) (list_any test (range_with_len (from + 1) n)) none in
    let last : test (from + 1 + n) ≡ false = ap test (omega arith) ∙ e in
    rw parts.0 (none_after test (from + 1) n parts.1 last)

-- none so far passes, and neither does the next
pub any-none : (test : ℕ → Bool) (from place : ℕ) → from ≤ place → list_any test (range_with_len from (place - from)) ≡ false → test place ≡ false → list_any test (range_with_len from (place + 1 - from)) ≡ false
any-none test from place low none e =
    let next : place + 1 - from ≡ suc (place - from) = omega arith in
    rw next (none_after test from (place - from) none (ap test (omega arith) ∙ e))

-- pieces that agree on the range
pub pieces-same : (f k : ℕ → List ℕ) (first n : ℕ) → ((x : ℕ) → first ≤ x → x < first + n → f x ≡ k x) → flat_map f (range_with_len first n) ≡ flat_map k (range_with_len first n)
pieces-same f k first zero same = refl
pieces-same f k first (suc n) same = rw (same first (omega arith) (omega arith), pieces-same f k (first + 1) n (λ x low high. same x (omega arith) (omega arith))) refl
