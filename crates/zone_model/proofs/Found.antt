-- The results of a search or a condition.
use Rattle.std.proofs.Common.{◌≡◌, ℕ, zero, suc, ◌+◌, ◌<◌, ◌≤◌, Bool, true, false, cond, Option, Some, None, refl, sym, ap, ◌∙◌, arith}
use Rattle.std.specs.Prelude.{find}
use Rattle.std.specs.List.{range_with_len}

pub some_if : {A : Type 0} (b : Bool) (a m : A) → cond b (Some a) None ≡ Some m → (b ≡ true) × (a ≡ m)
some_if true a m e = (refl, cc)
some_if false a m e = absurd cc

pub some_of : {A : Type 0} (b : Bool) (o : Option A) (m : A) → cond b o None ≡ Some m → (b ≡ true) × (o ≡ Some m)
some_of true o m e = (refl, e)
some_of false o m e = absurd cc

-- the number found passes the test and is in the range
pub find-range : (test : ℕ → Bool) (from n x : ℕ) → find test (range_with_len from n) ≡ Some x → (test x ≡ true) × (from ≤ x) × (x < from + n)
find-range test from zero x e = absurd cc
find-range test from (suc n) x e = by_first (test from) refl e (find-range test (from + 1) n x)
  where
    by_first : (b : Bool) → test from ≡ b → cond b (Some from) (find test (range_with_len (from + 1) n)) ≡ Some x
        → (find test (range_with_len (from + 1) n) ≡ Some x → (test x ≡ true) × (from + 1 ≤ x) × (x < from + 1 + n)) → (test x ≡ true) × (from ≤ x) × (x < from + suc n)
    by_first true is e k = let same : from ≡ x = cc in (ap test (sym same) ∙ is, omega arith, omega arith)
    by_first false is e k = let found = k e in (found.0, omega arith, omega arith)
