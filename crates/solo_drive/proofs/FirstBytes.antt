-- The start of a log page, and zeros after the page.
use Rattle.std.proofs.Common.{◌≡◌, ℕ, suc, ◌+◌, ◌-◌, List, [], ◌∷◌, ◌++◌, length, take, drop, min, sym, ap, ◌∙◌, arith, inl, inr, append-nil, length-append}
use Rattle.std.specs.Prelude.{replicate}
use Rattle.std.proofs.lemmas.Bool.{cases_lt}
use Rattle.std.proofs.lemmas.List.{length-replicate, length-take-le, take_all, take-append-le, take-replicate, drop-replicate, drop_all}
use Rattle.drive_rules.specs.Reports.{first_bytes}

pub length-first_bytes : (n : ℕ) (bytes : List ℕ) → length (first_bytes n bytes) ≡ n
length-first_bytes n bytes = length-take-le n (bytes ++ replicate n 0) (omega (arith, length-append bytes (replicate n 0), length-replicate {A = ℕ} n 0))

take-append_past : (xs ys : List ℕ) (n : ℕ) → take (length xs + n) (xs ++ ys) ≡ xs ++ take n ys
take-append_past [] ys n =
    let e : 0 + n ≡ n = omega arith in
    ap (λ (k : ℕ). take k ys) e
take-append_past (x ∷ xs) ys n =
    let e : suc (length xs) + n ≡ suc (length xs + n) = omega arith in
    ap (λ (k : ℕ). take k (x ∷ (xs ++ ys))) e ∙ ap (λ (zs : List ℕ). x ∷ zs) (take-append_past xs ys n)

-- the first `given` bytes of a page of this length, followed by zeros
pub page-front : (page : List ℕ) (size len given : ℕ) → length page ≡ size → given ≡ min len size → take given page ++ drop given (replicate len 0) ≡ first_bytes len page
page-front page size len given whole is = elim (cases_lt len size) [
  | inl short ↦
      let at : given ≡ len = omega (arith, is) in
      ap (λ (k : ℕ). take k page ++ drop k (replicate len 0)) at
      ∙ ap (λ (xs : List ℕ). take len page ++ xs) (drop_all len (replicate len 0) (omega (arith, length-replicate {A = ℕ} len 0)))
      ∙ append-nil (take len page)
      ∙ sym (take-append-le len page (replicate len 0) (omega (arith, whole)))
  | inr long ↦
      let at : given ≡ size = omega (arith, is) in
      let rest = len - size in
      let more : len ≡ length page + rest = omega (arith, whole) in
      ap (λ (k : ℕ). take k page ++ drop k (replicate len 0)) at
      ∙ ap (λ (xs : List ℕ). xs ++ drop size (replicate len 0)) (take_all size page (omega (arith, whole)))
      ∙ ap (λ (xs : List ℕ). page ++ xs) (drop-replicate {X = ℕ} size len 0 ∙ sym (take-replicate rest len 0 (omega arith)))
      ∙ sym (ap (λ (k : ℕ). take k (page ++ replicate len 0)) more ∙ take-append_past page (replicate len 0) rest)
]
