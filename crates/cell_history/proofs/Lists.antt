-- Lists that have one element for each number of a range.
use Rattle.std.proofs.Common.{◌≡◌, ◌≢◌, ℕ, zero, suc, ◌+◌, ◌<◌, ◌≤◌, Bool, true, false, cond, List, [], ◌∷◌, Some, length, map, set, get_or, refl, sym, ap, ◌∙◌, arith, inl, inr, length-set, get_or-set_same, get_or-set_other}
use Rattle.std.specs.Prelude.{find, ◌==◌, ◌⊎◌}
use Rattle.std.specs.List.{range_with_len, list_any}
use Rattle.std.proofs.lemmas.List.FromFn.{length-map-range_with_len, get_or-map-range_with_len}
use Rattle.std.proofs.lemmas.Bool.{cases_Bool, eqb-true, eq-eqb, ne_eqb}

-- two lists that agree at each place
pub same_list : {A : Type 0} (xs ys : List A) (d : A) → length xs ≡ length ys → ((i : ℕ) → i < length ys → get_or xs i d ≡ get_or ys i d) → xs ≡ ys
same_list [] [] d len at = refl
same_list [] (y ∷ ys) d len at = absurd (cc len)
same_list (x ∷ xs) [] d len at = absurd (cc len)
same_list {A} (x ∷ xs) (y ∷ ys) d len at =
    let head : x ≡ y = at 0 (omega arith) in
    let tail : xs ≡ ys = same_list xs ys d (omega arith) (λ i lt. at (suc i) (omega arith)) in
    cc

-- functions that agree on the range
pub map-range_same : {A : Type 0} (f k : ℕ → A) (first n : ℕ) → ((x : ℕ) → first ≤ x → x < first + n → f x ≡ k x) → map f (range_with_len first n) ≡ map k (range_with_len first n)
map-range_same f k first zero same = refl
map-range_same {A} f k first (suc n) same =
    let head : f first ≡ k first = same first (omega arith) (omega arith) in
    let tail = map-range_same f k (first + 1) n (λ x low high. same x (omega arith) (omega arith)) in
    rw (head, tail) refl

-- one element changed
pub set-map-range : {A : Type 0} (f k : ℕ → A) (first n i : ℕ) → i < n → ((x : ℕ) → x ≢ first + i → k x ≡ f x) → set (map f (range_with_len first n)) i (k (first + i)) ≡ map k (range_with_len first n)
set-map-range {A} f k first n i lt other =
    let d : A = f 0 in
    let old = map f (range_with_len first n) in
    let new = map k (range_with_len first n) in
    let old_len : length old ≡ n = length-map-range_with_len f first n in
    let new_len : length new ≡ n = length-map-range_with_len k first n in
    same_list (set old i (k (first + i))) new d (length-set old i (k (first + i)) ∙ old_len ∙ sym new_len)
    (λ j below. by_place j (omega (arith, below, new_len)) (cases_Bool (j == i)))
  where
    by_place : (j : ℕ) → j < n → ((j == i) ≡ true) ⊎ ((j == i) ≡ false) → get_or (set (map f (range_with_len first n)) i (k (first + i))) j (f 0) ≡ get_or (map k (range_with_len first n)) j (f 0)
    by_place j below (inl e) =
        let is : j ≡ i = eqb-true _ _ e in
        let within : i < length (map f (range_with_len first n)) = omega (arith, length-map-range_with_len f first n) in
        rw is (get_or-set_same (map f (range_with_len first n)) i (k (first + i)) (f 0) within ∙ sym (get_or-map-range_with_len k first n i (first + i) (f 0) lt refl))
    by_place j below (inr e) =
        let apart : j ≢ i = λ is. absurd (cc (eq-eqb j i is, e)) in
        let away : first + j ≢ first + i = λ is. let same : j ≡ i = omega arith in apart same in
        get_or-set_other (map f (range_with_len first n)) i j (k (first + i)) (f 0) apart
        ∙ get_or-map-range_with_len f first n j (first + j) (f 0) below refl
        ∙ sym (other (first + j) away)
        ∙ sym (get_or-map-range_with_len k first n j (first + j) (f 0) below refl)

-- a test of shifted numbers
pub list_any-shift : (test : ℕ → Bool) (first from n : ℕ) → list_any (λ i. test (first + i)) (range_with_len from n) ≡ list_any test (range_with_len (first + from) n)
list_any-shift test first from zero = refl
list_any-shift test first from (suc n) =
    let next : first + (from + 1) ≡ first + from + 1 = omega arith in
    let rest = list_any-shift test first (from + 1) n ∙ ap (λ (k : ℕ). list_any test (range_with_len k n)) next in
    rw rest refl

-- tests that agree on the range
pub list_any-range_same : (f k : ℕ → Bool) (first n : ℕ) → ((x : ℕ) → first ≤ x → x < first + n → f x ≡ k x) → list_any f (range_with_len first n) ≡ list_any k (range_with_len first n)
list_any-range_same f k first zero same = refl
list_any-range_same f k first (suc n) same =
    let head : f first ≡ k first = same first (omega arith) (omega arith) in
    let tail = list_any-range_same f k (first + 1) n (λ x low high. same x (omega arith) (omega arith)) in
    rw (head, tail) refl

pub find-range_same : (f k : ℕ → Bool) (first n : ℕ) → ((x : ℕ) → first ≤ x → x < first + n → f x ≡ k x) → find f (range_with_len first n) ≡ find k (range_with_len first n)
find-range_same f k first zero same = refl
find-range_same f k first (suc n) same =
    let head : f first ≡ k first = same first (omega arith) (omega arith) in
    let tail = find-range_same f k (first + 1) n (λ x low high. same x (omega arith) (omega arith)) in
    rw (head, tail) refl

-- what is found passes, and is one of the range
pub find-range : (test : ℕ → Bool) (first n x : ℕ) → find test (range_with_len first n) ≡ Some x → (test x ≡ true) × (first ≤ x) × (x < first + n)
find-range test first zero x e = absurd cc
find-range test first (suc n) x e = by_first (test first) refl e (find-range test (first + 1) n x)
  where
    by_first : (b : Bool) → test first ≡ b → cond b (Some first) (find test (range_with_len (first + 1) n)) ≡ Some x
        → (find test (range_with_len (first + 1) n) ≡ Some x → (test x ≡ true) × (first + 1 ≤ x) × (x < first + 1 + n)) → (test x ≡ true) × (first ≤ x) × (x < first + suc n)
    by_first true is e k = let same : first ≡ x = cc in (ap test (sym same) ∙ is, omega arith, omega arith)
    by_first false is e k = let found = k e in (found.0, omega arith, omega arith)

-- two elements changed
pub set-two-map-range : {A : Type 0} (f k : ℕ → A) (first n i j : ℕ) → i < n → j < n → ((x : ℕ) → x ≢ first + i → x ≢ first + j → k x ≡ f x)
    → set (set (map f (range_with_len first n)) i (k (first + i))) j (k (first + j)) ≡ map k (range_with_len first n)
set-two-map-range {A} f k first n i j i_lt j_lt other =
    let half : ℕ → A = λ x. cond (x == first + i) (k x) (f x) in
    let here : half (first + i) ≡ k (first + i) = rw (eq-eqb (first + i) (first + i) refl) refl in
    let one : set (map f (range_with_len first n)) i (half (first + i)) ≡ map half (range_with_len first n) = set-map-range f half first n i i_lt (λ x apart. rw (ne_eqb x (first + i) apart) refl) in
    ap (λ (y : A). set (set (map f (range_with_len first n)) i y) j (k (first + j))) (sym here)
    ∙ ap (λ (ys : List A). set ys j (k (first + j))) one
    ∙ set-map-range half k first n j j_lt (λ x apart. by_first x apart (cases_Bool (x == first + i)))
  where
    by_first : (x : ℕ) → x ≢ first + j → ((x == first + i) ≡ true) ⊎ ((x == first + i) ≡ false) → k x ≡ cond (x == first + i) (k x) (f x)
    by_first x apart (inl e) = rw e refl
    by_first x apart (inr e) = let off : x ≢ first + i = λ is. absurd (cc (eq-eqb x (first + i) is, e)) in other x off apart ∙ rw e refl
