-- Cutting texts into lines.
use Rattle.std.proofs.Common.{◌≡◌, ℕ, zero, suc, ◌-◌, ◌<◌, ◌≤◌, Bool, true, false, cond, List, [], ◌∷◌, ◌++◌, length, get_or, take, drop, Some, None, refl, ap, ◌∙◌, inl, inr, arith}
use Rattle.std.proofs.lemmas.Bool.{eqb-true, cases_Bool}
use Rattle.std.proofs.lemmas.Bool.Decides.{nat_tests}
use Rattle.std.proofs.lemmas.List.{length-append, take_at}
use Rattle.std.proofs.Math.Seq.{get_or-append_seam}
use Rattle.std.specs.Prelude.{◌==◌}
use Rattle.std.specs.List.{concat, onto_first}
use Rattle.text_lines.specs.Texts.{line_feed}
use Rattle.text_lines.specs.Cuts.{first_line, lines_in, unended}

is_feed : (byte : ℕ) → byte ≡ line_feed → (byte == line_feed) ≡ true
is_feed byte is = grind (arith, nat_tests)

no_feed : (byte : ℕ) → (byte ≡ line_feed → ⊥) → (byte == line_feed) ≡ false
no_feed byte other = grind (arith, nat_tests)

-- ---- the first line

-- the first line ends at the first line feed
pub first_line-at : (text : List ℕ) (at : ℕ) → at < length text → get_or text at 0 ≡ line_feed → ((k : ℕ) → k < at → get_or text k 0 ≡ line_feed → ⊥) → take (suc at) text ≡ first_line text
first_line-at [] at within is before = absurd (omega arith)
first_line-at (byte ∷ text) zero within is before = rw (is_feed byte is) refl
first_line-at (byte ∷ text) (suc at) within is before =
    rw (no_feed byte (before 0 (omega arith))) (ap (λ (rest : List ℕ). byte ∷ rest) (first_line-at text at (omega arith) is (λ k lt. before (suc k) (omega arith))))

-- or is the whole text, if there is none
pub first_line-all : (text : List ℕ) → ((k : ℕ) → k < length text → get_or text k 0 ≡ line_feed → ⊥) → text ≡ first_line text
first_line-all [] none = refl
first_line-all (byte ∷ text) none = rw (no_feed byte (none 0 (omega arith))) (ap (λ (rest : List ℕ). byte ∷ rest) (first_line-all text (λ k lt. none (suc k) (omega arith))))

-- the first line of a text that isn't empty isn't empty
pub first_line-some : (text : List ℕ) → 0 < length text → 0 < length (first_line text)
first_line-some [] some = absurd (omega arith)
first_line-some (byte ∷ text) some = by_test (byte == line_feed)
  where
    by_test : (b : Bool) → 0 < length (cond b (byte ∷ []) (byte ∷ first_line text))
    by_test true = omega arith
    by_test false = omega arith

pub first_line-within : (text : List ℕ) → length (first_line text) ≤ length text
first_line-within [] = omega arith
first_line-within (byte ∷ text) = by_test (first_line-within text) (byte == line_feed)
  where
    by_test : length (first_line text) ≤ length text → (b : Bool) → length (cond b (byte ∷ []) (byte ∷ first_line text)) ≤ length (byte ∷ text)
    by_test rest true = omega arith
    by_test rest false = omega arith

-- ---- all lines

-- the other lines are those of the text after the first
pub lines_in-step : (text : List ℕ) → 0 < length text → lines_in text ≡ first_line text ∷ lines_in (drop (length (first_line text)) text)
lines_in-step [] some = absurd (omega arith)
lines_in-step (byte ∷ []) some = by_test (byte == line_feed)
  where
    by_test : (b : Bool) → cond b ((byte ∷ []) ∷ []) ((byte ∷ []) ∷ []) ≡ cond b (byte ∷ []) (byte ∷ []) ∷ lines_in (drop (length (cond b (byte ∷ []) (byte ∷ []))) (byte ∷ []))
    by_test true = refl
    by_test false = refl
lines_in-step (byte ∷ next ∷ text) some = by_test (lines_in-step (next ∷ text) (omega arith)) (byte == line_feed)
  where
    by_test : lines_in (next ∷ text) ≡ first_line (next ∷ text) ∷ lines_in (drop (length (first_line (next ∷ text))) (next ∷ text))
        → (b : Bool) → cond b ((byte ∷ []) ∷ lines_in (next ∷ text)) (onto_first byte (lines_in (next ∷ text))) ≡ cond b (byte ∷ []) (byte ∷ first_line (next ∷ text)) ∷ lines_in (drop (length (cond b (byte ∷ []) (byte ∷ first_line (next ∷ text)))) (byte ∷ next ∷ text))
    by_test rest true = refl
    by_test rest false = ap (onto_first byte) rest

-- a text is its lines, one after another
pub concat-lines_in : (text : List ℕ) → concat (lines_in text) ≡ text
concat-lines_in [] = refl
concat-lines_in (byte ∷ text) = by_test (concat-lines_in text) (byte == line_feed)
  where
    onto : (lines : List (List ℕ)) → concat (onto_first byte lines) ≡ byte ∷ concat lines
    onto [] = refl
    onto (line ∷ lines) = refl

    by_test : concat (lines_in text) ≡ text → (b : Bool) → concat (cond b ((byte ∷ []) ∷ lines_in text) (onto_first byte (lines_in text))) ≡ byte ∷ text
    by_test whole true = ap (λ (rest : List ℕ). byte ∷ rest) whole
    by_test whole false = onto (lines_in text) ∙ ap (λ (rest : List ℕ). byte ∷ rest) whole

-- no line feed stands in the bytes
abbrev pub HasNoFeed : List ℕ → Type 0
HasNoFeed [] = Unit {0}
HasNoFeed (byte ∷ text) = ((byte == line_feed) ≡ false) × HasNoFeed text

-- a line and the text after it
pub lines_in-more : (line rest : List ℕ) → HasNoFeed line → lines_in (line ++ line_feed ∷ rest) ≡ (line ++ line_feed ∷ []) ∷ lines_in rest
lines_in-more [] rest none = refl
lines_in-more (byte ∷ line) rest none = rw (none.0) (ap (onto_first byte) (lines_in-more line rest none.1))

-- ---- the end of a line

pub unended-line : (line : List ℕ) → unended (line ++ line_feed ∷ []) ≡ Some line
unended-line line =
    let long : length (line ++ line_feed ∷ []) - 1 ≡ length line = omega (arith, length-append line (line_feed ∷ [])) in
    rw (long, get_or-append_seam line line_feed [] 0) (ap (λ (front : List ℕ). Some front) (take_at line (line_feed ∷ []) (length line) refl))

-- a line that ends with a line feed is the text before it, and the line feed
pub line-unended : (line text : List ℕ) → unended line ≡ Some text → line ≡ text ++ line_feed ∷ []
line-unended line text is = elim (cases_Bool (get_or line (length line - 1) 0 == line_feed)) [
  | inl ends ↦
      let front : take (length line - 1) line ≡ text = let e : Some (take (length line - 1) line) ≡ Some text = rw ends at is in cc in
      let last : get_or line (length line - 1) 0 ≡ line_feed = eqb-true (get_or line (length line - 1) 0) line_feed ends in
      last_of line (length line - 1) (some line last) last ∙ ap (λ (xs : List ℕ). xs ++ line_feed ∷ []) front
  | inr other ↦ let e : None ≡ Some text = rw other at is in absurd cc
]
  where
    some : (line : List ℕ) → get_or line (length line - 1) 0 ≡ line_feed → length line ≡ suc (length line - 1)
    some [] is = absurd (omega arith)
    some (byte ∷ line) is = omega arith

    last_of : (line : List ℕ) (n : ℕ) → length line ≡ suc n → get_or line n 0 ≡ line_feed → line ≡ take n line ++ line_feed ∷ []
    last_of [] n long is = absurd (omega arith)
    last_of (byte ∷ []) zero long is = ap (λ b. b ∷ []) is
    last_of (byte ∷ []) (suc n) long is = absurd (omega arith)
    last_of (byte ∷ next ∷ line) zero long is = absurd (omega arith)
    last_of (byte ∷ next ∷ line) (suc n) long is = ap (λ (xs : List ℕ). byte ∷ xs) (last_of (next ∷ line) n (omega arith) is)
