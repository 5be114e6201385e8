-- How many bits of a word are set.
use Rattle.std.proofs.Common.{◌≡◌, ℕ, zero, suc, ◌+◌, ◌*◌, ◌-◌, ◌/◌, ◌%◌, ◌^◌, ◌<◌, ◌≤◌, min, Bool, cond, eqb, List, ◌∷◌, ◌++◌, slice_index, refl, sym, ap, ◌∙◌, inl, inr, arith}
use Rattle.std.specs.Prelude.{count_by}
use Rattle.std.specs.List.{range_with_len}
use Rattle.std.specs.Int.{bit_at}
use Rattle.std.specs.Int.RustNames.{bit_and, count_ones}
use Rattle.std.proofs.lemmas.Nat.{ones_cat, ones_le_self, zero_from_ones, mod-pow-add, shr-shr, pow_pos}
use Rattle.std.proofs.lemmas.Nat.Bits.{and_high, bit_at-lt}
use Rattle.std.proofs.lemmas.List.Sums.{sum_by-cons, sum_by-append, count_by-le-length}
use Rattle.std.proofs.lemmas.List.FromFn.{length-range_with_len}
use Rattle.std.proofs.lemmas.Bool.{cases_eq}
use Rattle.written_blocks.specs.Marks.{is_set}
use Rattle.written_blocks.proofs.Loops.{CountsTo}

-- `m` numbers from `a` on, followed by the next `n`
pub range_with_len-append : (a m n : ℕ) → range_with_len a m ++ range_with_len (a + m) n ≡ range_with_len a (m + n)
range_with_len-append a zero n =
    let e : a + 0 ≡ a = omega arith in
    let f : 0 + n ≡ n = omega arith in
    rw (e, f) refl
range_with_len-append a (suc m) n =
    let e : suc m + n ≡ suc (m + n) = omega arith in
    let f : a + suc m ≡ a + 1 + m = omega arith in
    rw (e, f) (ap (λ (xs : List ℕ). a ∷ xs) (range_with_len-append (a + 1) m n))

pub count_by-range_with_len-append : (p : ℕ → Bool) (a m n : ℕ) → count_by p (range_with_len a (m + n)) ≡ count_by p (range_with_len a m) + count_by p (range_with_len (a + m) n)
count_by-range_with_len-append p a m n =
    ap (λ (xs : List ℕ). count_by p xs) (sym (range_with_len-append a m n)) ∙ sum_by-append _ (range_with_len a m) (range_with_len (a + m) n)

-- one bit counts as itself
one_bit : (n : ℕ) → n < 2 → count_ones n ≡ cond (eqb n 1) 1 0
one_bit zero lt = omega (arith, ones_le_self 0)
one_bit (suc zero) lt = elim (cases_eq (count_ones 1) 0) [ inl none ↦ absurd (omega (arith, zero_from_ones 1 none)) | inr some ↦ omega (arith, ones_le_self 1) ]
one_bit (suc (suc n)) lt = absurd (omega arith)

both : (a b c d : ℕ) → a ≡ c → b ≡ d → a + b ≡ d + c
both a b c d e f = omega arith

-- the `n` bits of a word from `low` on
pub count_ones-range : (word low n : ℕ) → count_ones (word / 2 ^ low % 2 ^ n) ≡ count_by (λ i. eqb (bit_at word i) 1) (range_with_len low n)
count_ones-range word low zero =
    let none : word / 2 ^ low % 1 ≡ 0 = omega arith in
    rw none (omega (arith, ones_le_self 0))
count_ones-range word low (suc n) =
    let high = word / 2 ^ (low + 1) % 2 ^ n in
    let lowest = word / 2 ^ low % 2 in
    let width : suc n ≡ n + 1 = omega arith in
    let split : word / 2 ^ low % 2 ^ suc n ≡ high * 2 ^ 1 + lowest =
    ap (λ k. word / 2 ^ low % 2 ^ k) width ∙ mod-pow-add (word / 2 ^ low) n 1 ∙ ap (λ x. x % 2 ^ n * 2 ^ 1 + lowest) (shr-shr word low 1) in
    rw split (
    ones_cat 1 high lowest (bit_at-lt word low)
    ∙ both (count_ones high) (count_ones lowest) _ _ (count_ones-range word (low + 1) n) (one_bit lowest (bit_at-lt word low))
    ∙ sym (sum_by-cons (λ i. cond (eqb (bit_at word i) 1) 1 0) low (range_with_len (low + 1) n)))

-- the bits of a word that are in a mask
pub count_ones-mask : (word low high : ℕ) → low ≤ high → count_ones (bit_and word (2 ^ high - 2 ^ low)) ≡ count_by (λ i. eqb (bit_at word i) 1) (range_with_len low (high - low))
count_ones-mask word low high le =
    let n = high - low in
    let part = word / 2 ^ low % 2 ^ n in
    let width : high ≡ n + low = omega arith in
    let cut : bit_and word (2 ^ high - 2 ^ low) ≡ part * 2 ^ low + 0 = ap (λ k. bit_and word (2 ^ k - 2 ^ low)) width ∙ and_high word n low ∙ omega arith in
    rw cut (ones_cat low part 0 (pow_pos low) ∙ omega (arith, ones_le_self 0) ∙ count_ones-range word low n)

-- the blocks of one word
pub count_by-word : (words : List ℕ) (i low n : ℕ) → low + n ≤ 64 → count_by (is_set words) (range_with_len (64 * i + low) n) ≡ count_by (λ j. eqb (bit_at (slice_index words i) j) 1) (range_with_len low n)
count_by-word words i low zero within = refl
count_by-word words i low (suc n) within =
    let place = 64 * i + low in
    let word : place / 64 ≡ i = omega arith in
    let bit : place % 64 ≡ low = omega arith in
    let next : place + 1 ≡ 64 * i + (low + 1) = omega arith in
    let head : is_set words place ≡ eqb (bit_at (slice_index words i) low) 1 = rw (word, bit) refl in
    sum_by-cons _ place (range_with_len (place + 1) n)
    ∙ rw (head, next) (ap (λ x. cond (eqb (bit_at (slice_index words i) low) 1) 1 0 + x) (count_by-word words i (low + 1) n (omega arith)))
    ∙ sym (sum_by-cons (λ j. cond (eqb (bit_at (slice_index words i) j) 1) 1 0) low (range_with_len (low + 1) n))

-- a count up to a place in a word, and the part of the word from there on
pub count_by-more : (words : List ℕ) (from at high set : ℕ) → from ≤ at → at % 64 < high → high ≤ 64 → set ≡ count_by (is_set words) (range_with_len from (at - from))
    → set + count_ones (bit_and (slice_index words (at / 64)) (2 ^ high - 2 ^ (at % 64))) ≡ count_by (is_set words) (range_with_len from (at + (high - at % 64) - from))
count_by-more words from at high set order low within so_far =
    let n = high - at % 64 in
    let whole : at + n - from ≡ at - from + n = omega arith in
    let start : from + (at - from) ≡ 64 * (at / 64) + at % 64 = omega arith in
    rw (whole, count_by-range_with_len-append (is_set words) from (at - from) n, start, count_by-word words (at / 64) (at % 64) n (omega arith), ← so_far)
    (ap (λ x. set + x) (count_ones-mask (slice_index words (at / 64)) (at % 64) high (omega arith)))

-- at most `n` of `n` blocks are counted
pub count_by-at_most : (p : ℕ → Bool) (a n : ℕ) → count_by p (range_with_len a n) ≤ n
count_by-at_most p a n = omega (arith, count_by-le-length p (range_with_len a n), length-range_with_len a n)

-- one more part of a word
pub CountsTo-more : (words : List ℕ) (from to at high set mask : ℕ) → CountsTo words from to at set → at < to → high ≡ min (to - (at - at % 64)) 64 → mask ≡ 2 ^ high - 2 ^ (at % 64)
    → CountsTo words from to (at + (high - at % 64)) (set + count_ones (bit_and (slice_index words (at / 64)) mask))
CountsTo-more words from to at high set mask so_far lt part e = record {
  low = omega (arith, so_far.low);
  high = omega arith;
  count = rw e (count_by-more words from at high set so_far.low (omega arith) (omega arith) so_far.count);
}

-- at most as many are counted as there are
pub CountsTo-bound : (words : List ℕ) (from to at set : ℕ) → CountsTo words from to at set → set ≤ to - from
CountsTo-bound words from to at set so_far = omega (arith, so_far.count, so_far.high, count_by-at_most (is_set words) from (at - from))
