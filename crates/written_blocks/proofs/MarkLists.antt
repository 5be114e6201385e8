-- The list of marks that words hold.
use Rattle.std.proofs.Common.{◌≡◌, ℕ, zero, suc, ◌+◌, ◌-◌, ◌/◌, ◌%◌, ◌<◌, ◌≤◌, Bool, true, false, not, cond, ◌||◌, List, ◌∷◌, ◌++◌, length, get_or, take, drop, slice_index, refl, sym, ap, ◌∙◌, inl, inr, arith, length-append, length-drop}
use Rattle.std.specs.Prelude.{count_by, replicate}
use Rattle.std.specs.List.{range_with_len}
use Rattle.std.proofs.lemmas.Nat.Bits.{bit_at-zero}
use Rattle.std.proofs.lemmas.List.{length-replicate, get_or-replicate, get_or_past, length-take, get_or-take, get_or-drop, get_or_append_left, get_or-append_right, same_lists, drop_more}
use Rattle.std.proofs.lemmas.List.FromFn.{length-map-range_with_len, get_or-map-range_with_len, fill_by_all}
use Rattle.std.proofs.lemmas.List.Sums.{sum_by-cons}
use Rattle.std.proofs.lemmas.Bool.{cases_lt}
use Rattle.std.proofs.lemmas.Bool.Decides.{nat_tests}
use Rattle.written_blocks.specs.Marks.{is_set, lies_within, marks_of, marked, holes}

pub length-marks_of : (blocks : ℕ) (words : List ℕ) → length (marks_of blocks words) ≡ blocks
length-marks_of blocks words = length-map-range_with_len (is_set words) 0 blocks

pub get_or-marks_of : (blocks : ℕ) (words : List ℕ) (b : ℕ) (d : Bool) → b < blocks → get_or (marks_of blocks words) b d ≡ is_set words b
get_or-marks_of blocks words b d lt = get_or-map-range_with_len (is_set words) 0 blocks b b d lt (omega arith)

-- words of zeros hold no marks
pub marks_of-zeros : (blocks : ℕ) (words : List ℕ) → ((i : ℕ) → slice_index words i ≡ 0) → marks_of blocks words ≡ replicate blocks false
marks_of-zeros blocks words zeros =
    sym (fill_by_all (is_set words) (replicate blocks false) blocks false (length-replicate blocks false)
    (λ b lt. get_or-replicate blocks b false false lt ∙ sym (rw (zeros (b / 64), bit_at-zero (b % 64)) refl)))

pub slice_index-zeros : (n i : ℕ) → slice_index (replicate n 0) i ≡ 0
slice_index-zeros n i = elim (cases_lt i n) [
  | inl within ↦ get_or-replicate n i 0 0 within
  | inr past ↦ get_or_past (replicate n 0) i 0 (omega (arith, length-replicate {A = ℕ} n 0))
]

pub length-marked : (marks : List Bool) (from count : ℕ) → from + count ≤ length marks → length (marked marks from count) ≡ length marks
length-marked marks from count within = simp (length-append, length-replicate, length-take, length-drop) (omega arith)

before : (from to b : ℕ) (m : Bool) → b < from → m ≡ (lies_within from to b || m)
before from to b m lt = grind (arith, nat_tests)

inside : (from to b : ℕ) (m : Bool) → from ≤ b → b < to → true ≡ (lies_within from to b || m)
inside from to b m le lt = grind (arith, nat_tests)

after : (from to b : ℕ) (m : Bool) → to ≤ b → m ≡ (lies_within from to b || m)
after from to b m le = grind (arith, nat_tests)

-- one of the marks, after some blocks are marked
pub get_or-marked : (marks : List Bool) (from count b : ℕ) (d : Bool) → from + count ≤ length marks → get_or (marked marks from count) b d ≡ (lies_within from (from + count) b || get_or marks b d)
get_or-marked marks from count b d within =
    let front = take from marks in
    let middle = replicate count true in
    let back = drop (from + count) marks in
    let front_len : length front ≡ from = omega (arith, length-take from marks) in
    let middle_len : length middle ≡ count = length-replicate count true in
    elim (cases_lt b from) [
      | inl lt ↦ get_or_append_left front (middle ++ back) d b (omega arith) ∙ get_or-take from marks b d lt ∙ before from (from + count) b (get_or marks b d) lt
      | inr ge ↦
          let past = get_or-append_right front (middle ++ back) from b d front_len ge in
          elim (cases_lt b (from + count)) [
            | inl lt ↦ past ∙ get_or_append_left middle back d (b - from) (omega arith) ∙ get_or-replicate count (b - from) true d (omega arith) ∙ inside from (from + count) b (get_or marks b d) ge lt
            | inr far ↦
                let place : from + count + (b - from - count) ≡ b = omega arith in
                past
                ∙ get_or-append_right middle back count (b - from) d middle_len (omega arith)
                ∙ get_or-drop (from + count) marks (b - from - count) d
                ∙ ap (λ i. get_or marks i d) place
                ∙ after from (from + count) b (get_or marks b d) far
          ]
    ]

-- words with those bits set hold the list with those marked
pub marks_of-marked : (blocks : ℕ) (old new : List ℕ) (from count : ℕ) → from + count ≤ blocks → ((b : ℕ) → is_set new b ≡ (lies_within from (from + count) b || is_set old b)) → marks_of blocks new ≡ marked (marks_of blocks old) from count
marks_of-marked blocks old new from count within bits =
    let new_len = length-marks_of blocks new in
    let old_len = length-marks_of blocks old in
    same_lists _ _ (new_len ∙ sym old_len ∙ sym (length-marked (marks_of blocks old) from count (omega arith)))
    (λ b d lt.
    let below : b < blocks = omega arith in
    get_or-marks_of blocks new b d below
    ∙ bits b
    ∙ ap (λ m. lies_within from (from + count) b || m) (sym (get_or-marks_of blocks old b d below))
    ∙ sym (get_or-marked (marks_of blocks old) from count b d (omega arith)))

one_of : (m : Bool) (a b n : ℕ) → a + b ≡ n → cond (not m) 1 0 + a + (cond m 1 0 + b) ≡ suc n
one_of true a b n e = omega arith
one_of false a b n e = omega arith

-- the holes and the marks together are all blocks
pub holes-marks_of : (blocks : ℕ) (words : List ℕ) (from n : ℕ) → from + n ≤ blocks → count_by not (take n (drop from (marks_of blocks words))) + count_by (is_set words) (range_with_len from n) ≡ n
holes-marks_of blocks words from zero within = refl
holes-marks_of blocks words from (suc n) within =
    let marks = marks_of blocks words in
    let len = length-marks_of blocks words in
    let rest = holes-marks_of blocks words (from + 1) n (omega arith) in
    let first : drop from marks ≡ is_set words from ∷ drop (from + 1) marks =
    drop_more marks from false (omega arith) ∙ ap (λ (m : Bool). m ∷ drop (from + 1) marks) (get_or-marks_of blocks words from false (omega arith)) in
    rw (first, sum_by-cons (λ m. cond (not m) 1 0) (is_set words from) (take n (drop (from + 1) marks)), sum_by-cons (λ b. cond (is_set words b) 1 0) from (range_with_len (from + 1) n))
    (one_of (is_set words from) _ _ n rest)

-- what isn't counted as marked is a hole
pub holes-rest : (blocks : ℕ) (words : List ℕ) (from to set : ℕ) → from ≤ to → to ≤ blocks → set ≡ count_by (is_set words) (range_with_len from (to - from)) → to - from - set ≡ holes (marks_of blocks words) from to
holes-rest blocks words from to set order within counted =
    let all = holes-marks_of blocks words from (to - from) (omega arith) in
    omega arith
