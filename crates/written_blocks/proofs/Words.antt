-- Masks, and the bits that they set in words.
use Rattle.std.proofs.Common.{◌≡◌, ℕ, ◌+◌, ◌*◌, ◌-◌, ◌/◌, ◌%◌, ◌^◌, ◌<◌, ◌≤◌, max, min, Bool, false, ◌||◌, eqb, List, length, slice_index, slice_set, refl, ap, ◌∙◌, inl, inr, arith}
use Rattle.std.specs.Int.RustNames.{bit_or}
use Rattle.std.specs.Int.{bit_at}
use Rattle.std.proofs.Math.Nat.{mul-sub, mul_comm, mul-one, mod-eq_of_lt, pow-le-pow_right}
use Rattle.std.proofs.lemmas.Nat.{pow-add, pow_pos}
use Rattle.std.proofs.lemmas.Nat.Bits.{ones_shr, bit_at_or, bit_at_mask_inside, bit_at_mask_below, bit_at_mask_above, bit_at-lt}
use Rattle.std.proofs.lemmas.List.{get_or-set_same, get_or-set_other}
use Rattle.std.proofs.lemmas.Bool.{cases_lt, cases_eq}
use Rattle.std.proofs.lemmas.Bool.Decides.{nat_tests}
use Rattle.written_blocks.specs.Marks.{is_set, lies_within}
use Rattle.written_blocks.proofs.Loops.{SetsTo}

-- `n` ones, shifted to start at bit `low`
pub shifted_ones : (n low : ℕ) → n + low ≤ 64 → (2 ^ n - 1) * 2 ^ low % 2 ^ 64 ≡ 2 ^ (n + low) - 2 ^ low
shifted_ones n low within =
    let product : (2 ^ n - 1) * 2 ^ low ≡ 2 ^ (n + low) - 2 ^ low = mul_comm (2 ^ n - 1) (2 ^ low) ∙ mul-sub (2 ^ low) (2 ^ n) 1 ∙ rw (mul-one (2 ^ low), mul_comm (2 ^ low) (2 ^ n), ← pow-add 2 n low) refl in
    let top : 2 ^ (n + low) ≤ 2 ^ 64 = pow-le-pow_right (omega arith) within in
    rw product (mod-eq_of_lt (omega (arith, pow_pos low)))

pub mask-is : (low high : ℕ) → low < high → high ≤ 64 → (2 ^ 64 - 1) / 2 ^ (64 - (high - low)) * 2 ^ low % 2 ^ 64 ≡ 2 ^ high - 2 ^ low
mask-is low high some within =
    let n = high - low in
    let ones : (2 ^ 64 - 1) / 2 ^ (64 - n) ≡ 2 ^ (64 - (64 - n)) - 1 = ones_shr 64 (64 - n) (omega arith) in
    let width : 64 - (64 - n) ≡ n = omega arith in
    let sum : n + low ≡ high = omega arith in
    rw (ones, width) (shifted_ones n low (omega arith) ∙ ap (λ k. 2 ^ k - 2 ^ low) sum)

-- one bit of a word after a mask's bits are set, by where it lies
below_mask : (m w k low high b : ℕ) → m ≡ max w k → k ≡ 0 → b < low → eqb m 1 ≡ (lies_within low high b || eqb w 1)
below_mask m w k low high b e zero lt = grind (arith, nat_tests)

inside_mask : (m w k low high b : ℕ) → m ≡ max w k → k ≡ 1 → w < 2 → low ≤ b → b < high → eqb m 1 ≡ (lies_within low high b || eqb w 1)
inside_mask m w k low high b e one small le lt = grind (arith, nat_tests)

above_mask : (m w k low high b : ℕ) → m ≡ max w k → k ≡ 0 → high ≤ b → eqb m 1 ≡ (lies_within low high b || eqb w 1)
above_mask m w k low high b e zero le = grind (arith, nat_tests)

pub bit_or-mask : (word low high b : ℕ) → eqb (bit_at (bit_or word (2 ^ high - 2 ^ low)) b) 1 ≡ (lies_within low high b || eqb (bit_at word b) 1)
bit_or-mask word low high b =
    let mask = 2 ^ high - 2 ^ low in
    let bits = bit_at_or word mask b in
    elim (cases_lt b low) [
      | inl below ↦ below_mask _ _ _ low high b bits (bit_at_mask_below low high b below) below
      | inr from ↦ elim (cases_lt b high) [
        | inl inside ↦ inside_mask _ _ _ low high b bits (bit_at_mask_inside low high b from inside) (bit_at-lt word b) from inside
        | inr above ↦ above_mask _ _ _ low high b bits (bit_at_mask_above low high b above) above
      ]
    ]

-- a block in a word, and one in another word
within_word : (i low high b : ℕ) → high ≤ 64 → b / 64 ≡ i → lies_within (64 * i + low) (64 * i + high) b ≡ lies_within low high (b % 64)
within_word i low high b small e = grind (arith, nat_tests)

outside_word : (i low high b : ℕ) → high ≤ 64 → (b / 64 ≡ i → ⊥) → lies_within (64 * i + low) (64 * i + high) b ≡ false
outside_word i low high b small e = grind (arith, nat_tests)

-- words after a mask's bits are set in one of them
pub is_set-mask : (words : List ℕ) (i low high b : ℕ) → i < length words → high ≤ 64 → is_set (slice_set words i (bit_or (slice_index words i) (2 ^ high - 2 ^ low))) b ≡ (lies_within (64 * i + low) (64 * i + high) b || is_set words b)
is_set-mask words i low high b there small =
    let word = bit_or (slice_index words i) (2 ^ high - 2 ^ low) in
    elim (cases_eq (b / 64) i) [
      | inl here ↦ rw (within_word i low high b small here, here, get_or-set_same words i word 0 there) (bit_or-mask (slice_index words i) low high (b % 64))
      | inr other ↦ rw (outside_word i low high b small other, get_or-set_other words i (b / 64) word 0 other) refl
    ]

-- what lies within two adjoining ranges
pub lies_within-more : (from at to b : ℕ) (m : Bool) → from ≤ at → at ≤ to → (lies_within at to b || (lies_within from at b || m)) ≡ (lies_within from to b || m)
lies_within-more from at to b m p q = grind (arith, nat_tests)

-- one more part of a word
pub SetsTo-more : (old new : List ℕ) (from to at high mask : ℕ) → SetsTo old new from to at → at < to → to ≤ 64 * length new → high ≡ min (to - (at - at % 64)) 64 → mask ≡ 2 ^ high - 2 ^ (at % 64)
    → SetsTo old (slice_set new (at / 64) (bit_or (slice_index new (at / 64)) mask)) from to (at + (high - at % 64))
SetsTo-more old new from to at high mask so_far lt within part e =
    let next = at + (high - at % 64) in
    let start : at ≡ 64 * (at / 64) + at % 64 = omega arith in
    let end : next ≡ 64 * (at / 64) + high = omega arith in
    record {
      low = omega (arith, so_far.low);
      high = omega arith;
      bits = λ b.
          let piece : lies_within at next b ≡ lies_within (64 * (at / 64) + at % 64) (64 * (at / 64) + high) b = ap (λ k. lies_within k next b) start ∙ ap (λ k. lies_within (64 * (at / 64) + at % 64) k b) end in
          rw (e, is_set-mask new (at / 64) (at % 64) high b (omega arith) (omega arith), ← piece, so_far.bits b) (lies_within-more from at next b (is_set old b) so_far.low (omega arith));
    }
