-- The least multiple that reaches a bound.
use Rattle.std.proofs.Common.{◌≡◌, ℕ, suc, ◌+◌, ◌*◌, ◌-◌, ◌/◌, ◌%◌, ◌<◌, ◌≤◌, max, refl, ◌∙◌, arith}
use Rattle.std.proofs.Math.Nat.{lt_of_mul-lt-mul_right, mul-le-mul_right, mul-mod_left, div-mul-le_self, lt-div-mul-add, div-add-mod', add-mul}
use Rattle.zrwa_commit.specs.Least.{least_multiple, IsLeast, IsMultipleFrom}

-- it reaches the bound
pub least_multiple-covers : (g bound : ℕ) → 1 ≤ g → bound ≤ least_multiple g bound
least_multiple-covers g bound pos =
    let past = lt-div-mul-add {a = bound + g - 1} {b = g} (omega arith) in
    omega arith

-- it is less than a granule past the bound
pub least_multiple-close : (g bound : ℕ) → 1 ≤ g → least_multiple g bound < bound + g
least_multiple-close g bound pos = omega (arith, div-mul-le_self (bound + g - 1) g)

-- if j granules are less than a granule past k of them, j is at most k
pub fewer_granules : (g j k : ℕ) → j * g < k * g + g → j ≤ k
fewer_granules g j k h =
    let more : k * g + g ≡ suc k * g = omega (arith, add-mul k 1 g) in
    let lt : j < suc k = lt_of_mul-lt-mul_right g (omega arith) in
    omega arith

-- no smaller multiple reaches it
pub least_multiple-least : (g bound k : ℕ) → 1 ≤ g → bound ≤ k * g → least_multiple g bound ≤ k * g
least_multiple-least g bound k pos h =
    let close = least_multiple-close g bound pos in
    mul-le-mul_right g (fewer_granules g ((bound + g - 1) / g) k (omega arith))

-- so it is the least multiple that reaches the bound
pub least_multiple-is_least : (g bound : ℕ) → 1 ≤ g → IsLeast (IsMultipleFrom g bound) (least_multiple g bound)
least_multiple-is_least g bound pos = record {
  holds = record { multiple = ((bound + g - 1) / g, refl); covers = least_multiple-covers g bound pos };
  below = λ m from. rw from.multiple.1 (least_multiple-least g bound from.multiple.0 pos (omega (arith, from.multiple.1)));
}

same_number : (m n : ℕ) → m ≤ n → n ≤ m → m ≡ n
same_number m n le ge = omega arith

-- a multiple that reaches the bound and is less than a granule past it
pub least_multiple-between : (g bound k : ℕ) → 1 ≤ g → bound ≤ k * g → k * g < bound + g → least_multiple g bound ≡ k * g
least_multiple-between g bound k pos low high =
    let covers = least_multiple-covers g bound pos in
    same_number (least_multiple g bound) (k * g) (least_multiple-least g bound k pos low) (mul-le-mul_right g (fewer_granules g k ((bound + g - 1) / g) (omega arith)))

-- it is a multiple
pub least_multiple-mod : (g bound : ℕ) → least_multiple g bound % g ≡ 0
least_multiple-mod g bound = mul-mod_left ((bound + g - 1) / g) g

-- a multiple is a whole number of granules
pub granules_of : (g p : ℕ) → p % g ≡ 0 → p / g * g ≡ p
granules_of g p e = omega (arith, div-add-mod' p g)

-- a multiple is the least one that reaches itself
pub least_multiple-same : (g p : ℕ) → 1 ≤ g → p % g ≡ 0 → least_multiple g p ≡ p
least_multiple-same g p pos e =
    let whole = granules_of g p e in
    least_multiple-between g p (p / g) pos (omega arith) (omega arith) ∙ whole

-- a multiple stays the same if the bound to reach is at most the multiple
pub least_multiple-stays : (g p b : ℕ) → 1 ≤ g → p % g ≡ 0 → b ≤ p → least_multiple g (max p b) ≡ p
least_multiple-stays g p b pos e le =
    let same : max p b ≡ p = omega arith in
    rw same (least_multiple-same g p pos e)

-- reaching one bound and then another is reaching both
pub least_multiple-max : (g a b : ℕ) → 1 ≤ g → least_multiple g (max a (least_multiple g b)) ≡ least_multiple g (max a b)
least_multiple-max g a b pos =
    let k = (max a b + g - 1) / g in
    let covers = least_multiple-covers g (max a b) pos in
    let close = least_multiple-close g (max a b) pos in
    let first = least_multiple-covers g b pos in
    let second = least_multiple-least g b k pos (omega arith) in
    least_multiple-between g (max a (least_multiple g b)) k pos (omega arith) (omega arith)

-- a greater bound has no smaller least multiple
pub least_multiple-mono : (g a b : ℕ) → 1 ≤ g → a ≤ b → least_multiple g a ≤ least_multiple g b
least_multiple-mono g a b pos le = least_multiple-least g a ((b + g - 1) / g) pos (omega (arith, least_multiple-covers g b pos))
