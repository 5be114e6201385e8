-- Multiples of a granule.
use Rattle.std.proofs.Common.{◌≡◌, ℕ, ◌+◌, ◌*◌, ◌-◌, ◌/◌, ◌%◌, ◌<◌, ◌≤◌, max, refl, sym, ap, ◌∙◌, arith}
use Rattle.std.proofs.Math.Nat.{add-mul, mul-mod_left, mul-le-mul_right, lt_of_mul-lt-mul_right}
use Rattle.zrwa_commit.specs.Least.{least_multiple}
use Rattle.zrwa_commit.proofs.LeastLemmas.{granules_of, least_multiple-same, least_multiple-least}

-- a sum of multiples is a multiple
pub sum_mod : (g a b : ℕ) → a % g ≡ 0 → b % g ≡ 0 → (a + b) % g ≡ 0
sum_mod g a b ea eb =
    let sum : (a / g + b / g) * g ≡ a + b = add-mul (a / g) (b / g) g ∙ rw (granules_of g a ea, granules_of g b eb) refl in
    ap (λ (n : ℕ). n % g) (sym sum) ∙ mul-mod_left (a / g + b / g) g

-- the least multiple at or after both a multiple and something before it is that multiple
pub reach_of : (g p b : ℕ) → 1 ≤ g → p ≤ b → b % g ≡ 0 → least_multiple g (max p b) ≡ b
reach_of g p b some le e =
    let same : max p b ≡ b = omega arith in
    rw same (least_multiple-same g b some e)

-- a multiple below another is at least a granule below it
pub granule_before : (g p cap : ℕ) → 1 ≤ g → p % g ≡ 0 → cap % g ≡ 0 → p < cap → p ≤ (cap / g - 1) * g
granule_before g p cap some pe ce lt =
    let at_p = granules_of g p pe in
    let at_cap = granules_of g cap ce in
    let fewer : p / g < cap / g = lt_of_mul-lt-mul_right g (omega arith) in
    let le : p / g * g ≤ (cap / g - 1) * g = mul-le-mul_right g (omega arith) in
    omega arith

pub last_granule : (g cap : ℕ) → 1 ≤ g → 1 ≤ cap → cap % g ≡ 0 → (cap / g - 1) * g + g ≡ cap
last_granule g cap some more ce =
    let at_cap = granules_of g cap ce in
    let one_more : 0 < cap / g = lt_of_mul-lt-mul_right g (omega arith) in
    let sum : cap / g ≡ (cap / g - 1) + 1 = omega arith in
    omega (arith, add-mul (cap / g - 1) 1 g, ap (λ (n : ℕ). n * g) sum)

-- the least multiple at or after something before the last granule is below the capacity
pub reach_below : (g a p cap : ℕ) → 1 ≤ g → p % g ≡ 0 → cap % g ≡ 0 → p < cap → a + g ≤ cap → least_multiple g (max p a) < cap
reach_below g a p cap some pe ce lt room =
    let before = granule_before g p cap some pe ce lt in
    let last = last_granule g cap some (omega arith) ce in
    let le = least_multiple-least g (max p a) (cap / g - 1) some (omega arith) in
    omega arith
