-- The number of bytes that one command may move.
use Rattle.std.proofs.Common.{◌≡◌, ℕ, ◌+◌, ◌*◌, ◌^◌, ◌<◌, ◌≤◌, Bool, true, false, cond, arith}
use Rattle.std.specs.Prelude.{◌||◌, ◌==◌, IsTrue, min}
use Rattle.std.proofs.Math.Nat.{pow-le-pow_right, min-le_left, le-min}
use Rattle.std.proofs.lemmas.Nat.{pow_pos}
use Rattle.std.proofs.lemmas.Bool.{le-ltb, ltb-false}
use Rattle.std.proofs.lemmas.Bool.Decides.{nat_tests}
use Rattle.zns_types.specs.declared.fields.GeometryFields.{GeometryFields}
use Rattle.zns_types.specs.Geometry.{IsGeometry, block_len, greatest_transfer}
use Rattle.drive_rules.specs.Tables.{is_too_long}

at_most : (b : Bool) (m n : ℕ) → cond b m (min m n) ≤ m
at_most true m n = omega arith
at_most false m n = min-le_left m n

at_least : (b : Bool) (k m n : ℕ) → k ≤ m → k ≤ n → k ≤ cond b m (min m n)
at_least true k m n low high = low
at_least false k m n low high = le-min low high

small_exp : (n : ℕ) → IsTrue ((n == 9) || (n == 12)) → n ≤ 12
small_exp n is = grind (arith, nat_tests)

small_pow : (i k : ℕ) → 2 ^ i ≤ 2 ^ (i + k)
small_pow i k = pow-le-pow_right (omega arith) (omega arith)

few : (n m k : ℕ) → n ≤ m → m < k → n < k
few n m k low high = omega arith

few_greatest : (g : GeometryFields) → IsGeometry g → greatest_transfer g < 2 ^ 32
few_greatest g valid =
    let small : block_len g ≤ 2 ^ 12 = pow-le-pow_right (omega arith) (small_exp g.block_exp valid.units.block_exp) in
    omega (arith, small, at_most (g.mdts == 0) (65536 * block_len g) (2 ^ (12 + g.mdts)))

-- less than 2^32
pub few-bytes : (g : GeometryFields) (bytes : ℕ) → IsGeometry g → is_too_long g bytes ≡ false → bytes < 2 ^ 32
few-bytes g bytes valid short = few bytes (greatest_transfer g) (2 ^ 32) (ltb-false (greatest_transfer g) bytes short) (few_greatest g valid)

-- at least a page
pub page-fits : (g : GeometryFields) → is_too_long g 4096 ≡ false
page-fits g =
    let some : 0 < block_len g = pow_pos g.block_exp in
    let blocks : 4096 ≤ 65536 * block_len g = omega (arith, some) in
    let pages : 4096 ≤ 2 ^ (12 + g.mdts) = small_pow 12 g.mdts in
    le-ltb (greatest_transfer g) 4096 (at_least (g.mdts == 0) 4096 (65536 * block_len g) (2 ^ (12 + g.mdts)) blocks pages)
