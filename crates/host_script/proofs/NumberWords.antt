-- The words of numbers, and the numbers that words spell.
use Rattle.std.proofs.Common.{◌≡◌, ℕ, ◌*◌, ◌^◌, ◌<◌, ◌≤◌, Bool, true, false, cond, List, Option, Some, None, refl, ap, ◌∙◌, subst, arith}
use Rattle.std.specs.Prelude.{◌&&◌, nat_lt, nat_le}
use Rattle.std.specs.Fmt.{decimal}
use Rattle.std.proofs.lemmas.Bool.{and_parts}
use Rattle.std.proofs.lemmas.Bool.Decides.{nat_tests}
use Rattle.std.proofs.lemmas.Nat.{pow_pos}
use Rattle.std.proofs.Math.Nat.{le-mul_of_pos_right, mul_comm}
use Rattle.zns_types.specs.declared.fields.GeometryFields.{GeometryFields}
use Rattle.zns_types.specs.Geometry.{IsGeometry}
use Rattle.text_lines.specs.Decimals.{number_in}
use Rattle.text_lines.proofs.SpelledNumbers.{number_in-spelled, number_in-decimal}
use Rattle.host_script.specs.Lines.{below, as_blocks, blocks_in}

-- ---- below a limit

-- the word spells the number, which passes a test
pub record Spells (word : List ℕ) (n : ℕ) : Type 0 where
  pub same : word ≡ decimal n
  pub small : n < 2 ^ 64

spells : (word : List ℕ) (n : ℕ) → number_in word ≡ Some n → Spells word n
spells word n is = let spelled = number_in-spelled word n is in record { same = spelled.0; small = spelled.1 }

pub number_spelled : (word : List ℕ) (n : ℕ) → number_in word ≡ Some n → Spells word n
number_spelled word n is = spells word n is

pub record IsBelow (limit : ℕ) (word : List ℕ) (n : ℕ) : Type 0 where
  pub spelled : Spells word n
  pub below : n < limit

below_some : (limit : ℕ) (word : List ℕ) (o : Option ℕ) (n : ℕ) → number_in word ≡ o → below limit o ≡ Some n → IsBelow limit word n
below_some limit word None n found is = absurd cc
below_some limit word (Some m) n found is = by_test (nat_lt m limit) refl is
  where
    by_test : (b : Bool) → nat_lt m limit ≡ b → cond b (Some m) None ≡ Some n → IsBelow limit word n
    by_test true holds e =
        let same : m ≡ n = cc in
        let P : ℕ → Type 0 = λ k. IsBelow limit word k in
        subst P same (record { spelled = spells word m found; below = grind (arith, nat_tests) })
    by_test false fails e = absurd cc

pub below_spelled : (limit : ℕ) (word : List ℕ) (n : ℕ) → below limit (number_in word) ≡ Some n → IsBelow limit word n
below_spelled limit word n is = below_some limit word (number_in word) n refl is

pub below_decimal : (limit n : ℕ) → n < limit → n < 2 ^ 64 → below limit (number_in (decimal n)) ≡ Some n
below_decimal limit n lt small =
    let holds : nat_lt n limit ≡ true = grind (arith, nat_tests) in
    ap (below limit) (number_in-decimal (decimal n) n refl small) ∙ rw holds refl

-- ---- from 1 to 65,536

pub record AreBlocks (word : List ℕ) (n : ℕ) : Type 0 where
  pub spelled : Spells word n
  pub some : 1 ≤ n
  pub few : n ≤ 65536

blocks_some : (word : List ℕ) (o : Option ℕ) (n : ℕ) → number_in word ≡ o → as_blocks o ≡ Some n → AreBlocks word n
blocks_some word None n found is = absurd cc
blocks_some word (Some m) n found is = by_test (nat_le 1 m && nat_le m 65536) refl is
  where
    by_test : (b : Bool) → (nat_le 1 m && nat_le m 65536) ≡ b → cond b (Some m) None ≡ Some n → AreBlocks word n
    by_test true holds e =
        let same : m ≡ n = cc in
        let parts = and_parts (nat_le 1 m) (nat_le m 65536) holds in
        let P : ℕ → Type 0 = λ k. AreBlocks word k in
        subst P same (record { spelled = spells word m found; some = grind (arith, nat_tests, parts.0); few = grind (arith, nat_tests, parts.1) })
    by_test false fails e = absurd cc

pub blocks_spelled : (word : List ℕ) (n : ℕ) → blocks_in word ≡ Some n → AreBlocks word n
blocks_spelled word n is = blocks_some word (number_in word) n refl is

pub blocks_decimal : (n : ℕ) → 1 ≤ n → n ≤ 65536 → blocks_in (decimal n) ≡ Some n
blocks_decimal n some few =
    let low : nat_le 1 n ≡ true = grind (arith, nat_tests) in
    let high : nat_le n 65536 ≡ true = grind (arith, nat_tests) in
    ap as_blocks (number_in-decimal (decimal n) n refl (omega arith)) ∙ rw (low, high) refl

-- ---- the numbers of a drive

pub small_zone : (g : GeometryFields) → IsGeometry g → g.zone_size ≤ 2 ^ 28
small_zone g is =
    let some : 0 < g.zones = omega arith in
    let whole : g.zone_size ≤ g.zone_size * g.zones = le-mul_of_pos_right g.zone_size some in
    let more : g.zones * g.zone_size ≤ g.zones * g.zone_size * 2 ^ g.block_exp = le-mul_of_pos_right (g.zones * g.zone_size) (pow_pos g.block_exp) in
    omega (arith, mul_comm g.zones g.zone_size)
