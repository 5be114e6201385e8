-- How many of the zones' first blocks are written so far, and the page that they make.
use Rattle.std.proofs.Common.{◌≡◌, ℕ, suc, ◌+◌, ◌*◌, ◌-◌, ◌≤◌, ◌<◌, List, [], ◌∷◌, ◌++◌, length, take, drop, refl, sym, ap, ◌∙◌, arith, append_assoc, length-append}
use Rattle.std.specs.Prelude.{replicate}
use Rattle.std.proofs.lemmas.List.{flat_map_more, length-take-le, take_at, drop_at, drop-drop, take-replicate, drop-replicate}
use Rattle.std.proofs.lemmas.Bool.{le-ltb, lt-ltb}
use Rattle.byteorder.specs.Endian.{little_bytes}
use Rattle.zns_types.specs.declared.fields.GeometryFields.{GeometryFields}
use Rattle.zns_types.specs.Geometry.{first}
use Rattle.drive_rules.specs.Reports.{changed_page}
use Rattle.changed_log.specs.Logs.{first_blocks}

-- the blocks of these zones are written from byte 8 on, and all other bytes are unchanged
pub record Listed (g : GeometryFields) (zones old new : List ℕ) (at : ℕ) : Type 0 where
  pub place : at ≡ 8 + 8 * length zones
  pub bytes : new ≡ take 8 old ++ (first_blocks g zones ++ drop at old)

pub length-first_blocks : (g : GeometryFields) (zones : List ℕ) → length (first_blocks g zones) ≡ 8 * length zones
length-first_blocks g [] = refl
length-first_blocks g (z ∷ zs) = omega (arith, length-append (little_bytes 8 (first g z)) (first_blocks g zs), length-first_blocks g zs)

first_blocks-push : (g : GeometryFields) (zones : List ℕ) (z : ℕ) → first_blocks g (zones ++ z ∷ []) ≡ first_blocks g zones ++ little_bytes 8 (first g z)
first_blocks-push g zones z = sym (flat_map_more (λ y. little_bytes 8 (first g y)) [] zones z)

-- one more zone
pub Listed-more : (g : GeometryFields) (zones old new : List ℕ) (at z : ℕ) → Listed g zones old new at → 8 ≤ length old
    → Listed g (zones ++ z ∷ []) old (take at new ++ (little_bytes 8 (first g z) ++ drop (at + 8) new)) (at + 8)
Listed-more g zones old new at z so_far room =
    let head = take 8 old in
    let blocks = first_blocks g zones in
    let rest = drop at old in
    let block = little_bytes 8 (first g z) in
    let front_len : length (head ++ blocks) ≡ at = omega (arith, length-append head blocks, length-take-le 8 old room, length-first_blocks g zones, so_far.place) in
    let parts : new ≡ (head ++ blocks) ++ rest = so_far.bytes ∙ sym (append_assoc head blocks rest) in
    let front : take at new ≡ head ++ blocks = rw parts (take_at (head ++ blocks) rest at front_len) in
    let tail : drop at new ≡ rest = rw parts (drop_at (head ++ blocks) rest at front_len) in
    let after : drop (at + 8) new ≡ drop (at + 8) old = sym (drop-drop 8 at new) ∙ ap (λ (xs : List ℕ). drop 8 xs) tail ∙ drop-drop 8 at old in
    record {
      place = omega (arith, length-append zones (z ∷ []), so_far.place);
      bytes = rw (front, after, first_blocks-push g zones z, append_assoc head blocks, append_assoc blocks block) refl;
    }

-- ---- the page

-- the first eight bytes of a number with zeros after it
head_of : (n len : ℕ) → 8 ≤ len → take 8 (little_bytes 2 n ++ replicate (len - 2) 0) ≡ little_bytes 2 n ++ replicate 6 0
head_of n len room = ap (λ (xs : List ℕ). little_bytes 2 n ++ xs) (take-replicate 6 (len - 2) 0 (omega arith))

tail_of : (n len k : ℕ) → 8 + k ≤ len → drop (8 + k) (little_bytes 2 n ++ replicate (len - 2) 0) ≡ replicate (len - 8 - k) 0
tail_of n len k room =
    let past : 8 + k ≡ suc (suc (6 + k)) = omega arith in
    let left : len - 2 - (6 + k) ≡ len - 8 - k = omega arith in
    rw (past, drop-replicate {X = ℕ} (6 + k) (len - 2) 0, left) refl

-- if few enough zones are marked, their number and their first blocks make the page
pub page-listed : (g : GeometryFields) (zones out : List ℕ) (len : ℕ) → len ≡ 4096 → length zones ≤ 511
    → out ≡ take 8 (little_bytes 2 (length zones) ++ replicate (len - 2) 0) ++ (first_blocks g zones ++ drop (8 + 8 * length zones) (little_bytes 2 (length zones) ++ replicate (len - 2) 0))
    → out ≡ changed_page g zones
page-listed g zones out len whole few made =
    let number = little_bytes 2 (length zones) in
    let blocks = first_blocks g zones in
    let old = number ++ replicate (len - 2) 0 in
    let left : len - 8 - 8 * length zones ≡ 4088 - 8 * length zones = omega arith in
    let rest : drop (8 + 8 * length zones) old ≡ replicate (4088 - 8 * length zones) 0 = tail_of (length zones) len (8 * length zones) (omega arith) ∙ ap (λ (m : ℕ). replicate m 0) left in
    rw (le-ltb 511 (length zones) few)
    (made
    ∙ ap (λ (xs : List ℕ). xs ++ (blocks ++ drop (8 + 8 * length zones) old)) (head_of (length zones) len (omega arith))
    ∙ ap (λ (xs : List ℕ). (number ++ replicate 6 0) ++ (blocks ++ xs)) rest)

pub page-overflow : (g : GeometryFields) (zones out : List ℕ) (len : ℕ) → len ≡ 4096 → 511 < length zones → out ≡ little_bytes 2 0xffff ++ replicate (len - 2) 0 → out ≡ changed_page g zones
page-overflow g zones out len whole many made = rw (lt-ltb 511 (length zones) many) (made ∙ ap (λ (n : ℕ). little_bytes 2 0xffff ++ replicate (n - 2) 0) whole)
