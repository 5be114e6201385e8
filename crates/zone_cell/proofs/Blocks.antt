-- The blocks that bytes and marks hold.
use Rattle.std.proofs.Common.{◌≡◌, ℕ, ◌+◌, ◌*◌, ◌-◌, ◌/◌, ◌<◌, ◌≤◌, Bool, true, false, cond, ◌&&◌, List, ◌++◌, Option, Some, None, length, get_or, take, drop, map, refl, sym, ap, ◌∙◌, inl, inr, arith, length-drop}
use Rattle.std.specs.Prelude.{replicate, nat_le, nat_lt}
use Rattle.std.specs.List.{range_with_len}
use Rattle.std.proofs.Math.Nat.{add-mul}
use borrow.Rule.Slice.PartMut.{put_mid}
use Rattle.std.proofs.lemmas.List.{length-replicate, get_or-replicate, get_or_past, length-take, take-append-le, drop_at, drop-append-le, drop-drop, drop-take}
use Rattle.std.proofs.lemmas.Slice.{take-put_mid_below, drop-put_mid}
use Rattle.std.proofs.lemmas.List.FromFn.{length-map-range_with_len, get_or-map-range_with_len, fill_by_all}
use Rattle.std.proofs.lemmas.Nat.{mul-le, row_fits}
use Rattle.std.proofs.lemmas.Bool.{cases_lt, le-leb, lt-ltb, lt-leb, le-ltb, and_left, and_right, and_from, and_parts, or_cases, ltb-true, true≢false}
use Rattle.written_blocks.specs.Marks.{marked, lies_within}
use Rattle.written_blocks.proofs.MarkLists.{length-marked, get_or-marked}
use Rattle.zns_io.specs.Padding.{padded}
use Rattle.drive_rules.specs.Blocks.{block_at}
use Rattle.zone_cell.specs.Cells.{with_blocks}
use Rattle.zone_cell.specs.Kept.{kept_block, kept_blocks, laid}
use Rattle.zone_cell.proofs.Laid.{length-padded, laid-put}

pub length-kept : (len : ℕ) (bytes : List ℕ) (marks : List Bool) → length (kept_blocks len bytes marks) ≡ length marks
length-kept len bytes marks = length-map-range_with_len (kept_block len bytes marks) 0 (length marks)

pub get_or-kept : (len : ℕ) (bytes : List ℕ) (marks : List Bool) (b : ℕ) → b < length marks → get_or (kept_blocks len bytes marks) b None ≡ kept_block len bytes marks b
get_or-kept len bytes marks b lt = get_or-map-range_with_len (kept_block len bytes marks) 0 (length marks) b b None lt (omega arith)

-- two functions that agree below n give the same list
same_map : {X : Type 0} (f h : ℕ → X) (n : ℕ) (d : X) → ((k : ℕ) → k < n → f k ≡ h k) → map f (range_with_len 0 n) ≡ map h (range_with_len 0 n)
same_map f h n d same =
    fill_by_all h (map f (range_with_len 0 n)) n d (length-map-range_with_len f 0 n)
    (λ k lt. get_or-map-range_with_len f 0 n k k d lt (omega arith) ∙ same k lt)

-- with no marks there are no blocks
pub kept-none : (len n : ℕ) (bytes : List ℕ) → kept_blocks len bytes (replicate n false) ≡ replicate n None
kept-none len n bytes =
    let size : length (replicate n false) ≡ n = length-replicate n false in
    rw size (sym (fill_by_all (kept_block len bytes (replicate n false)) (replicate n None) n None (length-replicate n None)
    (λ k lt. rw (get_or-replicate n k false false lt) (get_or-replicate n k None None lt))))

-- ---- bytes that go on

-- each marked block lies within the first `n` bytes
abbrev pub Lie : ℕ → List Bool → ℕ → Type 0
Lie len marks n = (b : ℕ) → get_or marks b false ≡ true → (b + 1) * len ≤ n

-- a block that lies in the bytes is the same where more come after them
block_more : (len b : ℕ) (xs ys : List ℕ) → (b + 1) * len ≤ length xs → block_at len (xs ++ ys) b ≡ block_at len xs b
block_more len b xs ys lies =
    let size : b * len + len ≤ length xs = omega (arith, add-mul b 1 len) in
    ap (take len) (drop-append-le (b * len) xs ys (omega arith)) ∙ take-append-le len (drop (b * len) xs) ys (omega (arith, length-drop (b * len) xs))

same_where : (m : Bool) (x y : List ℕ) → (m ≡ true → x ≡ y) → (let o : Option (List ℕ) = cond m (Some x) None in o) ≡ cond m (Some y) None
same_where true x y e = ap (λ (z : List ℕ). let o : Option (List ℕ) = Some z in o) (e refl)
same_where false x y e = refl

-- all blocks are
pub kept-more : (len : ℕ) (xs ys : List ℕ) (marks : List Bool) → Lie len marks (length xs) → kept_blocks len (xs ++ ys) marks ≡ kept_blocks len xs marks
kept-more len xs ys marks lie =
    same_map (kept_block len (xs ++ ys) marks) (kept_block len xs marks) (length marks) None
    (λ b lt. same_where (get_or marks b false) (block_at len (xs ++ ys) b) (block_at len xs b) (λ mark. block_more len b xs ys (lie b mark)))

-- ---- host data at a place of the bytes

-- a block that ends before the place
block_below : (len at k b : ℕ) (xs ys : List ℕ) → b * len + len ≤ at → at ≤ length xs → block_at len (put_mid at k xs ys) b ≡ block_at len xs b
block_below len at k b xs ys before within =
    sym (drop-take (b * len) len (put_mid at k xs ys))
    ∙ ap (drop (b * len)) (take-put_mid_below at k xs ys (b * len + len) before within)
    ∙ drop-take (b * len) len xs

-- a block that starts after the data
block_above : (len at k b : ℕ) (xs ys : List ℕ) → at + k ≤ b * len → at ≤ length xs → length ys ≡ k → block_at len (put_mid at k xs ys) b ≡ block_at len xs b
block_above len at k b xs ys behind within size = ap (take len) (drop-put_mid at k xs ys (b * len) behind within size)

-- a block of the data
block_inside : (len at k j n : ℕ) (xs ys : List ℕ) → at + j ≡ n → j + len ≤ length ys → at ≤ length xs → take len (drop n (put_mid at k xs ys)) ≡ take len (drop j ys)
block_inside len at k j n xs ys place fits within =
    let rest = drop k (drop at xs) in
    let size : length (take at xs) ≡ at = omega (arith, length-take at xs) in
    let first : drop at (put_mid at k xs ys) ≡ ys ++ rest = drop_at (take at xs) (ys ++ rest) at size in
    rw (← place, ← drop-drop j at (put_mid at k xs ys), first, drop-append-le j ys rest (omega arith))
    (take-append-le len (drop j ys) rest (omega (arith, length-drop j ys)))

-- the place of a block of the data, by its place in the data
place : (from b len : ℕ) → from ≤ b → from * len + (b - from) * len ≡ b * len
place from b len le = sym (add-mul from (b - from) len) ∙ ap (λ (x : ℕ). x * len) (omega arith)

-- one block, after host data was written from a block on
kept_block-put : (len from count b : ℕ) (bytes payload : List ℕ) (marks : List Bool) → from * len ≤ length bytes → count * len ≡ length payload → from + count ≤ length marks → b < length marks
    → kept_block len (put_mid (from * len) (length payload) bytes payload) (marked marks from count) b
    ≡ cond (nat_le from b && nat_lt b (from + count)) (Some (block_at len payload (b - from))) (kept_block len bytes marks b)
kept_block-put len from count b bytes payload marks at_place whole within lt =
    let mark = get_or-marked marks from count b false within in
    elim (cases_lt b from) [
      | inl below ↦
          let out : (nat_le from b && nat_lt b (from + count)) ≡ false = and_left _ _ (lt-leb from b below) in
          let same = block_below len (from * len) (length payload) b bytes payload (row_fits b len from len below (omega arith)) at_place in
          rw (mark, out, same) refl
      | inr ge ↦ elim (cases_lt b (from + count)) [
        | inl inside ↦
            let holds : (nat_le from b && nat_lt b (from + count)) ≡ true = and_from _ _ (le-leb from b ge) (lt-ltb b (from + count) inside) in
            let fits : (b - from) * len + len ≤ length payload = omega (arith, row_fits (b - from) len count len (omega arith) (omega arith)) in
            let same = block_inside len (from * len) (length payload) ((b - from) * len) (b * len) bytes payload (place from b len ge) fits at_place in
            rw (mark, holds, same) refl
        | inr above ↦
            let out : (nat_le from b && nat_lt b (from + count)) ≡ false = and_right _ _ (le-ltb b (from + count) above) in
            let behind : from * len + length payload ≤ b * len = omega (arith, add-mul from count len, mul-le (from + count) len b len above (omega arith)) in
            let same = block_above len (from * len) (length payload) b bytes payload behind at_place refl in
            rw (mark, out, same) refl
      ]
    ]

-- all blocks, after host data was written from a block on
kept-put : (len from : ℕ) (bytes payload : List ℕ) (marks : List Bool) → from * len ≤ length bytes → length payload / len * len ≡ length payload → from + length payload / len ≤ length marks
    → kept_blocks len (put_mid (from * len) (length payload) bytes payload) (marked marks from (length payload / len)) ≡ with_blocks len from payload (kept_blocks len bytes marks)
kept-put len from bytes payload marks at_place whole within =
    rw (length-marked marks from (length payload / len) within, length-kept len bytes marks)
    (same_map _ _ (length marks) None
    (λ b lt. kept_block-put len from (length payload / len) b bytes payload marks at_place whole within lt ∙ ap (λ (o : Option (List ℕ)). cond (nat_le from b && nat_lt b (from + length payload / len)) (Some (block_at len payload (b - from))) o) (sym (get_or-kept len bytes marks b lt))))

-- all blocks, after host data was laid down from a block on
pub kept-laid : (len from : ℕ) (bytes payload : List ℕ) (marks : List Bool) → Lie len marks (length bytes) → length payload / len * len ≡ length payload → from + length payload / len ≤ length marks
    → kept_blocks len (laid (from * len) payload bytes) (marked marks from (length payload / len)) ≡ with_blocks len from payload (kept_blocks len bytes marks)
kept-laid len from bytes payload marks lie whole within =
    let end = from * len + length payload in
    let all = padded end bytes in
    let same : kept_blocks len all marks ≡ kept_blocks len bytes marks = kept-more len bytes (replicate (end - length bytes) 0) marks lie in
    let put = kept-put len from all payload marks (omega (arith, length-padded end bytes)) whole within in
    ap (λ (bs : List ℕ). kept_blocks len bs (marked marks from (length payload / len))) (laid-put (from * len) payload bytes)
    ∙ put
    ∙ ap (with_blocks len from payload) same

-- the blocks that are marked lie in the bytes after it
pub Lie-marked : (len from count n k : ℕ) (marks : List Bool) → Lie len marks n → n ≤ k → (from + count) * len ≤ k → from + count ≤ length marks → Lie len (marked marks from count) k
Lie-marked len from count n k marks lie more end within = λ b mark.
    elim (or_cases (lies_within from (from + count) b) (get_or marks b false) (sym (get_or-marked marks from count b false within) ∙ mark)) [
      | inl new ↦
          let below : b < from + count = ltb-true b (from + count) ((and_parts (nat_le from b) (nat_lt b (from + count)) new).1) in
          omega (arith, mul-le (b + 1) len (from + count) len (omega arith) (omega arith))
      | inr old ↦ omega (arith, lie b old)
    ]

pub Lie-none : (len n k : ℕ) → Lie len (replicate n false) k
Lie-none len n k = λ b mark. elim (cases_lt b n) [
  | inl lt ↦ absurd (true≢false (sym mark ∙ get_or-replicate n b false false lt))
  | inr past ↦ absurd (true≢false (sym mark ∙ get_or_past (replicate n false) b false (omega (arith, length-replicate {A = Bool} n false))))
]

pub length-with_blocks : (len from : ℕ) (payload : List ℕ) (blocks : List (Option (List ℕ))) → length (with_blocks len from payload blocks) ≡ length blocks
length-with_blocks len from payload blocks = length-map-range_with_len _ 0 (length blocks)
