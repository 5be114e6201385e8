-- Bytes that are read block by block.
use Rattle.std.proofs.Common.{◌≡◌, ℕ, zero, suc, ◌+◌, ◌*◌, ◌-◌, ◌≤◌, Bool, true, false, not, cond, None, Some, List, [], ◌∷◌, ◌++◌, length, get_or, take, drop, refl, sym, ap, ◌∙◌, arith}
use Rattle.std.specs.Prelude.{count_by}
use Rattle.std.specs.List.{range_with_len, flat_map}
use Rattle.std.proofs.Math.Nat.{add-mul, zero-mul}
use borrow.Rule.Slice.PartMut.{put_mid}
use Rattle.std.proofs.lemmas.List.{map-id, flat_map_more, take-append-drop, take-take, drop-take, drop_more, take_at, drop_at, drop-drop, append_assoc, length-append, length-drop}
use Rattle.std.proofs.lemmas.List.Sums.{sum_by-cons}
use Rattle.std.proofs.lemmas.List.FromFn.{map-range_with_len_more}
use Rattle.drive_rules.specs.Blocks.{block_at, seen_block}
use Rattle.zone_cell.specs.Kept.{kept_blocks}
use Rattle.zone_cell.proofs.Blocks.{get_or-kept}

-- one number more
range_more : (a n : ℕ) → range_with_len a (n + 1) ≡ range_with_len a n ++ (a + n) ∷ []
range_more a n = sym (map-id (range_with_len a (n + 1))) ∙ map-range_with_len_more (λ (k : ℕ). k) a n (a + n) refl ∙ ap (λ (xs : List ℕ). xs ++ (a + n) ∷ []) (map-id (range_with_len a n))

-- one piece more
pub pieces_more : (f : ℕ → List ℕ) (a n : ℕ) → flat_map f (range_with_len a (n + 1)) ≡ flat_map f (range_with_len a n) ++ f (a + n)
pieces_more f a n = rw range_more (sym (flat_map_more f [] (range_with_len a n) (a + n)))

-- one piece more is filled in
pub filled_more : (f : ℕ → List ℕ) (from i len k : ℕ) (out start new : List ℕ) → length out ≡ length start → i * len ≤ length start → k ≡ (i + 1) * len - i * len
    → out ≡ flat_map f (range_with_len from i) ++ drop (i * len) start → new ≡ f (from + i)
    → put_mid (i * len) k out new ≡ flat_map f (range_with_len from (i + 1)) ++ drop ((i + 1) * len) start
filled_more f from i len k out start new size within k-is out-is new-is =
    let front = flat_map f (range_with_len from i) in
    let rest = drop (i * len) start in
    let front_len : length front ≡ i * len = omega (arith, ap length out-is, length-append front rest, length-drop (i * len) start) in
    let last : drop k rest ≡ drop ((i + 1) * len) start = drop-drop k (i * len) start ∙ ap (λ n. drop n start) (omega (arith, add-mul i 1 len)) in
    rw (out-is, take_at front rest (i * len) front_len, drop_at front rest (i * len) front_len, last, new-is, pieces_more f from i)
    (sym (append_assoc front (f (from + i)) (drop ((i + 1) * len) start)))

-- ---- blocks without a hole among them

take_sum : (a b : ℕ) (xs : List ℕ) → take (a + b) xs ≡ take a xs ++ take b (drop a xs)
take_sum a b xs =
    sym (take-append-drop a (take (a + b) xs))
    ∙ ap (λ (front : List ℕ). front ++ drop a (take (a + b) xs)) (take-take a (a + b) xs (omega arith))
    ∙ ap (λ (back : List ℕ). take a xs ++ back) (drop-take a b xs)

no_hole : (m : Bool) (rest : ℕ) → cond (not m) 1 0 + rest ≡ 0 → (m ≡ true) × (rest ≡ 0)
no_hole true rest e = (refl, omega arith)
no_hole false rest e = absurd (omega arith)

-- they are in one piece
pub whole_run : (len : ℕ) (bytes : List ℕ) (marks : List Bool) (from n : ℕ) → from + n ≤ length marks → count_by not (take n (drop from marks)) ≡ 0
    → flat_map (λ b. seen_block len (get_or (kept_blocks len bytes marks) b None)) (range_with_len from n) ≡ take (n * len) (drop (from * len) bytes)
whole_run len bytes marks from zero within none = rw (zero-mul len) refl
whole_run len bytes marks from (suc n) within none =
    let marked : Bool = get_or marks from false in
    let first : drop from marks ≡ marked ∷ drop (from + 1) marks = drop_more marks from false (omega arith) in
    let parts = no_hole marked (count_by not (take n (drop (from + 1) marks))) (sym (sum_by-cons (λ m. cond (not m) 1 0) marked (take n (drop (from + 1) marks))) ∙ rw first at none) in
    let here : get_or (kept_blocks len bytes marks) from None ≡ Some (block_at len bytes from) = get_or-kept len bytes marks from (omega arith) ∙ rw parts.0 refl in
    let rest = whole_run len bytes marks (from + 1) n (omega arith) parts.1 in
    let size : suc n * len ≡ len + n * len = omega (arith, add-mul 1 n len) in
    let next : drop len (drop (from * len) bytes) ≡ drop ((from + 1) * len) bytes = drop-drop len (from * len) bytes ∙ ap (λ k. drop k bytes) (omega (arith, add-mul from 1 len)) in
    rw (here, rest, size, take_sum len (n * len) (drop (from * len) bytes), next) refl

-- if there is no gap, the last block is marked
pub last_marked : (marks : List Bool) (from n : ℕ) → from + suc n ≤ length marks → count_by not (take (suc n) (drop from marks)) ≡ 0 → get_or marks (from + n) false ≡ true
last_marked marks from zero within none =
    let marked : Bool = get_or marks from false in
    let first : drop from marks ≡ marked ∷ drop (from + 1) marks = drop_more marks from false (omega arith) in
    let parts = no_hole marked (count_by not (take zero (drop (from + 1) marks))) (sym (sum_by-cons (λ m. cond (not m) 1 0) marked (take zero (drop (from + 1) marks))) ∙ rw first at none) in
    let place : from + 0 ≡ from = omega arith in
    rw place parts.0
last_marked marks from (suc n) within none =
    let marked : Bool = get_or marks from false in
    let first : drop from marks ≡ marked ∷ drop (from + 1) marks = drop_more marks from false (omega arith) in
    let parts = no_hole marked (count_by not (take (suc n) (drop (from + 1) marks))) (sym (sum_by-cons (λ m. cond (not m) 1 0) marked (take (suc n) (drop (from + 1) marks))) ∙ rw first at none) in
    let place : from + 1 + n ≡ from + suc n = omega arith in
    rw (← place) (last_marked marks (from + 1) n (omega arith) parts.1)
