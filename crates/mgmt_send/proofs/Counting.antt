-- The number of cells in a list that use a resource, and how it changes with one of them.
use Rattle.std.proofs.Common.{◌≡◌, ℕ, zero, suc, ◌+◌, ◌<◌, ◌≤◌, Bool, true, false, cond, List, [], ◌∷◌, length, set, get_or, refl, sym, ap, ◌∙◌, arith}
use Rattle.std.specs.List.{count_by}
use Rattle.std.proofs.lemmas.List.Sums.{sum_by-cons, sum_by-set, count_by-le-length}
use Rattle.zone_limits.specs.Resources.{more, fewer, recounted}
use Rattle.zone_cell.specs.Cells.{Cell}
use Rattle.zone_room.specs.Rooms.{cell_use}
use Rattle.mgmt_send.specs.Sweeping.{counts_in}

abbrev pub one_in : Bool → ℕ
one_in b = cond b 1 0

-- one more or none
pub step : (p : Cell → Bool) (c : Cell) (cells : List Cell) → count_by p (c ∷ cells) ≡ one_in (p c) + count_by p cells
step p c cells = sum_by-cons (λ x. one_in (p x)) c cells

-- a count has one for each cell that passes
pub count-used : (p : Cell → Bool) (cells : List Cell) (i : ℕ) (d : Cell) → i < length cells → p (get_or cells i d) ≡ true → 1 ≤ count_by p cells
count-used p [] i d lt on = absurd (omega arith)
count-used p (c ∷ cells) zero d lt on = omega (arith, step p c cells, ap one_in on)
count-used p (c ∷ cells) (suc i) d lt on = omega (arith, step p c cells, count-used p cells i d (omega arith) on)

one_in-le : (b : Bool) → one_in b ≤ 1
one_in-le true = omega arith
one_in-le false = omega arith

-- and leaves out each that doesn't
pub count-unused : (p : Cell → Bool) (cells : List Cell) (i : ℕ) (d : Cell) → i < length cells → p (get_or cells i d) ≡ false → count_by p cells < length cells
count-unused p [] i d lt off = absurd (omega arith)
count-unused p (c ∷ cells) zero d lt off = omega (arith, step p c cells, ap one_in off, count_by-le-length p cells)
count-unused p (c ∷ cells) (suc i) d lt off = omega (arith, step p c cells, one_in-le (p c), count-unused p cells i d (omega arith) off)

-- with another cell in a place
pub count-change : (p : Cell → Bool) (cells : List Cell) (i : ℕ) (c new : Cell) → i < length cells → c ≡ get_or cells i c → count_by p (set cells i new) + one_in (p c) ≡ count_by p cells + one_in (p new)
count-change p cells i c new lt at = ap (λ (x : Cell). count_by p (set cells i new) + one_in (p x)) at ∙ sum_by-set (λ x. one_in (p x)) cells i new c lt

moved : (n n' : ℕ) (before after : Bool) → n' + one_in before ≡ n + one_in after → (before ≡ true → 1 ≤ n) → more after (fewer before n) ≡ n'
moved n n' true true e some = let have = some refl in omega arith
moved n n' true false e some = let have = some refl in omega arith
moved n n' false true e some = omega arith
moved n n' false false e some = omega arith

count-moved : (p : Cell → Bool) (cells : List Cell) (i : ℕ) (c new : Cell) → i < length cells → c ≡ get_or cells i c → more (p new) (fewer (p c) (count_by p cells)) ≡ count_by p (set cells i new)
count-moved p cells i c new lt at =
    moved (count_by p cells) (count_by p (set cells i new)) (p c) (p new) (count-change p cells i c new lt at) (λ on. count-used p cells i c lt (ap p (sym at) ∙ on))

pub recounted-set : (cells : List Cell) (i : ℕ) (c new : Cell) → i < length cells → c ≡ get_or cells i c → recounted (cell_use c) (cell_use new) (counts_in cells) ≡ counts_in (set cells i new)
recounted-set cells i c new lt at =
    rw (count-moved (λ x. (cell_use x).active) cells i c new lt at, count-moved (λ x. (cell_use x).opened) cells i c new lt at, count-moved (λ x. (cell_use x).window) cells i c new lt at) refl
