-- The first of a range of numbers that passes a test.
use Rattle.std.proofs.Common.{◌≡◌, ◌≢◌, ℕ, zero, suc, ◌+◌, ◌<◌, Bool, true, false, cond, List, Option, Some, None, length, get_or, refl, ap, ◌∙◌, sym, arith}
use Rattle.std.proofs.lemmas.List.{get_or_default}
use Rattle.zns_types.specs.States.{is_implicitly_opened}
use Rattle.zone_cell.specs.Cells.{Cell}
use Rattle.zone_room.specs.Rooms.{no_cell, cell_in, evictable_in}
use Rattle.std.proofs.lemmas.Bool.{and_parts, eqb-false, not-true}
use Rattle.std.specs.Prelude.{find, ◌==◌, ◌&&◌, not}
use Rattle.std.specs.List.{range_with_len}

none_first : (b : Bool) (x : ℕ) (o : Option ℕ) → cond b (Some x) o ≡ None → (b ≡ false) × (o ≡ None)
none_first true x o e = absurd cc
none_first false x o e = (refl, e)

-- none so far, and not the next either
pub none_more : (test : ℕ → Bool) (from k x : ℕ) → from + k ≡ x → find test (range_with_len from k) ≡ None → test x ≡ false → find test (range_with_len from (suc k)) ≡ None
none_more test from zero x at e here = let first : from ≡ x = omega arith in rw (first, here) refl
none_more test from (suc k) x at e here =
    let parts = none_first (test from) from (find test (range_with_len (from + 1) k)) e in
    rw parts.0 (none_more test (from + 1) k x (omega arith) parts.1 here)

-- none so far, and then one
pub first_at : (test : ℕ → Bool) (from k n x : ℕ) → from + k ≡ x → k < n → find test (range_with_len from k) ≡ None → test x ≡ true → find test (range_with_len from n) ≡ Some x
first_at test from k zero x at lt e here = absurd (omega arith)
first_at test from zero (suc n) x at lt e here = let first : from ≡ x = omega arith in rw (first, here) refl
first_at test from (suc k) (suc n) x at lt e here =
    let parts = none_first (test from) from (find test (range_with_len (from + 1) k)) e in
    rw parts.0 (first_at test (from + 1) k n x (omega arith) (omega arith) parts.1 here)

-- a cell that was read is the one at its place
pub shown : (cells : List Cell) (at : ℕ) (c : Cell) (but : ℕ) → at < length cells → c ≡ get_or cells at c
    → (is_implicitly_opened (cell_in cells at).state && not (at == but)) ≡ (is_implicitly_opened c.state && not (at == but))
shown cells at c but lt is =
    let same : cell_in cells at ≡ c = get_or_default cells at no_cell c lt ∙ sym is in
    ap (λ (x : Cell). is_implicitly_opened x.state && not (at == but)) same

-- what is found is an Implicitly Opened zone other than the one at `but`
pub record IsFound (cells : List Cell) (but y : ℕ) : Type 0 where
  pub below : y < length cells
  pub opened : is_implicitly_opened (cell_in cells y).state ≡ true
  pub apart : y ≢ but

in_range : (test : ℕ → Bool) (from n x : ℕ) → find test (range_with_len from n) ≡ Some x → (test x ≡ true) × (x < from + n)
in_range test from zero x e = absurd cc
in_range test from (suc n) x e = by_first (test from) refl e (in_range test (from + 1) n x)
  where
    by_first : (b : Bool) → test from ≡ b → cond b (Some from) (find test (range_with_len (from + 1) n)) ≡ Some x
        → (find test (range_with_len (from + 1) n) ≡ Some x → (test x ≡ true) × (x < from + 1 + n)) → (test x ≡ true) × (x < from + suc n)
    by_first true is e later = let same : from ≡ x = cc in (ap test (sym same) ∙ is, omega arith)
    by_first false is e later = let rest = later e in (rest.0, omega (arith, rest.1))

pub found_there : (cells : List Cell) (but y : ℕ) → evictable_in cells but ≡ Some y → IsFound cells but y
found_there cells but y e =
    let is = in_range (λ at. is_implicitly_opened (cell_in cells at).state && not (at == but)) 0 (length cells) y e in
    let parts = and_parts _ _ is.0 in
    record { below = omega (arith, is.1); opened = parts.0; apart = eqb-false y but (not-true _ parts.1) }
