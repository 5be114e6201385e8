-- The zones that marks stand for.
use Rattle.std.proofs.Common.{◌≡◌, ℕ, ◌+◌, ◌<◌, ◌≤◌, Bool, true, false, List, [], ◌∷◌, ◌++◌, length, get_or, slice_set, refl, ap, ◌∙◌, inl, inr, arith, append-nil, length-set, get_or-set_same, get_or-set_other}
use Rattle.std.specs.Prelude.{replicate}
use Rattle.std.specs.List.{All}
use Rattle.std.specs.List.Sorted.{IsStrictlyIncreasing}
use Rattle.std.proofs.lemmas.List.{get_or-replicate, get_or_past, length-replicate}
use Rattle.std.proofs.lemmas.List.Elements.{All-contains}
use Rattle.std.proofs.lemmas.Bool.{cases_lt}
use Rattle.changed_log.specs.Logs.{marked_below, marked_zones, with_zone}
use Rattle.changed_log.proofs.Ranges.{filter-none, filter-with_zone, filter-rises, filter-one_more, filter-fewer, filter-has}

unmarked : (n z : ℕ) → get_or (replicate n false) z false ≡ false
unmarked n z = elim (cases_lt z n) [
  | inl within ↦ get_or-replicate n z false false within
  | inr past ↦ get_or_past (replicate n false) z false (omega (arith, length-replicate {A = Bool} n false))
]

-- without marks there are no zones
pub no_marks : (n : ℕ) → marked_zones (replicate n false) ≡ []
unfolding marked_zones
no_marks n = filter-none (λ z. get_or (replicate n false) z false) 0 (length (replicate n false)) (unmarked n)

-- one more mark is one more zone
pub one_mark : (marks : List Bool) (z : ℕ) → z < length marks → marked_zones (slice_set marks z true) ≡ with_zone z (marked_zones marks)
unfolding marked_zones
one_mark marks z within =
    let len : length (slice_set marks z true) ≡ length marks = length-set marks z true in
    ap (λ (n : ℕ). marked_below (slice_set marks z true) n) len
    ∙ filter-with_zone (λ y. get_or marks y false) (λ y. get_or (slice_set marks z true) y false) z 0 (length marks) (get_or-set_same marks z true false within)
    (λ y other. get_or-set_other marks z y true false other) (omega arith) (omega arith)

pub marks_rise : (marks : List Bool) → IsStrictlyIncreasing (marked_zones marks)
unfolding marked_zones
marks_rise marks = filter-rises (λ z. get_or marks z false) (length marks)

-- ---- up to a place

pub marked-all : (marks : List Bool) → marked_below marks (length marks) ≡ marked_zones marks
unfolding marked_zones
marked-all marks = refl

pub marked-here : (marks : List Bool) (i : ℕ) → get_or marks i false ≡ true → marked_below marks (i + 1) ≡ marked_below marks i ++ i ∷ []
marked-here marks i is = filter-one_more (λ z. get_or marks z false) i ∙ rw is refl

pub marked-elsewhere : (marks : List Bool) (i : ℕ) → get_or marks i false ≡ false → marked_below marks (i + 1) ≡ marked_below marks i
marked-elsewhere marks i isnt = filter-one_more (λ z. get_or marks z false) i ∙ rw isnt (append-nil _)

-- no more zones are marked below a place than in all
pub marked-fewer : (marks : List Bool) (i : ℕ) → i ≤ length marks → length (marked_below marks i) ≤ length (marked_zones marks)
unfolding marked_zones
marked-fewer marks i le = filter-fewer (λ z. get_or marks z false) i (length marks) le

-- what holds of all marked zones holds of each one
pub marked-holds : (P : ℕ → Type 0) (marks : List Bool) (i : ℕ) → i < length marks → get_or marks i false ≡ true → All P (marked_zones marks) → P i
unfolding marked_zones
marked-holds P marks i lt is all = All-contains P (marked_zones marks) i all (filter-has (λ z. get_or marks z false) i (length marks) lt is)
