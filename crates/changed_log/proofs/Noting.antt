-- What stays true of the zones of a log when one is added.
use Rattle.std.proofs.Common.{ℕ, eqb, ltb, List, [], ◌∷◌, inl, inr}
use Rattle.std.specs.List.{All}
use Rattle.std.proofs.lemmas.List.Elements.{All-cons, All-head, All-tail}
use Rattle.std.proofs.lemmas.Bool.{cases_Bool}
use Rattle.changed_log.specs.Logs.{with_zone}

-- what holds of the zones and of the one added holds of all
pub All-with_zone : (P : ℕ → Type 0) (z : ℕ) (zones : List ℕ) → P z → All P zones → All P (with_zone z zones)
All-with_zone P z [] here all = All-cons P z [] here all
All-with_zone P z (y ∷ ys) here all = elim (cases_Bool (ltb z y)) [
  | inl below ↦ rw below (All-cons P z (y ∷ ys) here all)
  | inr past ↦ elim (cases_Bool (eqb z y)) [
    | inl same ↦ rw (past, same) all
    | inr other ↦ rw (past, other) (All-cons P y (with_zone z ys) (All-head P y ys all) (All-with_zone P z ys here (All-tail P y ys all)))
  ]
]
