-- A table of rows, read from the top: each row has a condition and an answer.
use Rattle.std.specs.Prelude.{Bool, if◌then◌else◌, List, [], ◌∷◌, Option, Some, None}

pub record Row (A : Type 0) : Type 0 where
  pub holds : Bool
  pub answer : A

abbrev pub when : {A : Type 0} → Bool → A → Row A
when b a = record { holds = b; answer = a }

-- the answer of the first row that holds, if one does
abbrev pub first_holding : {A : Type 0} → List (Row A) → Option A
first_holding [] = None
first_holding (r ∷ rs) = if r.holds then Some r.answer else first_holding rs
