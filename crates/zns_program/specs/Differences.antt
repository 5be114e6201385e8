-- How an input differs from bytes that are made one part after another.
use Rattle.std.specs.Prelude.{◌≡◌, ℕ, ◌+◌, ◌≤◌, ◌==◌, if◌then◌else◌, List, [], ◌∷◌, ◌++◌, length, drop, Option, Some, None}

-- The first place at which two lists differ or one of them ends, if there is one. Places are counted from this number.
unfoldable pub first_difference : ℕ → List ℕ → List ℕ → Option ℕ
first_difference at [] [] = None
first_difference at [] (y ∷ ys) = Some at
first_difference at (x ∷ xs) [] = Some at
first_difference at (x ∷ xs) (y ∷ ys) = if x == y then first_difference (at + 1) xs ys else Some at

-- the bytes are in the input from one offset to another
pub record StandAt (input : List ℕ) (from : ℕ) (bytes : List ℕ) (to : ℕ) : Type 0 where
  pub there : drop from input ≡ bytes ++ drop to input
  pub end : to ≡ from + length bytes
  pub within : to ≤ length input

-- whatever comes after these bytes, the input from an offset on first differs from them at another offset
abbrev pub DiffersFrom : List ℕ → ℕ → List ℕ → ℕ → Type 0
DiffersFrom input at bytes offset = (after : List ℕ) → first_difference at (drop at input) (bytes ++ after) ≡ Some offset

-- the input from an offset on first differs from these bytes at another offset
abbrev pub IsDifference : List ℕ → ℕ → List ℕ → ℕ → Type 0
IsDifference input at bytes offset = first_difference at (drop at input) bytes ≡ Some offset
