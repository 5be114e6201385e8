-- An input whose front was taken, while the rest still comes from a source.
use Rattle.std.specs.Prelude.{◌≡◌, ℕ, ◌+◌, ◌^◌, List, ◌++◌, length, Option, Some}
use Rattle.std.specs.Io.KnownBytes.{Consumes}
use Rattle.zns_io.specs.Faults.{Rose}
use Rattle.zns_program.specs.declared.compare_err.CompareErr.{CompareErr}
use Rattle.zns_program.specs.declared.compare_err.CompareErr.TheVariants as compare_err
use Rattle.zns_program.specs.Differences.{StandAt, DiffersFrom, IsDifference}

-- the bytes that were read and not taken, and the number of bytes taken before them
pub record TailBytes : Type 0 where
  pub held : List ℕ
  pub at : ℕ

-- The input is what was taken, what was read after it, and what the source still tells. No input is, if the source tells nothing.
pub record IsIn (input : List ℕ) (left : Option (List ℕ)) (t : TailBytes) : Type 0 where
  pub front : List ℕ
  pub long : length front ≡ t.at
  pub came : Consumes (Some input) left (front ++ t.held)

-- the input stays the same
abbrev pub StaysIn : Option (List ℕ) → Option (List ℕ) → TailBytes → TailBytes → Type 0
StaysIn left now old new = (input : List ℕ) → IsIn input left old → IsIn input now new

-- one byte more was read than the longest input has
abbrev pub IsOver : TailBytes → Type 0
IsOver t = t.at + length t.held ≡ 2 ^ 29 + 1

-- these bytes came next, and were taken
pub record ComeNext (left : Option (List ℕ)) (old new : TailBytes) (bytes : List ℕ) : Type 0 where
  pub at : new.at ≡ old.at + length bytes
  pub stand : (input : List ℕ) → IsIn input left old → StandAt input old.at bytes new.at

-- whatever comes after these bytes, the input first differs from them at this offset
abbrev pub ComeOthers : Option (List ℕ) → TailBytes → List ℕ → ℕ → Type 0
ComeOthers left old bytes offset = (input : List ℕ) → IsIn input left old → DiffersFrom input old.at bytes offset

-- the rest of the input first differs from these bytes at this offset
abbrev pub ComeOtherwise : Option (List ℕ) → TailBytes → List ℕ → ℕ → Type 0
ComeOtherwise left old bytes offset = (input : List ℕ) → IsIn input left old → IsDifference input old.at bytes offset

-- What an error of a comparison says. The offset of a difference satisfies `Differ`.
abbrev pub StopsBy : ℕ → ℕ → TailBytes → (ℕ → Type 0) → CompareErr → Type 0
StopsBy faults faults_now new Differ compare_err.NoMemory = Unit {0}
StopsBy faults faults_now new Differ compare_err.Failed = Rose faults faults_now
StopsBy faults faults_now new Differ compare_err.Over = IsOver new
StopsBy faults faults_now new Differ (compare_err.Differs offset) = Differ offset
