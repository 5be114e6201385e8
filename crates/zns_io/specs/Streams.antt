-- Readers and writers of the standard library, as sources and sinks.
use Rattle.std.specs.Prelude.{◌≡◌, ℕ, List, Option, Some, None, IsSome, Result, is_err}
use Rattle.zns_io.specs.Faults.{count_after}
use Rattle.zns_io.specs.declared.failed.Failed.{Failed}

-- What a stream tells of its bytes, and how many of its calls failed.
pub record Stream : Type 0 where
  pub told : Option (List ℕ)
  pub faults : ℕ

-- what a stream tells now, if it told something at first
abbrev pub bytes_told_since : Option (List ℕ) → Option (List ℕ) → Option (List ℕ)
bytes_told_since None now = None
bytes_told_since (Some first) now = now

-- a stream that told something at first tells something now
abbrev pub StaysTold : Option (List ℕ) → Option (List ℕ) → Type 0
StaysTold first now = IsSome first → IsSome now

-- only a write that fails is counted
abbrev pub WritesCounted : Stream → List ℕ → Result ℕ Failed → Stream → Type 0
WritesCounted stream offered result after = after.faults ≡ count_after stream.faults (is_err result)

-- only a read that fails is counted
abbrev pub ReadsCounted : Stream → List ℕ → Result ℕ Failed → List ℕ → Stream → Type 0
ReadsCounted stream room result out after = after.faults ≡ count_after stream.faults (is_err result)
