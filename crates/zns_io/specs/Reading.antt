-- What reading a source to its end answers, and the reads it makes.
use Rattle.std.specs.Prelude.{◌≡◌, ℕ, ◌+◌, ◌<◌, ◌≤◌, List, [], ◌++◌, length, take, drop, Option, Some, None, Result, Ok, Err, ⊤}
use Rattle.zns_io.specs.declared.failed.Failed.{Failed}
use Rattle.zns_io.specs.declared.bytes.Bytes.{Bytes}
use Rattle.zns_io.specs.declared.read_err.ReadErr.{ReadErr}
use Rattle.zns_io.specs.declared.read_err.ReadErr.TheVariants as errors

-- These are all the bytes that were told, and the source tells that nothing is left.
abbrev pub ReadsAll : Option (List ℕ) → Option (List ℕ) → List ℕ → Type 0
ReadsAll None now bytes = ⊤
ReadsAll (Some before) now bytes = (bytes ≡ before) × (now ≡ Some [])

-- The first bytes, as many as the count, were read, and the source tells the rest.
abbrev pub ReadsFront : Option (List ℕ) → Option (List ℕ) → ℕ → Type 0
ReadsFront None now count = ⊤
ReadsFront (Some before) now count = (count ≤ length before) × (now ≡ Some (drop count before))

-- At most this many of the first bytes were read, and the source tells the rest.
abbrev pub ReadsFrontUpTo : Option (List ℕ) → Option (List ℕ) → ℕ → Type 0
ReadsFrontUpTo before now most = (count : ℕ) × (count ≤ most) × ReadsFront before now count

-- The answer depends on whether more bytes were told than the limit.
abbrev pub IsByLimit : Option (List ℕ) → ℕ → Result Bytes ReadErr → Type 0
IsByLimit None limit result = ⊤
IsByLimit (Some told) limit (Ok bytes) = length told ≤ limit
IsByLimit (Some told) limit (Err errors.Over) = limit < length told
IsByLimit (Some told) limit (Err errors.NoMemory) = ⊤
IsByLimit (Some told) limit (Err errors.Failed) = ⊤

-- Reads one after another that each gave some bytes, and all these bytes. `step` relates a source and the buffer that it is given to an
-- answer, the buffer after and the source after.
pub data GaveInTurn {S : Type 0} (step : S → List ℕ → Result ℕ Failed → List ℕ → S → Type 0) (first : S) : List ℕ → S → Type 0 where
  none_read : GaveInTurn step first [] first
  one_read : {now next : S} {bytes room out : List ℕ} {count : ℕ} →
      GaveInTurn step first bytes now → 0 < count → step now room (Ok count) out next → GaveInTurn step first (bytes ++ take count out) next

-- Reading ends at the first read that gives nothing or fails. Otherwise more bytes came than the limit, or memory ran out.
abbrev pub ReadsInTurn : {S : Type 0} → (S → List ℕ → Result ℕ Failed → List ℕ → S → Type 0) → S → ℕ → Result Bytes ReadErr → S → Type 0
ReadsInTurn {S} step first limit (Ok bytes) last =
    (now : S) × (room : List ℕ) × (out : List ℕ) × GaveInTurn step first bytes now × step now room (Ok 0) out last
ReadsInTurn {S} step first limit (Err errors.Failed) last =
    (bytes : List ℕ) × (now : S) × (room : List ℕ) × (out : List ℕ) × (e : Failed) × (length bytes ≤ limit) × GaveInTurn step first bytes now × step now room (Err e) out last
ReadsInTurn step first limit (Err errors.Over) last = (bytes : List ℕ) × (length bytes ≡ limit + 1) × GaveInTurn step first bytes last
ReadsInTurn step first limit (Err errors.NoMemory) last = (bytes : List ℕ) × (length bytes ≤ limit + 1) × GaveInTurn step first bytes last
