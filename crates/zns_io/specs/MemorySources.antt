-- Sources of bytes in memory.
use Rattle.std.specs.Prelude.{◌≡◌, ℕ, ◌++◌, min, List, length, take, drop, Result, Ok, IfOk, OnOk, OnErr, is_err, if◌then◌else◌}
use Rattle.zns_io.specs.declared.failed.Failed.{Failed}
use Rattle.zns_io.specs.Calls.{Calls, is_due, calls_after}

-- The bytes still to come, and the most that one read gives.
pub record SourceBytes : Type 0 where
  pub left : List ℕ
  pub piece : ℕ

-- how many bytes a read gives into a buffer of this length
abbrev pub read_len : SourceBytes → ℕ → ℕ
read_len source room = min (length source.left) (min room source.piece)

-- the bytes in `out` after a read
abbrev pub out_after_read : SourceBytes → List ℕ → List ℕ
out_after_read source out =
    let n = read_len source (length out) in take n source.left ++ drop n out

-- the source after a read into a buffer of this length
abbrev pub source_after_read : SourceBytes → ℕ → SourceBytes
source_after_read source room =
    record { left = drop (read_len source room) source.left; piece = source.piece }

-- what a read answers, the buffer after it and the source after it
abbrev pub GivesSurely : SourceBytes → List ℕ → Result ℕ Failed → List ℕ → SourceBytes → Type 0
GivesSurely source room result out after =
    (result ≡ Ok (read_len source (length room))) × (out ≡ out_after_read source room) × (after ≡ source_after_read source (length room))

-- A source with some failing calls.
pub record FailingSource : Type 0 where
  pub bytes : SourceBytes
  pub calls : Calls

-- the source after a read into a buffer of this length
abbrev pub source_after_call : FailingSource → ℕ → FailingSource
source_after_call source room =
    record {
      bytes = if is_due source.calls then source.bytes else source_after_read source.bytes room;
      calls = calls_after source.calls (is_due source.calls);
    }

-- what a read answers, the buffer after it and the source after it
abbrev pub GivesOrFails : FailingSource → List ℕ → Result ℕ Failed → List ℕ → FailingSource → Type 0
GivesOrFails source room result out after =
    (is_err result ≡ is_due source.calls)
    × IfOk result (λ n. n ≡ read_len source.bytes (length room))
    × OnOk result (out ≡ out_after_read source.bytes room)
    × OnErr result (out ≡ room)
    × (after ≡ source_after_call source (length room))
