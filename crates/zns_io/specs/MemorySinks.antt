-- Sinks that keep bytes in memory, up to their room.
use Rattle.std.specs.Prelude.{◌≡◌, ℕ, Bool, false, ◌||◌, ◌+◌, ◌-◌, nat_le, ◌++◌, min, List, length, take, Option, Some, None, Result, Ok, IfOk, is_err, if◌then◌else◌}
use Rattle.zns_io.specs.declared.failed.Failed.{Failed}
use Rattle.zns_io.specs.Calls.{Calls, is_due, calls_after}

-- The bytes kept, whether no write was dropped, the most bytes that are kept, and the most that one write takes.
pub record SinkBytes : Type 0 where
  pub kept : List ℕ
  pub whole : Bool
  pub room : ℕ
  pub piece : ℕ

-- what a sink tells: nothing once a write was dropped
abbrev pub bytes_told : SinkBytes → Option (List ℕ)
bytes_told sink = if sink.whole then Some sink.kept else None

-- how many of the offered bytes a write takes
abbrev pub write_len : ℕ → List ℕ → ℕ
write_len piece offered = min (length offered) piece

-- the sink after a write, which is dropped if it doesn't fit
abbrev pub sink_after_write : SinkBytes → List ℕ → SinkBytes
sink_after_write sink offered =
    let n = write_len sink.piece offered in
    let fits = nat_le (length sink.kept + n) sink.room in
    record {
      kept = if fits then sink.kept ++ take n offered else sink.kept;
      whole = if fits then sink.whole else false;
      room = sink.room;
      piece = sink.piece;
    }

-- what a write answers, and the sink after it
abbrev pub WritesSurely : SinkBytes → List ℕ → Result ℕ Failed → SinkBytes → Type 0
WritesSurely sink offered result after = (result ≡ Ok (write_len sink.piece offered)) × (after ≡ sink_after_write sink offered)

-- A sink that takes no more than its room, with some failing calls: the bytes taken, the most bytes that are taken, and the most that one
-- write takes.
pub record FailingSink : Type 0 where
  pub taken : List ℕ
  pub room : ℕ
  pub piece : ℕ
  pub calls : Calls

-- the next write fails
abbrev pub is_due_or_full : FailingSink → Bool
is_due_or_full sink = is_due sink.calls || nat_le sink.room (length sink.taken)

-- how many of the offered bytes a successful write takes
abbrev pub write_len_in_room : FailingSink → List ℕ → ℕ
write_len_in_room sink offered = min (write_len sink.piece offered) (sink.room - length sink.taken)

-- the sink after a write
abbrev pub sink_after_call : FailingSink → List ℕ → FailingSink
sink_after_call sink offered =
    record {
      taken = if is_due_or_full sink then sink.taken else sink.taken ++ take (write_len_in_room sink offered) offered;
      room = sink.room;
      piece = sink.piece;
      calls = calls_after sink.calls (is_due_or_full sink);
    }

-- what a write answers, and the sink after it
abbrev pub WritesInRoom : FailingSink → List ℕ → Result ℕ Failed → FailingSink → Type 0
WritesInRoom sink offered result after =
    (is_err result ≡ is_due_or_full sink) × IfOk result (λ n. n ≡ write_len_in_room sink offered) × (after ≡ sink_after_call sink offered)
