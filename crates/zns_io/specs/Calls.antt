-- Calls numbered from 0, of which those in a list fail.
use Rattle.std.specs.Prelude.{ℕ, Bool, List, ◌==◌}
use Rattle.std.specs.List.{list_any}
use Rattle.zns_io.specs.Faults.{next_count, count_after}

-- The numbers of the calls that fail, how many calls were made, and how many of them failed. Both counts stop at the last number of a
-- `u64`, which is above each number of a list of `u32`.
pub record Calls : Type 0 where
  pub failing : List ℕ
  pub made : ℕ
  pub faults : ℕ

-- the next call is one that fails
abbrev pub is_due : Calls → Bool
is_due calls = list_any (λ number. number == calls.made) calls.failing

-- the calls after one more, which fails or not
abbrev pub calls_after : Calls → Bool → Calls
calls_after calls fails =
    record { failing = calls.failing; made = next_count calls.made; faults = count_after calls.faults fails }
