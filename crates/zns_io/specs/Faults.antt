-- Counts that stop at the last number of a `u64`, as counts of faults do.
use Rattle.std.specs.Prelude.{ℕ, Bool, ◌+◌, ◌-◌, ◌^◌, ◌≤◌, min, if◌then◌else◌}

-- a count after one more
abbrev pub next_count : ℕ → ℕ
next_count count = min (count + 1) (2 ^ 64 - 1)

-- a count of faults after a call, which fails or not
abbrev pub count_after : ℕ → Bool → ℕ
count_after count fails = if fails then next_count count else count

-- a count rose, or stays at its last number
abbrev pub Rose : ℕ → ℕ → Type 0
Rose before now = next_count before ≤ now
