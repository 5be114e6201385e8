-- The least number with a property, and the least multiple that reaches a bound.
use Rattle.std.specs.Prelude.{◌≡◌, ℕ, ◌+◌, ◌*◌, ◌-◌, ◌/◌, ◌≤◌}

-- n has the property, and no smaller number has it
pub record IsLeast (P : ℕ → Type 0) (n : ℕ) : Type 0 where
  pub holds : P n
  pub below : (m : ℕ) → P m → n ≤ m

-- n is a whole number of granules, and at least bound
pub record IsMultipleFrom (granule bound n : ℕ) : Type 0 where
  pub multiple : (k : ℕ) × (n ≡ k * granule)
  pub covers : bound ≤ n

-- the least multiple of a granule that is at least the bound
abbrev pub least_multiple : ℕ → ℕ → ℕ
least_multiple granule bound = (bound + granule - 1) / granule * granule
