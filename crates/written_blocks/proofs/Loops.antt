-- How far a loop over blocks has come.
use Rattle.std.proofs.Common.{◌≡◌, ℕ, ◌-◌, ◌≤◌, ◌||◌, List}
use Rattle.std.specs.Prelude.{count_by}
use Rattle.std.specs.List.{range_with_len}
use Rattle.written_blocks.specs.Marks.{is_set, lies_within}

-- the bits of the blocks before the place are set
pub record SetsTo (old new : List ℕ) (from to at : ℕ) : Type 0 where
  pub low : from ≤ at
  pub high : at ≤ to
  pub bits : (block : ℕ) → is_set new block ≡ (lies_within from at block || is_set old block)

-- the bits of the blocks before the place are counted
pub record CountsTo (words : List ℕ) (from to at set : ℕ) : Type 0 where
  pub low : from ≤ at
  pub high : at ≤ to
  pub count : set ≡ count_by (is_set words) (range_with_len from (at - from))
