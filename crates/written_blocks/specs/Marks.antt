-- Marks of blocks: a list of truth values, and the words of 64 bits that hold it, the lowest bit first.
use Rattle.std.specs.Prelude.{ℕ, ◌+◌, ◌/◌, ◌%◌, Bool, true, not, ◌&&◌, ◌==◌, nat_le, nat_lt, List, ◌++◌, map, take, drop, replicate, count_by, slice_index, slice_range}
use Rattle.std.specs.Int.{bit_at}
use Rattle.std.specs.List.{range_with_len}

-- the marks, with a count of blocks from a first one on marked too
abbrev pub marked : List Bool → ℕ → ℕ → List Bool
marked marks from count = take from marks ++ (replicate count true ++ drop (from + count) marks)

-- how many blocks from one up to but not including another aren't marked
abbrev pub holes : List Bool → ℕ → ℕ → ℕ
holes marks from to = count_by not (slice_range marks from to)

-- a block lies from one up to but not including another
abbrev pub lies_within : ℕ → ℕ → ℕ → Bool
lies_within from to block = nat_le from block && nat_lt block to

-- a block's bit is set
abbrev pub is_set : List ℕ → ℕ → Bool
is_set words block = bit_at (slice_index words (block / 64)) (block % 64) == 1

-- the marks of this many blocks, held in words
abbrev pub marks_of : ℕ → List ℕ → List Bool
marks_of blocks words = map (is_set words) (range_with_len 0 blocks)
