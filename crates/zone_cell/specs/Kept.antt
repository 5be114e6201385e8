-- How the blocks of a cell lie in its bytes: one after another, each with a mark that tells whether it was written.
use Rattle.std.specs.Prelude.{◌≡◌, ℕ, ◌+◌, ◌*◌, ◌^◌, ◌≤◌, Bool, true, false, if◌then◌else◌, List, ◌++◌, length, take, drop, map, slice_index_or, Option, Some, None}
use Rattle.std.specs.List.{range_with_len}
use Rattle.zns_io.specs.Padding.{padded}
use Rattle.drive_rules.specs.Blocks.{block_at}

-- a block of the bytes, if it is marked
abbrev pub kept_block : ℕ → List ℕ → List Bool → ℕ → Option (List ℕ)
kept_block len bytes marks b = if slice_index_or marks b false then Some (block_at len bytes b) else None

-- all of them
abbrev pub kept_blocks : ℕ → List ℕ → List Bool → List (Option (List ℕ))
kept_blocks len bytes marks = map (kept_block len bytes marks) (range_with_len 0 (length marks))

-- the bytes with data written at a place; if the place is past their end, zeros fill the gap
abbrev pub laid : ℕ → List ℕ → List ℕ → List ℕ
laid place payload bytes = take place all ++ payload ++ drop (place + length payload) all
  where
    all : List ℕ
    all = padded (place + length payload) bytes

-- The invariant of every cell: blocks of 1 to 4,096 bytes, one for each mark, with room for all of them; the marked blocks lie within the
-- bytes; and the pointer is at a block or at their end.
pub record IsSound (block_len pointer byte_count capacity : ℕ) (marks : List Bool) : Type 0 where
  pub some_len : 1 ≤ block_len
  pub small_len : block_len ≤ 4096
  pub fits : byte_count ≤ length marks * block_len
  pub room : length marks * block_len ≤ capacity
  pub few_bytes : length marks * block_len ≤ 2 ^ 28
  pub few_marks : length marks ≤ 2 ^ 28
  pub within : pointer ≤ length marks
  pub lies : (b : ℕ) → slice_index_or marks b false ≡ true → (b + 1) * block_len ≤ byte_count
