-- Blocks of data.
use Rattle.std.specs.Prelude.{ℕ, ◌*◌, List, take, drop, replicate, Option, unwrap_or}

-- block number n of host data
abbrev pub block_at : ℕ → List ℕ → ℕ → List ℕ
block_at len payload n = take len (drop (n * len) payload)

-- a block's bytes, or zeros if none were written
abbrev pub seen_block : ℕ → Option (List ℕ) → List ℕ
seen_block len bytes = unwrap_or bytes (replicate len 0)
