-- Pages of 4,096 bytes, given by the fields in them.
use Rattle.std.specs.Prelude.{ℕ, ◌+◌, ◌-◌, List, [], ◌∷◌, ◌++◌, length, take, drop, replicate}
use Rattle.byteorder.specs.Endian.{little_bytes}

-- a field: the place of its first byte, and its bytes
pub record PageField : Type 0 where
  pub place : ℕ
  pub bytes : List ℕ

-- a field at a place, of a width in bytes, that holds a number, the lowest byte first
abbrev pub number_at : ℕ → ℕ → ℕ → PageField
number_at place width n = record { place = place; bytes = little_bytes width n }

-- a field of one byte
abbrev pub byte_at : ℕ → ℕ → PageField
byte_at place byte = record { place = place; bytes = byte ∷ [] }

-- a page from a place on: zeros up to each field and after the last
abbrev pub page_from : ℕ → List PageField → List ℕ
page_from here [] = replicate (4096 - here) 0
page_from here (f ∷ fs) = replicate (f.place - here) 0 ++ (f.bytes ++ page_from (f.place + length f.bytes) fs)

-- the page with these fields, which are in order
unfoldable pub page : List PageField → List ℕ
page fields = page_from 0 fields

-- bytes with some of them, from a place on, replaced by others
unfoldable pub overwritten : List ℕ → ℕ → List ℕ → List ℕ
overwritten old place bytes = take place old ++ (bytes ++ drop (place + length bytes) old)
