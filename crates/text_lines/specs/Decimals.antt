-- Numbers spelled in decimal digits.
use Rattle.std.specs.Prelude.{◌≡◌, ℕ, ◌<◌, ◌^◌, ◌&&◌, ◌⊎◌, nat_lt, List, length, slice_index, Option, Some, None, if◌then◌else◌}
use Rattle.std.specs.Fmt.{decimal}
use Rattle.std.specs.Str.{bytes_eq}
use Rattle.std.specs.Str.Parse.{digits_value}

-- The number below 2^64 that a word spells as it is printed: without a sign and without leading zeros.
unfoldable pub number_in : List ℕ → Option ℕ
number_in word = if bytes_eq word (decimal (digits_value 10 word)) && nat_lt (digits_value 10 word) (2 ^ 64) then Some (digits_value 10 word) else None

-- A word begins as no printed number does: with a plus, or with a zero before something else.
abbrev pub BeginsOtherwise : List ℕ → Type 0
BeginsOtherwise word = (slice_index word 0 ≡ 43) ⊎ ((slice_index word 0 ≡ 48) × (1 < length word))
