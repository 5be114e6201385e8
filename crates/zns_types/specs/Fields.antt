-- Numbers in bytes, the lowest byte first, and the bits of a number.
use Rattle.std.specs.Prelude.{ℕ, ◌+◌, ◌*◌, ◌-◌, ◌/◌, ◌%◌, ◌^◌, Bool, ◌==◌, List, drop}
use Rattle.byteorder.specs.Endian.{little_number}

-- the number in `width` bytes from `place` on
abbrev pub field : ℕ → ℕ → List ℕ → ℕ
field place width bytes = little_number width (drop place bytes)

-- dword k of an entry
abbrev pub dword : ℕ → List ℕ → ℕ
dword k entry = field (4 * k) 4 entry

-- the number whose low half is dword k and whose high half is the next
abbrev pub long : ℕ → List ℕ → ℕ
long k entry = field (4 * k) 8 entry

-- the bits from high down to low of a number
abbrev pub bits : ℕ → ℕ → ℕ → ℕ
bits high low n = n / 2 ^ low % 2 ^ (high + 1 - low)

abbrev pub bit : ℕ → ℕ → Bool
bit place n = bits place place n == 1
