-- A field of bytes taken apart.
use Rattle.std.proofs.Common.{◌≡◌, ℕ, zero, suc, ◌+◌, ◌*◌, ◌^◌, List, drop, refl, ap, ◌∙◌, arith}
use Rattle.std.proofs.Math.Nat.{pow-suc}
use Rattle.std.proofs.lemmas.List.{get_or-drop}
use Rattle.byteorder.specs.Endian.{little_from}
use Rattle.zns_types.specs.Fields.{field}

-- a place after the first j bytes is a place of all bytes
little_from-drop : (n i j : ℕ) (xs : List ℕ) → little_from i n (drop j xs) ≡ little_from (j + i) n xs
little_from-drop zero i j xs = refl
little_from-drop (suc n) i j xs =
    let next : j + suc i ≡ suc (j + i) = omega arith in
    rw (get_or-drop j xs i 0, little_from-drop n (suc i) j xs, next) refl

little_from-widths : (m n i : ℕ) (xs : List ℕ) → little_from i (m + n) xs ≡ little_from i m xs + 256 ^ m * little_from (i + m) n xs
little_from-widths zero n i xs =
    let none : zero + n ≡ n = omega arith in
    let here : i + zero ≡ i = omega arith in
    rw (none, here) (omega arith)
little_from-widths (suc m) n i xs =
    let more : suc m + n ≡ suc (m + n) = omega arith in
    let next : i + suc m ≡ suc i + m = omega arith in
    rw (more, next, little_from-widths m n (suc i) xs, pow-suc 256 m) (omega arith)

-- a field by its place in all of the bytes
field-from : (place width : ℕ) (bytes : List ℕ) → field place width bytes ≡ little_from place width bytes
field-from place width bytes =
    let start : place + zero ≡ place = omega arith in
    little_from-drop width 0 place bytes ∙ ap (λ (i : ℕ). little_from i width bytes) start

-- a field is its low bytes and, above them, the field that follows them
pub field-widths : (place low high : ℕ) (bytes : List ℕ) → field place (low + high) bytes ≡ field place low bytes + 256 ^ low * field (place + low) high bytes
field-widths place low high bytes =
    let whole = field-from place (low + high) bytes in
    let front = field-from place low bytes in
    let back = field-from (place + low) high bytes in
    let joined = little_from-widths low high place bytes in
    cc
