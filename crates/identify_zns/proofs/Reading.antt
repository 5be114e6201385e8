-- Fields of a page that is read from some place on.
use Rattle.std.proofs.Common.{◌≡◌, ℕ, ◌-◌, ◌%◌, ◌/◌, eqb, List, length, take, drop, get_or, ap, ◌∙◌, arith}
use Rattle.std.proofs.lemmas.List.{take_rest, get_or-drop}
use Rattle.byteorder.specs.Endian.{little_number}
use Rattle.zns_types.specs.Fields.{field, bit}

pub field-read : (width place : ℕ) (page : List ℕ) (n : ℕ) → n ≡ little_number width (take (length page - place) (drop place page)) → n ≡ field place width page
field-read width place page n read = read ∙ ap (little_number width) (take_rest page place)

pub bit-lowest : (m n : ℕ) → m ≡ n → eqb (m % 2) 1 ≡ bit 0 n
bit-lowest m n e =
    let same : m % 2 ≡ n / 1 % 2 = omega arith in
    ap (λ k. eqb k 1) same

pub field-byte : (place : ℕ) (page : List ℕ) → get_or page place 0 ≡ field place 1 page
field-byte place page =
    let here : get_or (drop place page) 0 0 ≡ get_or page place 0 = get_or-drop place page 0 0 ∙ ap (λ k. get_or page k 0) (omega arith) in
    omega arith
