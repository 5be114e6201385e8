-- A field of bytes and the number in it, for any width and any place.
use Rattle.std.proofs.Common.{◌≡◌, ◌↔◌, ℕ, zero, suc, ◌+◌, ◌*◌, ◌/◌, ◌%◌, ◌^◌, ◌<◌, ◌≤◌, List, [], ◌∷◌, ◌++◌, length, take, drop, refl, sym, ap, ◌∙◌, arith, length-drop}
use Rattle.std.proofs.Math.Nat.{div-div-eq-div-mul, div-one, pow-succ'}
use Rattle.std.proofs.Math.Seq.{drop-append_seam}
use Rattle.std.proofs.lemmas.List.{take-append-drop, get_or-drop}
use Rattle.std.specs.Prelude.{slice_index}
use Rattle.std.specs.Int.{byte_at, bytes_low_first}
use Rattle.byteorder.specs.Endian.{little_number, little_bytes}
use Rattle.byteorder.specs.Numbers.{little_from-cons, little_number-reads_back}
use Rattle.zns_types.specs.Fields.{field}

byte_at-pow : (k n : ℕ) → byte_at k n ≡ n / 256 ^ k % 256
byte_at-pow zero n = ap (λ (m : ℕ). m % 256) (sym (div-one n))
byte_at-pow (suc k) n = refl

-- a byte put below a number moves its bytes up by one
byte_at-above : (k b n : ℕ) → b < 256 → byte_at (suc k) (b + 256 * n) ≡ byte_at k n
byte_at-above k b n h =
    let above : (b + 256 * n) / 256 ≡ n = omega arith in
    rw (pow-succ' 256 k, ← div-div-eq-div-mul (b + 256 * n) 256 (256 ^ k), above) (sym (byte_at-pow k n))

bytes_low_first-above : (width k b n : ℕ) → b < 256 → bytes_low_first (suc k) width (b + 256 * n) ≡ bytes_low_first k width n
bytes_low_first-above zero k b n h = refl
bytes_low_first-above (suc width) k b n h = rw (byte_at-above k b n h, bytes_low_first-above width (suc k) b n h) refl

-- the bytes of the number that the first bytes spell are these bytes
little_bytes-little_number : (width : ℕ) (bytes : List ℕ) → width ≤ length bytes → ((i : ℕ) → slice_index bytes i < 256) → little_bytes width (little_number width bytes) ≡ take width bytes
little_bytes-little_number zero bytes h fits = refl
little_bytes-little_number (suc width) [] h fits = absurd (omega arith)
little_bytes-little_number (suc width) (b ∷ bytes) h fits =
    let low : b < 256 = fits 0 in
    let first : (b + 256 * little_number width bytes) % 256 ≡ b = omega arith in
    rw (little_from-cons 0 width b bytes, first, bytes_low_first-above width 0 b (little_number width bytes) low, little_bytes-little_number width bytes (omega arith) (λ i. fits (suc i))) refl

-- the bytes of the number in a field are the field's bytes
pub little_bytes-field : (place width : ℕ) (bytes : List ℕ) → place + width ≤ length bytes → ((i : ℕ) → slice_index bytes i < 256) → little_bytes width (field place width bytes) ≡ take width (drop place bytes)
little_bytes-field place width bytes h fits =
    little_bytes-little_number width (drop place bytes) (omega (arith, length-drop place bytes)) (λ i. rw get_or-drop (fits (place + i)))

-- a field whose bytes are those of a number has this number
pub field-from_bytes : (place width n : ℕ) (bytes : List ℕ) → n < 256 ^ width → take width (drop place bytes) ≡ little_bytes width n → field place width bytes ≡ n
field-from_bytes place width n bytes h e =
    ap (little_number width) (sym (take-append-drop width (drop place bytes)) ∙ ap (λ (b : List ℕ). b ++ drop width (drop place bytes)) e)
    ∙ little_number-reads_back width n (drop width (drop place bytes)) h

-- a number that is written at a place is the number in the field there
pub field-append : (place width n : ℕ) (before after : List ℕ) → length before ≡ place → n < 256 ^ width → field place width (before ++ (little_bytes width n ++ after)) ≡ n
field-append place width n before after e h =
    rw (← e, drop-append_seam before (little_bytes width n ++ after)) (little_number-reads_back width n after h)

-- a field has a number if and only if its bytes are those of the number
pub field_spells : (place width n : ℕ) (bytes : List ℕ) → place + width ≤ length bytes → ((i : ℕ) → slice_index bytes i < 256) → n < 256 ^ width → (field place width bytes ≡ n) ↔ (take width (drop place bytes) ≡ little_bytes width n)
field_spells place width n bytes h fits lt =
    (λ e. sym (little_bytes-field place width bytes h fits) ∙ ap (little_bytes width) e, field-from_bytes place width n bytes lt)
