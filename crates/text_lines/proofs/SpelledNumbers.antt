-- A word spells a number exactly if it is how the number is printed.
use Rattle.std.proofs.Common.{◌≡◌, ℕ, ◌<◌, ◌≤◌, ◌^◌, Bool, true, false, List, length, get_or, Option, Some, None, Result, Ok, Err, refl, sym, ap, subst, ◌∙◌, inl, inr, arith, zero, suc}
use Rattle.std.specs.Prelude.{◌&&◌, ◌≢◌, ◌↔◌, nat_lt, if◌then◌else◌}
use Rattle.std.specs.Fmt.{decimal}
use Rattle.std.specs.Str.{bytes_eq, IsUtf8}
use Rattle.std.specs.Str.Parse.{AllDigits, digits_value, ParsesUnsigned}
use Rattle.std.proofs.lemmas.Bool.{cases_lt}
use Rattle.std.proofs.lemmas.Bool.Decides.{nat_tests}
use Rattle.std.proofs.lemmas.Slice.Eq.{bytes_eq-Decides}
use Rattle.std.proofs.lemmas.Str.{IsUtf8-from_ascii}
use Rattle.std.proofs.lemmas.Str.Parse.{IsNumeralModel, numerals_by_value, tells_digits, parse_plain}
use Rattle.std.proofs.lemmas.Fmt.{decimal_is_IsNumeral, decimal-digits_value, decimal_digit, first_decimal, parse-decimal, IsAscii-decimal}
use Rattle.std.specs.Result.{result_ok}
use Rattle.text_lines.specs.Decimals.{number_in, BeginsOtherwise}

own : IsNumeralModel (AllDigits 10) (digits_value 10)
own = numerals_by_value (AllDigits 10) tells_digits

-- ---- the definition

abbrev chosen : Bool → Bool → ℕ → Option ℕ
chosen same small value = if same && small then Some value else None

by_tests : (word : List ℕ) → number_in word ≡ chosen (bytes_eq word (decimal (digits_value 10 word))) (nat_lt (digits_value 10 word) (2 ^ 64)) (digits_value 10 word)
unfolding number_in
by_tests word = refl

record IsChosen (same small : Bool) (value n : ℕ) : Type 0 where
  is_same : same ≡ true
  is_small : small ≡ true
  is : value ≡ n

is_chosen : (same small : Bool) (value n : ℕ) → chosen same small value ≡ Some n → IsChosen same small value n
is_chosen true true value n e = record { is_same = refl; is_small = refl; is = cc }
is_chosen true false value n e = absurd cc
is_chosen false small value n e = absurd cc

-- a number that is found is the one that the word spells
pub number_in-spelled : (word : List ℕ) (n : ℕ) → number_in word ≡ Some n → (word ≡ decimal n) × (n < 2 ^ 64)
number_in-spelled word n found =
    let by = is_chosen (bytes_eq word (decimal (digits_value 10 word))) (nat_lt (digits_value 10 word) (2 ^ 64)) (digits_value 10 word) n (sym (by_tests word) ∙ found) in
    let is : digits_value 10 word ≡ n = by.is in
    let small : digits_value 10 word < 2 ^ 64 = grind (arith, nat_tests, by.is_small) in
    let P : ℕ → Type 0 = λ value. (word ≡ decimal value) × (value < 2 ^ 64) in
    subst P is ((bytes_eq-Decides word (decimal (digits_value 10 word))).0 by.is_same, small)

chosen_same : (same small : Bool) (value n : ℕ) → same ≡ true → small ≡ true → value ≡ n → chosen same small value ≡ Some n
chosen_same true true value n is_same is_small is = ap Some is
chosen_same true false value n is_same is_small is = absurd cc
chosen_same false small value n is_same is_small is = absurd cc

-- for a word that spells a number, that number is found
pub number_in-decimal : (word : List ℕ) (n : ℕ) → word ≡ decimal n → n < 2 ^ 64 → number_in word ≡ Some n
number_in-decimal word n is small =
    let value : digits_value 10 word ≡ n = ap (digits_value 10) is ∙ (decimal_is_IsNumeral n small).1 in
    let same : word ≡ decimal (digits_value 10 word) = is ∙ ap decimal (sym value) in
    let fits : nat_lt (digits_value 10 word) (2 ^ 64) ≡ true = rw value (grind (arith, nat_tests)) in
    by_tests word ∙ chosen_same (bytes_eq word (decimal (digits_value 10 word))) (nat_lt (digits_value 10 word) (2 ^ 64)) (digits_value 10 word) n ((bytes_eq-Decides word (decimal (digits_value 10 word))).1 same) fits value

none_if : (word : List ℕ) (found : Option ℕ) → number_in word ≡ found → ((n : ℕ) → word ≡ decimal n → n < 2 ^ 64 → ⊥) → found ≡ None
none_if word None is other = refl
none_if word (Some n) is other = let spelled = number_in-spelled word n is in absurd (other n spelled.0 spelled.1)

-- for a word that spells none, none is found
pub number_in-none : (word : List ℕ) → ((n : ℕ) → word ≡ decimal n → n < 2 ^ 64 → ⊥) → number_in word ≡ None
number_in-none word other = none_if word (number_in word) refl other

-- ---- the steps by which it is read

first_of_decimal : (n : ℕ) → n < 2 ^ 64 → 48 ≤ get_or (decimal n) 0 0
first_of_decimal zero small = rw (decimal_digit 0 (omega arith)) (omega arith)
first_of_decimal (suc n) small = let high : 48 < get_or (decimal (suc n)) 0 0 = first_decimal (suc n) (omega arith) small in omega arith

-- no number begins with a plus
plus_spells_none : (word : List ℕ) → get_or word 0 0 ≡ 43 → number_in word ≡ None
plus_spells_none word plus = number_in-none word (λ n is small. let low = first_of_decimal n small in let first : get_or word 0 0 ≡ get_or (decimal n) 0 0 = ap (λ (w : List ℕ). get_or w 0 0) is in omega arith)

-- only 0 begins with a zero
zero_alone : (n : ℕ) → n < 2 ^ 64 → get_or (decimal n) 0 0 ≡ 48 → length (decimal n) ≡ 1
zero_alone zero small first = rw (decimal_digit 0 (omega arith)) refl
zero_alone (suc n) small first = let high : 48 < get_or (decimal (suc n)) 0 0 = first_decimal (suc n) (omega arith) small in absurd (omega arith)

zeros_spell_none : (word : List ℕ) → get_or word 0 0 ≡ 48 → 1 < length word → number_in word ≡ None
zeros_spell_none word first long = number_in-none word (λ n is small.
    let one : length (decimal n) ≡ 1 = zero_alone n small (ap (λ (w : List ℕ). get_or w 0 0) (sym is) ∙ first) in
    let same : length word ≡ length (decimal n) = ap (λ (w : List ℕ). length w) is in omega arith)

pub begins_otherwise : (word : List ℕ) → BeginsOtherwise word → number_in word ≡ None
begins_otherwise word (inl plus) = plus_spells_none word plus
begins_otherwise word (inr zeros) = zeros_spell_none word zeros.0 zeros.1

-- bytes that aren't text spell no number
pub no_text_spells_none : (word : List ℕ) → ¬ (IsUtf8 word) → number_in word ≡ None
no_text_spells_none word other = number_in-none word (λ n is small. let P : List ℕ → Type 0 = IsUtf8 in other (subst P (sym is) (IsUtf8-from_ascii (decimal n) (IsAscii-decimal n small))))

-- a word that begins as printed numbers do has no leading zero before other digits
no_zeros : (word : List ℕ) → ¬ (BeginsOtherwise word) → 0 < length word → get_or word 0 0 ≡ 48 → length word ≡ 1
no_zeros word plain some first = elim (cases_lt 1 (length word)) [ inl long ↦ absurd (plain (inr (first, long))) | inr short ↦ omega arith ]

failed : {E : Type 0} (r : Result ℕ E) (n : ℕ) (e : E) → r ≡ Err e → r ≡ Ok n → ⊥
failed r n e is_err is_ok = absurd cc

-- what is parsed from the other words is the number that they spell
pub parsed : {E : Type 0} (word : List ℕ) (r : Result ℕ E) → ParsesUnsigned 64 10 word r → ¬ (BeginsOtherwise word) → result_ok r ≡ number_in word
parsed {E} word (Ok n) parses plain =
    let no_plus : get_or word 0 0 ≢ 43 = λ plus. plain (inl plus) in
    let as_digits = parse_plain own {E = E} 64 word (Ok n) parses no_plus in
    let is : decimal (digits_value 10 word) ≡ word = decimal-digits_value own word as_digits.0.0 as_digits.0.1 (no_zeros word plain as_digits.0.1) as_digits.0.2 in
    let P : ℕ → Type 0 = λ value. (word ≡ decimal value) × (value < 2 ^ 64) in
    let spelled : (word ≡ decimal n) × (n < 2 ^ 64) = subst P (sym as_digits.1) (sym is, as_digits.0.2) in
    sym (number_in-decimal word n spelled.0 spelled.1)
parsed word (Err e) parses plain = sym (number_in-none word (λ n is small. failed (Err e) n e refl (parse-decimal 64 n word (Err e) small small is parses)))

-- a number is found exactly if it is spelled
pub exactly : (word : List ℕ) (found : Option ℕ) → found ≡ number_in word → (n : ℕ) → (found ≡ Some n) ↔ ((word ≡ decimal n) × (n < 2 ^ 64))
exactly word found is n = (λ some. number_in-spelled word n (sym is ∙ some), λ spelled. is ∙ number_in-decimal word n spelled.0 spelled.1)
