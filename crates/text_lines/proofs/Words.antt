-- Cutting texts into words.
use Rattle.std.proofs.Common.{◌≡◌, ℕ, ◌^◌, ◌<◌, false, List, [], ◌∷◌, ◌++◌, refl, ap, ◌∙◌, arith, append_assoc}
use Rattle.std.proofs.lemmas.Bool.Decides.{nat_tests}
use Rattle.std.proofs.lemmas.Fmt.{decimal_is_IsNumeral}
use Rattle.std.proofs.lemmas.List.Elements.{All-from_recursion}
use Rattle.std.proofs.lemmas.List.Splits.{slice_split_none, slice_split_at, join_with_byte-slice_split}
use Rattle.std.specs.Prelude.{◌==◌}
use Rattle.std.specs.Char.{digit_value}
use Rattle.std.specs.Fmt.{decimal}
use Rattle.std.specs.List.{AllByRecursion, join_with_byte}
use Rattle.std.specs.Str.Parse.{AllDigits}
use Rattle.text_lines.specs.Texts.{space, line_feed, spaced}
use Rattle.text_lines.specs.Cuts.{words_in}
use Rattle.text_lines.proofs.Lines.{HasNoFeed}

-- neither a space nor a line feed
abbrev pub IsInWord : ℕ → Type 0
IsInWord byte = ((byte == space) ≡ false) × ((byte == line_feed) ≡ false)

-- every byte can stand in a word
abbrev pub IsWord : List ℕ → Type 0
IsWord [] = Unit {0}
IsWord (byte ∷ word) = IsInWord byte × IsWord word

abbrev pub AreWords : List (List ℕ) → Type 0
AreWords [] = Unit {0}
AreWords (word ∷ words) = IsWord word × AreWords words

no_space : (word : List ℕ) → IsWord word → AllByRecursion (λ byte. (byte == space) ≡ false) word
no_space [] is = tt
no_space (byte ∷ word) is = (is.0.0, no_space word is.1)

-- the words of a text are those that were joined
pub words_in-spaced : (word : List ℕ) (words : List (List ℕ)) → IsWord word → AreWords words → words_in (spaced (word ∷ words)) ≡ word ∷ words
words_in-spaced word [] is are = slice_split_none (λ byte. byte == space) word (All-from_recursion (λ byte. (byte == space) ≡ false) word (no_space word is))
words_in-spaced word (next ∷ words) is are =
    ap words_in (append_assoc word (space ∷ []) (spaced (next ∷ words)))
    ∙ slice_split_at (λ byte. byte == space) word space (spaced (next ∷ words)) (All-from_recursion (λ byte. (byte == space) ≡ false) word (no_space word is)) refl
    ∙ ap (λ (rest : List (List ℕ)). word ∷ rest) (words_in-spaced next words are.0 are.1)

joined : (words : List (List ℕ)) → spaced words ≡ join_with_byte space words
joined [] = refl
joined (word ∷ []) = refl
joined (word ∷ next ∷ words) = append_assoc word (space ∷ []) (spaced (next ∷ words)) ∙ ap (λ (rest : List ℕ). word ++ space ∷ rest) (joined (next ∷ words))

-- and joined again, they are the text
pub spaced-words_in : (text : List ℕ) → spaced (words_in text) ≡ text
spaced-words_in text = joined (words_in text) ∙ join_with_byte-slice_split space text

-- ---- line feeds

no_feed-append : (front back : List ℕ) → HasNoFeed front → HasNoFeed back → HasNoFeed (front ++ back)
no_feed-append [] back none also = also
no_feed-append (byte ∷ front) back none also = (none.0, no_feed-append front back none.1 also)

no_feed : (word : List ℕ) → IsWord word → HasNoFeed word
no_feed [] is = tt
no_feed (byte ∷ word) is = (is.0.1, no_feed word is.1)

-- words joined by spaces have no line feed
pub no_feed_in_words : (words : List (List ℕ)) → AreWords words → HasNoFeed (spaced words)
no_feed_in_words [] are = tt
no_feed_in_words (word ∷ []) are = no_feed word are.0
no_feed_in_words (word ∷ next ∷ words) are =
    no_feed-append (word ++ space ∷ []) (spaced (next ∷ words)) (no_feed-append word (space ∷ []) (no_feed word are.0) (refl, tt)) (no_feed_in_words (next ∷ words) are.1)

-- ---- numbers

-- a digit is neither a space nor a line feed
digit_in_word : (byte : ℕ) → digit_value byte < 10 → IsInWord byte
digit_in_word byte digit = (grind (arith, nat_tests), grind (arith, nat_tests))

digits_are_word : (word : List ℕ) → AllDigits 10 word → IsWord word
digits_are_word [] digits = tt
digits_are_word (byte ∷ word) digits = (digit_in_word byte digits.0, digits_are_word word digits.1)

-- a number in decimal digits is a word
pub decimal_is_word : (n : ℕ) → n < 2 ^ 64 → IsWord (decimal n)
decimal_is_word n small = digits_are_word (decimal n) (decimal_is_IsNumeral n small).0.1
