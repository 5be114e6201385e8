-- A text spells a line if and only if it is the line's text.
use Rattle.std.proofs.Common.{◌≡◌, ℕ, ◌^◌, ◌<◌, ◌≤◌, Bool, true, false, cond, List, [], ◌∷◌, ◌++◌, take, Option, Some, None, refl, sym, ap, ◌∙◌, subst, arith, codes}
use Rattle.std.specs.Prelude.{◌↔◌}
use Rattle.std.specs.Fmt.{decimal}
use Rattle.std.specs.Str.{bytes_eq}
use Rattle.std.proofs.lemmas.Slice.Eq.{bytes_eq-Decides}
use Rattle.zns_types.specs.declared.fields.GeometryFields.{GeometryFields}
use Rattle.zns_types.specs.Geometry.{IsGeometry}
use Rattle.text_lines.specs.Texts.{line_feed, spaced}
use Rattle.text_lines.specs.Decimals.{number_in}
use Rattle.text_lines.specs.Cuts.{unended, words_in}
use Rattle.text_lines.proofs.SpelledNumbers.{number_in-decimal}
use Rattle.text_lines.proofs.Lines.{HasNoFeed, unended-line, line-unended}
use Rattle.text_lines.proofs.Words.{IsWord, AreWords, words_in-spaced, spaced-words_in, decimal_is_word, no_feed_in_words}
use Rattle.host_script.specs.declared.line.Line.{Line}
use Rattle.host_script.specs.declared.line.Line.TheVariants as the_line
use Rattle.host_script.specs.Lines.{IsData, IsLine, words_of, line_text, with_one, with_two, with_three, with_four, zone_in, offset_in, blocks_in, byte_in, line_of, line_of_text, line_in}
use Rattle.host_script.proofs.NumberWords.{number_spelled, below_spelled, below_decimal, blocks_spelled, blocks_decimal, small_zone}

-- ---- numbers of a line

record OneOf (f : ℕ → Line) (m : Option ℕ) (l : Line) : Type 0 where
  a : ℕ
  first : m ≡ Some a
  same : f a ≡ l

one_of : (f : ℕ → Line) (m : Option ℕ) (l : Line) → with_one f m ≡ Some l → OneOf f m l
one_of f None l e = absurd cc
one_of f (Some a) l e = record { a = a; first = refl; same = cc }

record TwoOf (f : ℕ → ℕ → Line) (m n : Option ℕ) (l : Line) : Type 0 where
  a : ℕ
  first : m ≡ Some a
  rest : OneOf (f a) n l

two_of : (f : ℕ → ℕ → Line) (m n : Option ℕ) (l : Line) → with_two f m n ≡ Some l → TwoOf f m n l
two_of f None n l e = absurd cc
two_of f (Some a) n l e = record { a = a; first = refl; rest = one_of (f a) n l e }

record ThreeOf (f : ℕ → ℕ → ℕ → Line) (m n k : Option ℕ) (l : Line) : Type 0 where
  a : ℕ
  first : m ≡ Some a
  rest : TwoOf (f a) n k l

three_of : (f : ℕ → ℕ → ℕ → Line) (m n k : Option ℕ) (l : Line) → with_three f m n k ≡ Some l → ThreeOf f m n k l
three_of f None n k l e = absurd cc
three_of f (Some a) n k l e = record { a = a; first = refl; rest = two_of (f a) n k l e }

record FourOf (f : ℕ → ℕ → ℕ → ℕ → Line) (m n k j : Option ℕ) (l : Line) : Type 0 where
  a : ℕ
  first : m ≡ Some a
  rest : ThreeOf (f a) n k j l

four_of : (f : ℕ → ℕ → ℕ → ℕ → Line) (m n k j : Option ℕ) (l : Line) → with_four f m n k j ≡ Some l → FourOf f m n k j l
four_of f None n k j l e = absurd cc
four_of f (Some a) n k j l e = record { a = a; first = refl; rest = three_of (f a) n k j l e }

-- ---- words name a line

-- the words are those of the line, and its numbers are in the drive's ranges
record Names (g : GeometryFields) (words : List (List ℕ)) (l : Line) : Type 0 where
  same : words ≡ words_of l
  is : IsLine g l

names : (g : GeometryFields) (words : List (List ℕ)) (m l : Line) → m ≡ l → words ≡ words_of m → IsLine g m → Names g words l
names g words m l e same is = let P : Line → Type 0 = Names g words in subst P e (record { same = same; is = is })

same_words : {x y : List ℕ} {xs ys : List (List ℕ)} → x ≡ y → xs ≡ ys → x ∷ xs ≡ y ∷ ys
same_words e f = rw (e, f) refl

its_letter : (letter text : List ℕ) → bytes_eq letter text ≡ true → letter ≡ text
its_letter letter text same = (bytes_eq-Decides letter text).0 same

-- a letter and a zone
zone_named : (g : GeometryFields) (letter zone text : List ℕ) (f : ℕ → Line) (l : Line) → letter ≡ text → ((z : ℕ) → text ∷ decimal z ∷ [] ≡ words_of (f z)) → ((z : ℕ) → z < g.zones → IsLine g (f z)) → with_one f (zone_in g zone) ≡ Some l → Names g (letter ∷ zone ∷ []) l
zone_named g letter zone text f l is words valid e =
    let of = one_of f (zone_in g zone) l e in
    let z = below_spelled g.zones zone of.a of.first in
    names g (letter ∷ zone ∷ []) (f of.a) l of.same (same_words is (same_words z.spelled.same refl) ∙ words of.a) (valid of.a z.below)

one_named : (g : GeometryFields) (letter zone : List ℕ) (l : Line) (o r d : Bool) → bytes_eq letter (codes "o") ≡ o → bytes_eq letter (codes "r") ≡ r → bytes_eq letter (codes "d") ≡ d
    → cond o (with_one the_line.Open (zone_in g zone)) (cond r (with_one the_line.Reset (zone_in g zone)) (cond d (with_one the_line.Report (zone_in g zone)) None)) ≡ Some l → Names g (letter ∷ zone ∷ []) l
one_named g letter zone l true r d is_o is_r is_d e = zone_named g letter zone (codes "o") the_line.Open l (its_letter letter (codes "o") is_o) (λ z. refl) (λ z lt. lt) e
one_named g letter zone l false true d is_o is_r is_d e = zone_named g letter zone (codes "r") the_line.Reset l (its_letter letter (codes "r") is_r) (λ z. refl) (λ z lt. lt) e
one_named g letter zone l false false true is_o is_r is_d e = zone_named g letter zone (codes "d") the_line.Report l (its_letter letter (codes "d") is_d) (λ z. refl) (λ z lt. lt) e
one_named g letter zone l false false false is_o is_r is_d e = absurd cc

two_named : (g : GeometryFields) (letter zone last : List ℕ) (l : Line) (f : Bool) → bytes_eq letter (codes "f") ≡ f → cond f (with_two the_line.Flush (zone_in g zone) (offset_in g last)) None ≡ Some l → Names g (letter ∷ zone ∷ last ∷ []) l
two_named g letter zone last l true is e =
    let of = two_of the_line.Flush (zone_in g zone) (offset_in g last) l e in
    let z = below_spelled g.zones zone of.a of.first in
    let o = below_spelled g.zone_size last of.rest.a of.rest.first in
    names g (letter ∷ zone ∷ last ∷ []) (the_line.Flush of.a of.rest.a) l of.rest.same
    (same_words (its_letter letter (codes "f") is) (same_words z.spelled.same (same_words o.spelled.same refl))) (z.below, o.below)
two_named g letter zone last l false is e = absurd cc

three_named : (g : GeometryFields) (letter place blocks byte : List ℕ) (l : Line) (w a : Bool) → bytes_eq letter (codes "w") ≡ w → bytes_eq letter (codes "a") ≡ a
    → cond w (with_three the_line.Write (number_in place) (blocks_in blocks) (byte_in byte)) (cond a (with_three the_line.Append (zone_in g place) (blocks_in blocks) (byte_in byte)) None) ≡ Some l → Names g (letter ∷ place ∷ blocks ∷ byte ∷ []) l
three_named g letter place blocks byte l true a is_w is_a e =
    let of = three_of the_line.Write (number_in place) (blocks_in blocks) (byte_in byte) l e in
    let p = number_spelled place of.a of.first in
    let n = blocks_spelled blocks of.rest.a of.rest.first in
    let b = below_spelled (2 ^ 8) byte of.rest.rest.a of.rest.rest.first in
    names g (letter ∷ place ∷ blocks ∷ byte ∷ []) (the_line.Write of.a of.rest.a of.rest.rest.a) l of.rest.rest.same
    (same_words (its_letter letter (codes "w") is_w) (same_words p.same (same_words n.spelled.same (same_words b.spelled.same refl))))
    (p.small, record { some = n.some; few = n.few; byte = b.below })
three_named g letter place blocks byte l false true is_w is_a e =
    let of = three_of the_line.Append (zone_in g place) (blocks_in blocks) (byte_in byte) l e in
    let z = below_spelled g.zones place of.a of.first in
    let n = blocks_spelled blocks of.rest.a of.rest.first in
    let b = below_spelled (2 ^ 8) byte of.rest.rest.a of.rest.rest.first in
    names g (letter ∷ place ∷ blocks ∷ byte ∷ []) (the_line.Append of.a of.rest.a of.rest.rest.a) l of.rest.rest.same
    (same_words (its_letter letter (codes "a") is_a) (same_words z.spelled.same (same_words n.spelled.same (same_words b.spelled.same refl))))
    (z.below, record { some = n.some; few = n.few; byte = b.below })
three_named g letter place blocks byte l false false is_w is_a e = absurd cc

four_named : (g : GeometryFields) (letter zone offset blocks byte : List ℕ) (l : Line) (p : Bool) → bytes_eq letter (codes "p") ≡ p → cond p (with_four the_line.Put (zone_in g zone) (offset_in g offset) (blocks_in blocks) (byte_in byte)) None ≡ Some l
    → Names g (letter ∷ zone ∷ offset ∷ blocks ∷ byte ∷ []) l
four_named g letter zone offset blocks byte l true is e =
    let of = four_of the_line.Put (zone_in g zone) (offset_in g offset) (blocks_in blocks) (byte_in byte) l e in
    let z = below_spelled g.zones zone of.a of.first in
    let o = below_spelled g.zone_size offset of.rest.a of.rest.first in
    let n = blocks_spelled blocks of.rest.rest.a of.rest.rest.first in
    let b = below_spelled (2 ^ 8) byte of.rest.rest.rest.a of.rest.rest.rest.first in
    names g (letter ∷ zone ∷ offset ∷ blocks ∷ byte ∷ []) (the_line.Put of.a of.rest.a of.rest.rest.a of.rest.rest.rest.a) l of.rest.rest.rest.same
    (same_words (its_letter letter (codes "p") is) (same_words z.spelled.same (same_words o.spelled.same (same_words n.spelled.same (same_words b.spelled.same refl)))))
    (z.below, o.below, record { some = n.some; few = n.few; byte = b.below })
four_named g letter zone offset blocks byte l false is e = absurd cc

line_of-names : (g : GeometryFields) (words : List (List ℕ)) (l : Line) → line_of g words ≡ Some l → Names g words l
unfolding line_of
line_of-names g [] l e = absurd cc
line_of-names g (letter ∷ []) l e = absurd cc
line_of-names g (letter ∷ zone ∷ []) l e = one_named g letter zone l _ _ _ refl refl refl e
line_of-names g (letter ∷ zone ∷ last ∷ []) l e = two_named g letter zone last l _ refl e
line_of-names g (letter ∷ place ∷ blocks ∷ byte ∷ []) l e = three_named g letter place blocks byte l _ _ refl refl e
line_of-names g (letter ∷ zone ∷ offset ∷ blocks ∷ byte ∷ []) l e = four_named g letter zone offset blocks byte l _ refl e
line_of-names g (letter ∷ a ∷ b ∷ c ∷ d ∷ f ∷ words) l e = absurd cc

-- ---- a line is named by its words

with_three_of : (f : ℕ → ℕ → ℕ → Line) (m n k : Option ℕ) (a b c : ℕ) → m ≡ Some a → n ≡ Some b → k ≡ Some c → with_three f m n k ≡ Some (f a b c)
with_three_of f m n k a b c p q r = rw (p, q, r) refl

zone_decimal : (g : GeometryFields) (z : ℕ) → IsGeometry g → z < g.zones → zone_in g (decimal z) ≡ Some z
zone_decimal g z is lt = below_decimal g.zones z lt (let few = is.zones.few_zones in omega arith)

offset_decimal : (g : GeometryFields) (n : ℕ) → IsGeometry g → n < g.zone_size → offset_in g (decimal n) ≡ Some n
offset_decimal g n is lt = below_decimal g.zone_size n lt (let small = small_zone g is in omega arith)

byte_decimal : (n : ℕ) → n < 2 ^ 8 → byte_in (decimal n) ≡ Some n
byte_decimal n lt = below_decimal (2 ^ 8) n lt (omega arith)

-- the words of a line name it
line_of-words : (g : GeometryFields) (l : Line) → IsGeometry g → IsLine g l → line_of g (words_of l) ≡ Some l
unfolding line_of
line_of-words g (the_line.Write lba blocks byte) valid is =
    with_three_of the_line.Write _ _ _ lba blocks byte (number_in-decimal (decimal lba) lba refl is.0) (blocks_decimal blocks is.1.some is.1.few) (byte_decimal byte is.1.byte)
line_of-words g (the_line.Append zone blocks byte) valid is =
    with_three_of the_line.Append _ _ _ zone blocks byte (zone_decimal g zone valid is.0) (blocks_decimal blocks is.1.some is.1.few) (byte_decimal byte is.1.byte)
line_of-words g (the_line.Put zone offset blocks byte) valid is =
    ap (λ m. with_four the_line.Put m (offset_in g (decimal offset)) (blocks_in (decimal blocks)) (byte_in (decimal byte))) (zone_decimal g zone valid is.0)
    ∙ with_three_of (the_line.Put zone) _ _ _ offset blocks byte (offset_decimal g offset valid is.1) (blocks_decimal blocks is.2.some is.2.few) (byte_decimal byte is.2.byte)
line_of-words g (the_line.Open zone) valid is = ap (with_one the_line.Open) (zone_decimal g zone valid is)
line_of-words g (the_line.Flush zone last) valid is =
    ap (λ m. with_two the_line.Flush m (offset_in g (decimal last))) (zone_decimal g zone valid is.0)
    ∙ ap (with_one (the_line.Flush zone)) (offset_decimal g last valid is.1)
line_of-words g (the_line.Reset zone) valid is = ap (with_one the_line.Reset) (zone_decimal g zone valid is)
line_of-words g (the_line.Report zone) valid is = ap (with_one the_line.Report) (zone_decimal g zone valid is)

-- ---- texts

record FrontWords (l : Line) : Type 0 where
  word : List ℕ
  more : List (List ℕ)
  same : words_of l ≡ word ∷ more
  are : AreWords (word ∷ more)

zone_is_word : (g : GeometryFields) (zone : ℕ) → IsGeometry g → zone < g.zones → IsWord (decimal zone)
zone_is_word g zone valid lt = decimal_is_word zone (let few = valid.zones.few_zones in omega arith)

offset_is_word : (g : GeometryFields) (offset : ℕ) → IsGeometry g → offset < g.zone_size → IsWord (decimal offset)
offset_is_word g offset valid lt = decimal_is_word offset (let small = small_zone g valid in omega arith)

data_are_words : (blocks byte : ℕ) → IsData blocks byte → AreWords (decimal blocks ∷ decimal byte ∷ [])
data_are_words blocks byte is = (decimal_is_word blocks (let few = is.few in omega arith), (decimal_is_word byte (let lt = is.byte in omega arith), tt))

-- each word of a line is a word
front_words : (g : GeometryFields) (l : Line) → IsGeometry g → IsLine g l → FrontWords l
front_words g (the_line.Write lba blocks byte) valid is = record { word = _; more = _; same = refl; are = (((refl, refl), tt), (decimal_is_word lba is.0, data_are_words blocks byte is.1)) }
front_words g (the_line.Append zone blocks byte) valid is = record { word = _; more = _; same = refl; are = (((refl, refl), tt), (zone_is_word g zone valid is.0, data_are_words blocks byte is.1)) }
front_words g (the_line.Put zone offset blocks byte) valid is =
    record { word = _; more = _; same = refl; are = (((refl, refl), tt), (zone_is_word g zone valid is.0, (offset_is_word g offset valid is.1, data_are_words blocks byte is.2))) }
front_words g (the_line.Open zone) valid is = record { word = _; more = _; same = refl; are = (((refl, refl), tt), (zone_is_word g zone valid is, tt)) }
front_words g (the_line.Flush zone last) valid is =
    record { word = _; more = _; same = refl; are = (((refl, refl), tt), (zone_is_word g zone valid is.0, (offset_is_word g last valid is.1, tt))) }
front_words g (the_line.Reset zone) valid is = record { word = _; more = _; same = refl; are = (((refl, refl), tt), (zone_is_word g zone valid is, tt)) }
front_words g (the_line.Report zone) valid is = record { word = _; more = _; same = refl; are = (((refl, refl), tt), (zone_is_word g zone valid is, tt)) }

-- a line's text before its line feed has none
pub no_feed_in_line : (g : GeometryFields) (l : Line) → IsGeometry g → IsLine g l → HasNoFeed (spaced (words_of l))
no_feed_in_line g l valid is =
    let front = front_words g l valid is in
    let P : List (List ℕ) → Type 0 = λ words. HasNoFeed (spaced words) in
    subst P (sym front.same) (no_feed_in_words (front.word ∷ front.more) front.are)

-- a line's text spells it
pub line_in-text : (g : GeometryFields) (l : Line) → IsGeometry g → IsLine g l → line_in g (line_text l) ≡ Some l
unfolding line_in
line_in-text g l valid is =
    let front = front_words g l valid is in
    let words : words_in (spaced (words_of l)) ≡ words_of l = ap (λ (words : List (List ℕ)). words_in (spaced words)) front.same ∙ words_in-spaced front.word front.more front.are.0 front.are.1 ∙ sym front.same in
    ap (line_of_text g) (unended-line (spaced (words_of l))) ∙ ap (line_of g) words ∙ line_of-words g l valid is

-- a text that spells a line is its text
pub record SpellsLine (g : GeometryFields) (text : List ℕ) (l : Line) : Type 0 where
  pub is : IsLine g l
  pub same : text ≡ line_text l

spelled_by : (g : GeometryFields) (text : List ℕ) (l : Line) (front : Option (List ℕ)) → unended text ≡ front → line_of_text g front ≡ Some l → SpellsLine g text l
spelled_by g text l None is e = absurd cc
spelled_by g text l (Some front) is e =
    let named = line_of-names g (words_in front) l e in
    record {
      is = named.is;
      same = line-unended text front is ∙ ap (λ (xs : List ℕ). xs ++ line_feed ∷ []) (sym (spaced-words_in front) ∙ ap spaced named.same);
    }

pub line_in-spelled : (g : GeometryFields) (text : List ℕ) (l : Line) → line_in g text ≡ Some l → SpellsLine g text l
unfolding line_in
line_in-spelled g text l e = spelled_by g text l (unended text) refl e

pub exactly : (g : GeometryFields) (text : List ℕ) (found : Option Line) → IsGeometry g → found ≡ line_in g text → (l : Line) → (found ≡ Some l) ↔ (IsLine g l × (text ≡ line_text l))
exactly g text found valid is l = (
  λ some. let spelled = line_in-spelled g text l (sym is ∙ some) in (spelled.is, spelled.same),
  λ spelled. is ∙ ap (line_in g) spelled.1 ∙ line_in-text g l valid spelled.0,
)

-- no line has more than five words
pub first_words : (g : GeometryFields) (words : List (List ℕ)) → line_of g (take 6 words) ≡ line_of g words
unfolding line_of
first_words g [] = refl
first_words g (a ∷ []) = refl
first_words g (a ∷ b ∷ []) = refl
first_words g (a ∷ b ∷ c ∷ []) = refl
first_words g (a ∷ b ∷ c ∷ d ∷ []) = refl
first_words g (a ∷ b ∷ c ∷ d ∷ e ∷ []) = refl
first_words g (a ∷ b ∷ c ∷ d ∷ e ∷ f ∷ words) = refl
