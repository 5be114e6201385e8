-- A script is never longer than the greatest input.
use Rattle.std.proofs.Common.{◌≡◌, ℕ, ◌*◌, ◌^◌, ◌<◌, ◌≤◌, List, [], ◌∷◌, ◌++◌, length, refl, arith, length-append, codes}
use Rattle.std.specs.List.{flat_map, AllByRecursion}
use Rattle.std.specs.Fmt.{decimal}
use Rattle.std.proofs.lemmas.Fmt.{length-decimal-le}
use Rattle.std.proofs.lemmas.List.Elements.{recursion_from_All}
use Rattle.zns_types.specs.declared.fields.GeometryFields.{GeometryFields}
use Rattle.zns_types.specs.Geometry.{IsGeometry}
use Rattle.zone_model.specs.Sessions.{spelling, header_bytes}
use Rattle.text_lines.specs.Texts.{spaced, line_feed}
use Rattle.host_script.specs.declared.line.Line.{Line}
use Rattle.host_script.specs.declared.line.Line.TheVariants as the_line
use Rattle.host_script.specs.Lines.{IsLine, words_of, line_text}
use Rattle.host_script.specs.Spelling.{Scripted, IsScript, script_text}
use Rattle.host_script.proofs.NumberWords.{small_zone}

-- at most five words of at most 20 bytes each
abbrev AreShort : List (List ℕ) → Type 0
AreShort [] = Unit {0}
AreShort (word ∷ words) = (length word ≤ 20) × AreShort words

short_number : (n : ℕ) → n < 2 ^ 64 → length (decimal n) ≤ 20
short_number n small = length-decimal-le 20 n (omega arith) (omega arith) small

spaced_size : (words : List (List ℕ)) → AreShort words → length (spaced words) ≤ 21 * length words
spaced_size [] are = omega arith
spaced_size (word ∷ []) are = omega (arith, are.0)
spaced_size (word ∷ next ∷ words) are =
    omega (arith, are.0, length-append (word ++ codes " ") (spaced (next ∷ words)), length-append word (codes " "), spaced_size (next ∷ words) are.1)

record FewWords (l : Line) : Type 0 where
  few : length (words_of l) ≤ 5
  short : AreShort (words_of l)

few_words : (g : GeometryFields) (l : Line) → IsGeometry g → IsLine g l → FewWords l
few_words g (the_line.Write lba blocks byte) valid is = record { few = omega arith; short = (omega arith, (short_number lba is.0, (short_number blocks (let few = is.1.few in omega arith), (short_number byte (let lt = is.1.byte in omega arith), tt)))) }
few_words g (the_line.Append zone blocks byte) valid is =
    let most = valid.zones.few_zones in
    record { few = omega arith; short = (omega arith, (short_number zone (let lt = is.0 in omega arith), (short_number blocks (let few = is.1.few in omega arith), (short_number byte (let lt = is.1.byte in omega arith), tt)))) }
few_words g (the_line.Put zone offset blocks byte) valid is =
    let most = valid.zones.few_zones in
    let small = small_zone g valid in
    record { few = omega arith; short = (omega arith, (short_number zone (let lt = is.0 in omega arith), (short_number offset (let lt = is.1 in omega arith), (short_number blocks (let few = is.2.few in omega arith), (short_number byte (let lt = is.2.byte in omega arith), tt))))) }
few_words g (the_line.Open zone) valid is = let most = valid.zones.few_zones in record { few = omega arith; short = (omega arith, (short_number zone (omega arith), tt)) }
few_words g (the_line.Flush zone last) valid is =
    let most = valid.zones.few_zones in
    let small = small_zone g valid in
    record { few = omega arith; short = (omega arith, (short_number zone (let lt = is.0 in omega arith), (short_number last (let lt = is.1 in omega arith), tt))) }
few_words g (the_line.Reset zone) valid is = let most = valid.zones.few_zones in record { few = omega arith; short = (omega arith, (short_number zone (omega arith), tt)) }
few_words g (the_line.Report zone) valid is = let most = valid.zones.few_zones in record { few = omega arith; short = (omega arith, (short_number zone (omega arith), tt)) }

line_size : (g : GeometryFields) (l : Line) → IsGeometry g → IsLine g l → length (line_text l) ≤ 106
line_size g l valid is =
    let words = few_words g l valid is in
    omega (arith, words.few, spaced_size (words_of l) words.short, length-append (spaced (words_of l)) (line_feed ∷ []))

lines_size : (g : GeometryFields) (lines : List Line) → IsGeometry g → AllByRecursion (IsLine g) lines → length (flat_map line_text lines) ≤ 106 * length lines
lines_size g [] valid are = omega arith
lines_size g (l ∷ lines) valid are =
    omega (arith, length-append (line_text l) (flat_map line_text lines), line_size g l valid are.0, lines_size g lines valid are.1)

header_size : (g : GeometryFields) → length (header_bytes g 0 ++ []) ≡ 64
header_size g = refl

pub script_size : (s : Scripted) → IsScript s → length (script_text s) ≤ 2 ^ 29
unfolding script_text spelling
script_size s is =
    omega (arith, is.count, header_size s.geometry, length-append (header_bytes s.geometry 0 ++ []) (flat_map line_text s.lines), lines_size s.geometry s.lines is.header.geometry (recursion_from_All (IsLine s.geometry) s.lines is.lines))
