-- The lines that texts spell, and the texts of lines.
use Rattle.std.proofs.Common.{◌≡◌, ℕ, ◌+◌, ◌^◌, ◌≤◌, false, not, List, [], ◌∷◌, ◌++◌, map, length, Option, Some, None, refl, sym, ap, ◌∙◌, arith, append_assoc}
use Rattle.std.specs.Prelude.{nat_lt, nat_le, is_some}
use Rattle.std.specs.List.{flat_map, filter_map, concat, AllByRecursion}
use Rattle.std.proofs.lemmas.Bool.Decides.{nat_tests}
use Rattle.zns_types.specs.declared.fields.GeometryFields.{GeometryFields}
use Rattle.zns_types.specs.Geometry.{IsGeometry}
use Rattle.zns_types.specs.Rows.{first_holding}
use Rattle.zns_types.proofs.RowLemmas.{none_holds}
use Rattle.session_file.proofs.RowSplits.{first_holding-parts}
use Rattle.text_lines.specs.Texts.{line_feed, spaced}
use Rattle.text_lines.specs.Cuts.{lines_in}
use Rattle.text_lines.proofs.Lines.{lines_in-more}
use Rattle.host_script.specs.declared.line.Line.{Line}
use Rattle.host_script.specs.Lines.{IsLine, data_len, words_of, line_text, line_in}
use Rattle.host_script.specs.Spelling.{sent_by_lines}
use Rattle.host_script.specs.ScriptRules.{sent_by, line_rows, lines_rows}
use Rattle.host_script.proofs.SpelledLines.{SpellsLine, line_in-spelled, line_in-text, no_feed_in_line}

-- ---- if no rule is broken, the texts are those of lines

pub record AreLines (g : GeometryFields) (number before : ℕ) (texts : List (List ℕ)) (lines : List Line) : Type 0 where
  pub spelled : flat_map line_text lines ≡ concat texts
  pub valid : AllByRecursion (IsLine g) lines
  pub count : number + length lines ≤ 262144
  pub sent : before + sent_by_lines g lines ≤ 2 ^ 27

one_more : (g : GeometryFields) (number sent : ℕ) (text : List ℕ) (texts : List (List ℕ)) (l : Line) (lines : List Line) → SpellsLine g text l → AreLines g (number + 1) (sent + data_len g l) texts lines → AreLines g number sent (text ∷ texts) (l ∷ lines)
one_more g number sent text texts l lines spells are = record {
  spelled = ap (λ (front : List ℕ). front ++ flat_map line_text lines) (sym spells.same) ∙ ap (λ (rest : List ℕ). text ++ rest) are.spelled;
  valid = (spells.is, are.valid);
  count = let count = are.count in omega arith;
  sent = let sum = are.sent in omega arith;
}

pub are_lines : (texts : List (List ℕ)) (g : GeometryFields) (number at sent : ℕ) → number ≤ 262144 → sent ≤ 2 ^ 27 → first_holding (lines_rows g number at sent texts) ≡ None → AreLines g number sent texts (filter_map (line_in g) texts)
unfolding lines_rows line_rows
are_lines [] g number at sent few small e = record { spelled = refl; valid = tt; count = omega arith; sent = omega arith }
are_lines (text ∷ texts) g number at sent few small e =
    let (line, rest) = first_holding-parts (line_rows g number at sent text) (lines_rows g (number + 1) (at + length text) (sent + sent_by g (line_in g text)) texts) e in
    let (many, (unread, (much, _))) = none_holds (line_rows g number at sent text) line in
    by_line (line_in g text) refl unread much (λ l is. are_lines texts g (number + 1) (at + length text) (sent + data_len g l)
    (grind (arith, nat_tests, many)) (let fits : nat_lt (2 ^ 27) (sent + data_len g l) ≡ false = rw is at much in grind (arith, nat_tests))
    (rw is at rest))
  where
    by_line : (o : Option Line) → line_in g text ≡ o → not (is_some o) ≡ false → nat_lt (2 ^ 27) (sent + sent_by g o) ≡ false
        → ((l : Line) → line_in g text ≡ Some l → AreLines g (number + 1) (sent + data_len g l) texts (filter_map (line_in g) texts)) → AreLines g number sent (text ∷ texts) (filter_map (line_in g) (text ∷ texts))
    by_line None is some fits rest = absurd cc
    by_line (Some l) is some fits rest = rw is (one_more g number sent text texts l (filter_map (line_in g) texts) (line_in-spelled g text l is) (rest l is))

-- ---- the texts of lines break no rule

pub record Passes (g : GeometryFields) (number at sent : ℕ) (lines : List Line) : Type 0 where
  pub passed : first_holding (lines_rows g number at sent (map line_text lines)) ≡ None
  pub read : filter_map (line_in g) (map line_text lines) ≡ lines

pub passes : (lines : List Line) (g : GeometryFields) (number at sent : ℕ) → IsGeometry g → AllByRecursion (IsLine g) lines → number + length lines ≤ 262144 → sent + sent_by_lines g lines ≤ 2 ^ 27 → Passes g number at sent lines
unfolding lines_rows line_rows
passes [] g number at sent valid are count small = record { passed = refl; read = refl }
passes (l ∷ lines) g number at sent valid are count small =
    let is : line_in g (line_text l) ≡ Some l = line_in-text g l valid are.0 in
    let rest = passes lines g (number + 1) (at + length (line_text l)) (sent + data_len g l) valid are.1 (omega arith) (omega arith) in
    let few : nat_le 262144 number ≡ false = grind (arith, nat_tests) in
    let fits : nat_lt (2 ^ 27) (sent + data_len g l) ≡ false = grind (arith, nat_tests) in
    record {
      passed = rw (is, few, fits) rest.passed;
      read = rw is (ap (λ (more : List Line). l ∷ more) rest.read);
    }

-- the lines of a text that is made up of the lines' texts
pub lines_in-texts : (lines : List Line) (g : GeometryFields) → IsGeometry g → AllByRecursion (IsLine g) lines → lines_in (flat_map line_text lines) ≡ map line_text lines
lines_in-texts [] g valid are = refl
lines_in-texts (l ∷ lines) g valid are =
    ap lines_in (append_assoc (spaced (words_of l)) (line_feed ∷ []) (flat_map line_text lines))
    ∙ lines_in-more (spaced (words_of l)) (flat_map line_text lines) (no_feed_in_line g l valid are.0)
    ∙ ap (λ (rest : List (List ℕ)). line_text l ∷ rest) (lines_in-texts lines g valid are.1)
