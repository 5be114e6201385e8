-- One more of the lines that are read one after another.
use Rattle.std.proofs.Common.{◌≡◌, ℕ, ◌+◌, ◌-◌, ◌<◌, ◌≤◌, List, [], ◌∷◌, ◌++◌, length, take, drop, Option, Some, None, refl, sym, ap, ◌∙◌, arith, append_assoc}
use Rattle.std.specs.List.{filter_map}
use Rattle.std.proofs.lemmas.List.{length-drop, drop-drop}
use Rattle.std.proofs.Math.Seq.{take-length}
use Rattle.zns_types.specs.declared.fields.GeometryFields.{GeometryFields}
use Rattle.zns_types.specs.Rows.{Row, first_holding}
use Rattle.zns_types.proofs.RowLemmas.{first_holding-append_some, first_holding-append_none}
use Rattle.session_file.specs.declared.file_err.FileErr.{FileErr}
use Rattle.session_file.specs.declared.file_err.FileErr.TheVariants.{NoMemory, Bad, Large}
use Rattle.session_file.specs.Faults.{IsFirstOf}
use Rattle.text_lines.specs.Cuts.{first_line, lines_in}
use Rattle.text_lines.proofs.Lines.{lines_in-step, first_line-some, first_line-within}
use Rattle.host_script.specs.declared.line.Line.{Line}
use Rattle.host_script.specs.Lines.{data_len, line_in}
use Rattle.host_script.specs.ScriptRules.{sent_by, line_rows, lines_rows}

-- the line at an offset of the bytes
abbrev pub line_at : ℕ → List ℕ → List ℕ
line_at at bytes = first_line (drop at bytes)

-- the lines from an offset on
abbrev pub lines_from : ℕ → List ℕ → List (List ℕ)
lines_from at bytes = lines_in (drop at bytes)

-- the rest of a list, as a slice of it
pub rest_whole : (n at : ℕ) (bytes : List ℕ) → n ≡ length bytes - at → take n (drop at bytes) ≡ drop at bytes
rest_whole n at bytes e = ap (λ k. take k (drop at bytes)) (e ∙ sym (length-drop at bytes)) ∙ take-length (drop at bytes)

pub rest_of-slice : (at : ℕ) (bytes : List ℕ) → first_line (take (length bytes - at) (drop at bytes)) ≡ line_at at bytes
rest_of-slice at bytes = ap first_line (rest_whole (length bytes - at) at bytes refl)

pub line_at-some : (at : ℕ) (bytes : List ℕ) → at < length bytes → 0 < length (line_at at bytes)
line_at-some at bytes lt = first_line-some (drop at bytes) (omega (arith, length-drop at bytes))

pub line_at-within : (at : ℕ) (bytes : List ℕ) → at ≤ length bytes → at + length (line_at at bytes) ≤ length bytes
line_at-within at bytes le = omega (arith, first_line-within (drop at bytes), length-drop at bytes)

lines_from-step : (at : ℕ) (bytes : List ℕ) → at < length bytes → lines_from at bytes ≡ line_at at bytes ∷ lines_from (at + length (line_at at bytes)) bytes
lines_from-step at bytes lt =
    lines_in-step (drop at bytes) (omega (arith, length-drop at bytes))
    ∙ ap (λ (rest : List ℕ). line_at at bytes ∷ lines_in rest) (drop-drop (length (line_at at bytes)) at bytes)

-- no line is left at the end
pub lines_from-end : (at : ℕ) (bytes : List ℕ) → length bytes ≤ at → lines_from at bytes ≡ []
lines_from-end at bytes le = ap lines_in (nothing (drop at bytes) (omega (arith, length-drop at bytes)))
  where
    nothing : (xs : List ℕ) → length xs ≡ 0 → xs ≡ []
    nothing [] e = refl
    nothing (x ∷ xs) e = absurd (omega arith)

-- ---- one line more

pub lines-more : (g : GeometryFields) (at : ℕ) (bytes : List ℕ) (l : Line) (lines whole : List Line) → at < length bytes → line_in g (line_at at bytes) ≡ Some l → lines ++ filter_map (line_in g) (lines_from at bytes) ≡ whole
    → (lines ++ l ∷ []) ++ filter_map (line_in g) (lines_from (at + length (line_at at bytes)) bytes) ≡ whole
lines-more g at bytes l lines whole lt is e =
    let rest : List Line = filter_map (line_in g) (lines_from (at + length (line_at at bytes)) bytes) in
    let step : filter_map (line_in g) (lines_from at bytes) ≡ l ∷ rest = ap (filter_map (line_in g)) (lines_from-step at bytes lt) ∙ rw is refl in
    append_assoc lines (l ∷ []) rest ∙ ap (λ (more : List Line). lines ++ more) (sym step) ∙ e

-- the rules of a line and those of the lines after it
opened : (g : GeometryFields) (number at sent : ℕ) (bytes : List ℕ) → at < length bytes → lines_rows g number at sent (lines_from at bytes)
    ≡ line_rows g number at sent (line_at at bytes) ++ lines_rows g (number + 1) (at + length (line_at at bytes)) (sent + sent_by g (line_in g (line_at at bytes))) (lines_from (at + length (line_at at bytes)) bytes)
unfolding lines_rows
opened g number at sent bytes lt = ap (lines_rows g number at sent) (lines_from-step at bytes lt)

pub rows-more : (g : GeometryFields) (number at sent : ℕ) (bytes : List ℕ) (l : Line) → at < length bytes → line_in g (line_at at bytes) ≡ Some l → first_holding (line_rows g number at sent (line_at at bytes)) ≡ None
    → first_holding (lines_rows g (number + 1) (at + length (line_at at bytes)) (sent + data_len g l) (lines_from (at + length (line_at at bytes)) bytes)) ≡ first_holding (lines_rows g number at sent (lines_from at bytes))
rows-more g number at sent bytes l lt is e =
    let more : ℕ → Option FileErr = λ sum. first_holding (lines_rows g (number + 1) (at + length (line_at at bytes)) sum (lines_from (at + length (line_at at bytes)) bytes)) in
    ap (λ (o : Option Line). more (sent + sent_by g o)) (sym is)
    ∙ sym (first_holding-append_none (line_rows g number at sent (line_at at bytes)) _ e)
    ∙ ap first_holding (sym (opened g number at sent bytes lt))

pub rows-broken : (g : GeometryFields) (number at sent : ℕ) (bytes : List ℕ) (e : FileErr) → at < length bytes → IsFirstOf (line_rows g number at sent (line_at at bytes)) e → IsFirstOf (lines_rows g number at sent (lines_from at bytes)) e
rows-broken g number at sent bytes NoMemory lt b = tt
rows-broken g number at sent bytes (Bad reason offset) lt b =
    ap first_holding (opened g number at sent bytes lt) ∙ first_holding-append_some (line_rows g number at sent (line_at at bytes)) _ (Bad reason offset) b
rows-broken g number at sent bytes (Large which count) lt b =
    ap first_holding (opened g number at sent bytes lt) ∙ first_holding-append_some (line_rows g number at sent (line_at at bytes)) _ (Large which count) b

-- and no rule is left to break at the end
pub rows-all : (g : GeometryFields) (number at sent : ℕ) (bytes : List ℕ) → length bytes ≤ at → first_holding (lines_rows g number at sent (lines_from at bytes)) ≡ None
unfolding lines_rows
rows-all g number at sent bytes le = ap (λ (texts : List (List ℕ)). first_holding (lines_rows g number at sent texts)) (lines_from-end at bytes le)

-- tables that have the same answer have the same first rule that is broken
pub first_of-same : (e : FileErr) (rows other : List (Row FileErr)) → first_holding rows ≡ first_holding other → IsFirstOf rows e → IsFirstOf other e
first_of-same NoMemory rows other same b = tt
first_of-same (Bad reason offset) rows other same b = sym same ∙ b
first_of-same (Large which count) rows other same b = sym same ∙ b
