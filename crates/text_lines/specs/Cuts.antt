-- What a text is cut into: lines, each with the line feed at its end, and words, which are separated by spaces.
use Rattle.std.specs.Prelude.{ℕ, ◌-◌, ◌==◌, if◌then◌else◌, List, [], ◌∷◌, length, take, slice_index, Option, Some, None}
use Rattle.std.specs.List.{slice_split, onto_first}
use Rattle.text_lines.specs.Texts.{space, line_feed}

-- the bytes up to and including the first line feed, or all of them if there is none
abbrev pub first_line : List ℕ → List ℕ
first_line [] = []
first_line (byte ∷ text) = if byte == line_feed then byte ∷ [] else byte ∷ first_line text

-- Each line has its line feed. What follows the last line feed, if anything does, is a line without one.
abbrev pub lines_in : List ℕ → List (List ℕ)
lines_in [] = []
lines_in (byte ∷ text) = if byte == line_feed then (byte ∷ []) ∷ lines_in text else onto_first byte (lines_in text)

-- a line without the line feed at its end, or nothing if it doesn't end with one
abbrev pub unended : List ℕ → Option (List ℕ)
unended line = if slice_index line (length line - 1) == line_feed then Some (take (length line - 1) line) else None

-- what stands between the spaces of a text, from its start to its end
abbrev pub words_in : List ℕ → List (List ℕ)
words_in text = slice_split (λ byte. byte == space) text
