-- The rules of a script's bytes, in their order, each with the error that is given if it is broken.
use Rattle.std.specs.Prelude.{ℕ, ◌+◌, ◌^◌, not, ◌==◌, nat_lt, nat_le, List, [], ◌∷◌, ◌++◌, length, drop, is_some, Option, Some, None}
use Rattle.zns_types.specs.declared.fields.GeometryFields.{GeometryFields}
use Rattle.zns_types.specs.Rows.{Row}
use Rattle.session_file.specs.declared.file_err.Reason.TheVariants as reason
use Rattle.session_file.specs.declared.file_err.Which.TheVariants as which
use Rattle.session_file.specs.declared.file_err.FileErr.{FileErr}
use Rattle.session_file.specs.Places.{geometry_in, count_in}
use Rattle.session_file.specs.FileRules.{bad, large, header_rows}
use Rattle.text_lines.specs.Cuts.{lines_in}
use Rattle.host_script.specs.declared.line.Line.{Line}
use Rattle.host_script.specs.Lines.{data_len, line_in}

-- at least two queues, and no commands
unfoldable pub host_rows : List ℕ → List (Row FileErr)
host_rows bytes =
    bad reason.Header 48 (nat_lt (geometry_in bytes).queues 2)
    ∷ bad reason.Header 52 (not (count_in bytes == 0))
    ∷ []

-- the bytes of host data that go with what a text spells
abbrev pub sent_by : GeometryFields → Option Line → ℕ
sent_by g None = 0
sent_by g (Some l) = data_len g l

-- The rules of the text of the line `number`, from 0, which begins at the offset `at`. The lines before it send `sent` bytes of host data.
unfoldable pub line_rows : GeometryFields → ℕ → ℕ → ℕ → List ℕ → List (Row FileErr)
line_rows g number at sent text =
    large which.Commands 262145 (nat_le 262144 number)
    ∷ bad reason.HostLine at (not (is_some (line_in g text)))
    ∷ large which.Sent (sent + sent_by g (line_in g text)) (nat_lt (2 ^ 27) (sent + sent_by g (line_in g text)))
    ∷ []

-- the rules of the texts of lines one after another, the first of which has this number and begins at this offset
unfoldable pub lines_rows : GeometryFields → ℕ → ℕ → ℕ → List (List ℕ) → List (Row FileErr)
lines_rows g number at sent [] = []
lines_rows g number at sent (text ∷ texts) = line_rows g number at sent text ++ lines_rows g (number + 1) (at + length text) (sent + sent_by g (line_in g text)) texts

-- the rules of all of a script's bytes
unfoldable pub script_rows : List ℕ → List (Row FileErr)
script_rows bytes = header_rows bytes ++ (host_rows bytes ++ lines_rows (geometry_in bytes) 0 64 0 (lines_in (drop 64 bytes)))
