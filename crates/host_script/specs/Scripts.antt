-- What is written for the lines of a script. Each line is one command on queue 1, which is sent and answered before the
-- next.
use Rattle.std.specs.Prelude.{ℕ, ◌+◌, ◌-◌, ◌*◌, ◌%◌, ◌^◌, Bool, false, ◌==◌, if◌then◌else◌, List, [], ◌∷◌, ◌++◌, codes, drop, slice_index}
use Rattle.std.specs.Fmt.{digits, decimal}
use Rattle.hex.specs.Hex.{encode_lower}
use Rattle.zns_types.specs.declared.fields.GeometryFields.{GeometryFields}
use Rattle.zns_types.specs.Geometry.{first}
use Rattle.zns_types.specs.Fields.{bit, field}
use Rattle.zns_types.specs.Statuses.{Status, is_success}
use Rattle.sqe_codec.specs.declared.cmd.Cmd.{Cmd}
use Rattle.sqe_codec.specs.declared.cmd.Cmd.TheVariants as cmd
use Rattle.cqe_codec.specs.declared.cqe.Cqe.{Cqe}
use Rattle.zone_descriptor.specs.Descriptors.{state_number}
use Rattle.zone_model.specs.declared.act.Act.{Act}
use Rattle.zone_model.specs.Places.{Place}
use Rattle.zone_model.specs.Answers.{status, and_then}
use Rattle.zone_model.specs.Entries.{posted}
use Rattle.zone_model.specs.Replies.{reply_bytes}
use Rattle.host_library.specs.Asking.{act_for, open_with_window, commit_to, reset_of, report_of}
use Rattle.text_lines.specs.Texts.{line}
use Rattle.host_script.specs.declared.line.Line.{Line}
use Rattle.host_script.specs.declared.line.Line.TheVariants as the_line
use Rattle.host_script.specs.Lines.{data_of}

-- ---- what is sent

abbrev pub command_of_line : GeometryFields → Line → Cmd
command_of_line g (the_line.Write lba blocks byte) = cmd.Write 1 lba blocks
command_of_line g (the_line.Append zone blocks byte) = cmd.Append 1 (first g zone) blocks
command_of_line g (the_line.Put zone offset blocks byte) = cmd.Write 1 (first g zone + offset) blocks
command_of_line g (the_line.Open zone) = open_with_window g zone
command_of_line g (the_line.Flush zone last) = commit_to g zone last
command_of_line g (the_line.Reset zone) = reset_of g zone
command_of_line g (the_line.Report zone) = report_of g zone

-- the act of the line with a number, from 0: the command gets that number, modulo 2^16
abbrev pub act_of_line : GeometryFields → ℕ → Line → Act
act_of_line g number l = act_for (command_of_line g l) (number % 2 ^ 16) (data_of g l)

-- ---- what is written

-- the block that an entry's result names
abbrev pub lba_of : List Cqe → ℕ
lba_of [] = 0
lba_of (c ∷ entries) = c.dw0 + 2 ^ 32 * c.dw1

-- one bit as a digit
abbrev pub flag : Bool → List ℕ
flag b = if b then codes "1" else codes "0"

-- a pointer field as an offset in its zone; all ones mean that there is none
abbrev pub offset_text : ℕ → ℕ → List ℕ
offset_text start place = if place == 2 ^ 64 - 1 then codes "-" else decimal (place - start)

-- the zone, and the state, the window and the pointer that its descriptor shows
abbrev pub descriptor_line : GeometryFields → ℕ → List ℕ → List ℕ
descriptor_line g zone descriptor = line (
    decimal zone
    ∷ digits 16 false (state_number descriptor)
    ∷ flag (bit 3 (slice_index descriptor 2))
    ∷ offset_text (first g zone) (field 24 8 descriptor)
    ∷ [])

-- the line of a report of one zone, whose descriptor follows a head of 64 bytes
abbrev pub report_line : GeometryFields → ℕ → List ℕ → List ℕ
report_line g zone report = descriptor_line g zone (drop 64 report)

-- the answer to a line that succeeded, from the block that the result names and from what was read
abbrev pub done_line : GeometryFields → Line → ℕ → List ℕ → List ℕ
done_line g (the_line.Append zone blocks byte) lba read = line (codes "ok" ∷ decimal lba ∷ [])
done_line g (the_line.Report zone) lba read = report_line g zone read
done_line g _ lba read = line (codes "ok" ∷ [])

abbrev pub refused_line : Status → List ℕ
refused_line s = line (codes "refused" ∷ decimal s.sct ∷ encode_lower (s.sc ∷ []) ∷ [])

abbrev pub line_for : GeometryFields → Line → Status → List Cqe → List ℕ → List ℕ
line_for g l s entries read = if is_success s then done_line g l (lba_of entries) read else refused_line s

-- what is written for the line with a number, after a history
abbrev pub answer_line : GeometryFields → List Place → ℕ → Line → List ℕ
answer_line g h number l = line_for g l (status g h (act_of_line g number l)) (posted g h (act_of_line g number l)) (reply_bytes g h (act_of_line g number l))

-- what is written for lines after a history, the first of which has this number
abbrev pub scripted_after : GeometryFields → List Place → ℕ → List Line → List ℕ
scripted_after g h number [] = []
scripted_after g h number (l ∷ lines) = answer_line g h number l ++ scripted_after g (and_then g h (act_of_line g number l)) (number + 1) lines

unfoldable pub scripted : GeometryFields → List Line → List ℕ
scripted g lines = scripted_after g [] 0 lines
