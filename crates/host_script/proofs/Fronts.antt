-- Scripts: the header, and the lines after it.
use Rattle.std.proofs.Common.{◌≡◌, ℕ, ◌<◌, ◌≤◌, false, List, [], ◌++◌, drop, Some, None, refl, sym, ap, ◌∙◌, subst, arith}
use Rattle.std.specs.Prelude.{◌==◌, not, nat_lt, slice_index}
use Rattle.std.specs.List.{flat_map, filter_map}
use Rattle.std.proofs.lemmas.Bool.Decides.{nat_tests}
use Rattle.std.proofs.lemmas.List.{append-nil}
use Rattle.std.proofs.lemmas.List.Elements.{All-from_recursion, recursion_from_All}
use Rattle.zns_types.specs.declared.fields.GeometryFields.{GeometryFields}
use Rattle.zns_types.specs.Geometry.{IsGeometry}
use Rattle.zns_types.specs.Rows.{Row, first_holding}
use Rattle.zns_types.proofs.RowLemmas.{first_holding-append_none, none_holds, none_answers}
use Rattle.zone_model.specs.Sessions.{IsSession, header_bytes, spelling}
use Rattle.session_file.specs.declared.file_err.FileErr.{FileErr}
use Rattle.session_file.specs.Faults.{IsFirstOf}
use Rattle.session_file.specs.Places.{geometry_in, count_in}
use Rattle.session_file.specs.FileRules.{header_rows, records_rows, front_rows}
use Rattle.session_file.proofs.RowSplits.{first_holding-parts}
use Rattle.session_file.proofs.HeaderPlaces.{Begins, begins}
use Rattle.session_file.proofs.Firsts.{first_of-front, first_of-back, first_of}
use Rattle.session_file.proofs.Fronts.{IsFront, is_front, begins_with}
use Rattle.text_lines.specs.Cuts.{lines_in}
use Rattle.text_lines.proofs.Lines.{concat-lines_in}
use Rattle.host_script.specs.declared.line.Line.{Line}
use Rattle.host_script.specs.Lines.{IsLine, line_text, line_in}
use Rattle.host_script.specs.Spelling.{Scripted, IsScript, no_commands, script_text}
use Rattle.host_script.specs.ScriptRules.{host_rows, lines_rows, script_rows}
use Rattle.host_script.proofs.LineLists.{AreLines, are_lines, Passes, passes, lines_in-texts}

-- the rules of the lines after a header
abbrev pub rest_rows : List ℕ → List (Row FileErr)
rest_rows bytes = lines_rows (geometry_in bytes) 0 64 0 (lines_in (drop 64 bytes))

-- ---- the first rule that is broken

pub header_first : (bytes : List ℕ) (e : FileErr) → first_holding (header_rows bytes) ≡ Some e → IsFirstOf (script_rows bytes) e
unfolding script_rows
header_first bytes e h = first_of-front (header_rows bytes) (host_rows bytes ++ rest_rows bytes) e (first_of (header_rows bytes) e h)

pub host_first : (bytes : List ℕ) (e : FileErr) → first_holding (header_rows bytes) ≡ None → first_holding (host_rows bytes) ≡ Some e → IsFirstOf (script_rows bytes) e
unfolding script_rows
host_first bytes e h k = first_of-back (header_rows bytes) (host_rows bytes ++ rest_rows bytes) e h (first_of-front (host_rows bytes) (rest_rows bytes) e (first_of (host_rows bytes) e k))

pub rest_first : (bytes : List ℕ) (e : FileErr) → first_holding (header_rows bytes) ≡ None → first_holding (host_rows bytes) ≡ None → IsFirstOf (rest_rows bytes) e → IsFirstOf (script_rows bytes) e
unfolding script_rows
rest_first bytes e h k f = first_of-back (header_rows bytes) (host_rows bytes ++ rest_rows bytes) e h (first_of-back (host_rows bytes) (rest_rows bytes) e k f)

pub script_passed : (bytes : List ℕ) → first_holding (header_rows bytes) ≡ None → first_holding (host_rows bytes) ≡ None → first_holding (rest_rows bytes) ≡ None → first_holding (script_rows bytes) ≡ None
unfolding script_rows
script_passed bytes h k f = first_holding-append_none (header_rows bytes) (host_rows bytes ++ rest_rows bytes) h ∙ first_holding-append_none (host_rows bytes) (rest_rows bytes) k ∙ f

-- ---- if no rule is broken

-- what was read is a script
pub record WasScript (bytes : List ℕ) (s : Scripted) : Type 0 where
  pub script : IsScript s
  pub spelled : bytes ≡ script_text s
  pub passed : first_holding (script_rows bytes) ≡ None

record HostHeader (bytes : List ℕ) : Type 0 where
  queues : 2 ≤ (geometry_in bytes).queues
  count : count_in bytes ≡ 0

host_header : (bytes : List ℕ) → first_holding (host_rows bytes) ≡ None → HostHeader bytes
unfolding host_rows
host_header bytes e = let (few, (some, _)) = none_holds (host_rows bytes) e in record { queues = grind (arith, nat_tests, few); count = grind (arith, nat_tests, some) }

-- a header without commands is the spelling of the session without them
record IsHeader (bytes : List ℕ) : Type 0 where
  session : IsSession (no_commands (geometry_in bytes))
  spelled : spelling (no_commands (geometry_in bytes)) ++ drop 64 bytes ≡ bytes

is_header : (bytes : List ℕ) → ((i : ℕ) → slice_index bytes i < 256) → IsGeometry (geometry_in bytes) → first_holding (header_rows bytes) ≡ None → count_in bytes ≡ 0 → IsHeader bytes
unfolding front_rows records_rows
is_header bytes fits valid header none =
    let rest : first_holding (records_rows (count_in bytes) (geometry_in bytes) bytes 64 0 0) ≡ None = rw none refl in
    let front : IsFront bytes = is_front bytes fits valid (first_holding-append_none (header_rows bytes) (records_rows (count_in bytes) (geometry_in bytes) bytes 64 0 0) header ∙ rest) in
    record {
      session = rw none at front.session;
      spelled = rw none at front.spelled;
    }

pub was_script : (bytes : List ℕ) (g : GeometryFields) (lines : List Line) → ((i : ℕ) → slice_index bytes i < 256) → g ≡ geometry_in bytes → IsGeometry g
    → first_holding (header_rows bytes) ≡ None → first_holding (host_rows bytes) ≡ None → first_holding (lines_rows g 0 64 0 (lines_in (drop 64 bytes))) ≡ None
    → lines ≡ filter_map (line_in g) (lines_in (drop 64 bytes)) → WasScript bytes (record { geometry = g; lines = lines })
unfolding script_text
was_script bytes g lines fits geometry valid header no_host rest found =
    let host = host_header bytes no_host in
    let P : GeometryFields → Type 0 = IsGeometry in
    let head = is_header bytes fits (subst P geometry valid) header host.count in
    let are : AreLines g 0 0 (lines_in (drop 64 bytes)) (filter_map (line_in g) (lines_in (drop 64 bytes))) = are_lines (lines_in (drop 64 bytes)) g 0 64 0 (omega arith) (omega arith) rest in
    let Q : GeometryFields → Type 0 = λ of. IsSession (no_commands of) in
    let R : GeometryFields → Type 0 = λ of. 2 ≤ of.queues in
    record {
      script = record {
        header = subst Q (sym geometry) head.session;
        queues = subst R (sym geometry) host.queues;
        count = rw found (let few = are.count in omega arith);
        lines = rw found (All-from_recursion (IsLine g) (filter_map (line_in g) (lines_in (drop 64 bytes))) are.valid);
        sent = rw found (let small = are.sent in omega arith);
      };
      spelled = sym head.spelled
          ∙ ap (λ (of : GeometryFields). spelling (no_commands of) ++ drop 64 bytes) (sym geometry)
          ∙ ap (λ (back : List ℕ). spelling (no_commands g) ++ back) (sym (concat-lines_in (drop 64 bytes)) ∙ sym are.spelled ∙ ap (flat_map line_text) (sym found));
      passed = script_passed bytes header no_host (let S : GeometryFields → Type 0 = λ of. first_holding (lines_rows of 0 64 0 (lines_in (drop 64 bytes))) ≡ None in subst S geometry rest);
    }

-- ---- bytes that are a script

pub record IsWhole (bytes : List ℕ) (s : Scripted) : Type 0 where
  pub geometry : geometry_in bytes ≡ s.geometry
  pub header : first_holding (header_rows bytes) ≡ None
  pub host : first_holding (host_rows bytes) ≡ None
  pub rest : first_holding (rest_rows bytes) ≡ None
  pub lines : filter_map (line_in s.geometry) (lines_in (drop 64 bytes)) ≡ s.lines

pub is_whole : (bytes : List ℕ) (s : Scripted) → IsScript s → bytes ≡ script_text s → IsWhole bytes s
unfolding script_text spelling front_rows host_rows
is_whole bytes s is e =
    let g = s.geometry in
    let texts : List ℕ = flat_map line_text s.lines in
    let valid = is.header.geometry in
    let whole : header_bytes g 0 ++ texts ≡ (header_bytes g 0 ++ []) ++ texts = ap (λ (front : List ℕ). front ++ texts) (sym (append-nil (header_bytes g 0))) in
    let b : Begins bytes g 0 texts = begins bytes g 0 texts valid is.header.widths (omega arith) (e ∙ sym whole) in
    let front = begins_with bytes (no_commands g) texts is.header e in
    let header = (first_holding-parts (header_rows bytes) (records_rows (count_in bytes) (geometry_in bytes) bytes 64 0 0) front.passed).0 in
    let are = recursion_from_All (IsLine g) s.lines is.lines in
    let p : Passes g 0 64 0 s.lines = passes s.lines g 0 64 0 valid are (let count = is.count in omega arith) (let sent = is.sent in omega arith) in
    let R : GeometryFields → Type 0 = λ of. 2 ≤ of.queues in
    let queues : 2 ≤ (geometry_in bytes).queues = subst R (sym b.geometry) is.queues in
    let few : nat_lt (geometry_in bytes).queues 2 ≡ false = grind (arith, nat_tests) in
    let none : not (count_in bytes == 0) ≡ false = rw b.count refl in
    let cut : lines_in (drop 64 bytes) ≡ _ = ap lines_in b.rest ∙ lines_in-texts s.lines g valid are in
    record {
      geometry = b.geometry;
      header = header;
      host = none_answers (host_rows bytes) (few, (none, tt));
      rest = rw (b.geometry, cut) p.passed;
      lines = rw cut p.read;
    }

pub whole-passed : (bytes : List ℕ) (s : Scripted) → IsScript s → bytes ≡ script_text s → first_holding (script_rows bytes) ≡ None
whole-passed bytes s is e = let whole = is_whole bytes s is e in script_passed bytes whole.header whole.host whole.rest

same_script : (g : GeometryFields) (lines : List Line) (s : Scripted) → g ≡ s.geometry → lines ≡ s.lines → record { geometry = g; lines = lines } ≡ s
same_script g lines s e f = rw (e, f) refl

-- what was read is the script that the bytes are
pub was_whole : (bytes : List ℕ) (g : GeometryFields) (lines : List Line) (s : Scripted) → g ≡ geometry_in bytes → lines ≡ filter_map (line_in g) (lines_in (drop 64 bytes)) → IsScript s → bytes ≡ script_text s
    → record { geometry = g; lines = lines } ≡ s
was_whole bytes g lines s geometry found is e =
    let whole = is_whole bytes s is e in
    let same : g ≡ s.geometry = geometry ∙ whole.geometry in
    same_script g lines s same (found ∙ ap (λ (of : GeometryFields). filter_map (line_in of) (lines_in (drop 64 bytes))) same ∙ whole.lines)
