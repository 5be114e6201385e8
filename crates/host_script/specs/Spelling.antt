-- A script: the header of a session without commands, followed by lines.
use Rattle.std.specs.Prelude.{ℕ, ◌+◌, ◌^◌, ◌≤◌, List, [], ◌∷◌, ◌++◌, length, All}
use Rattle.std.specs.List.{flat_map}
use Rattle.zns_types.specs.declared.fields.GeometryFields.{GeometryFields}
use Rattle.zone_model.specs.Sessions.{Recorded, IsSession, spelling}
use Rattle.host_script.specs.declared.line.Line.{Line}
use Rattle.host_script.specs.Lines.{IsLine, data_len, line_text}

-- a drive's geometry, and lines
pub record Scripted : Type 0 where
  pub geometry : GeometryFields
  pub lines : List Line

-- the session of a drive without commands
abbrev pub no_commands : GeometryFields → Recorded
no_commands g = record { geometry = g; acts = [] }

-- the bytes of host data that go with lines
abbrev pub sent_by_lines : GeometryFields → List Line → ℕ
sent_by_lines g [] = 0
sent_by_lines g (l ∷ lines) = data_len g l + sent_by_lines g lines

-- a script that a file can hold: a host needs two queues
pub record IsScript (s : Scripted) : Type 0 where
  pub header : IsSession (no_commands s.geometry)
  pub queues : 2 ≤ s.geometry.queues
  pub count : length s.lines ≤ 262144
  pub lines : All (IsLine s.geometry) s.lines
  pub sent : sent_by_lines s.geometry s.lines ≤ 2 ^ 27

unfoldable pub script_text : Scripted → List ℕ
script_text s = spelling (no_commands s.geometry) ++ flat_map line_text s.lines
