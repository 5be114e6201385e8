-- The lines of a script. A line is a letter and numbers, with one space between them, and a line feed at the end.
use Rattle.std.specs.Prelude.{ℕ, ◌*◌, ◌^◌, ◌<◌, ◌≤◌, ◌&&◌, nat_lt, nat_le, if◌then◌else◌, List, [], ◌∷◌, codes, replicate, Option, Some, None}
use Rattle.std.specs.Fmt.{decimal}
use Rattle.std.specs.Str.{bytes_eq}
use Rattle.zns_types.specs.declared.fields.GeometryFields.{GeometryFields}
use Rattle.zns_types.specs.Geometry.{block_len}
use Rattle.text_lines.specs.Texts.{line}
use Rattle.text_lines.specs.Decimals.{number_in}
use Rattle.text_lines.specs.Cuts.{unended, words_in}
use Rattle.host_script.specs.declared.line.Line.{Line}
use Rattle.host_script.specs.declared.line.Line.TheVariants as the_line

-- ---- numbers

-- 1 to 65,536 blocks that repeat a byte
pub record IsData (blocks value : ℕ) : Type 0 where
  pub some : 1 ≤ blocks
  pub few : blocks ≤ 65536
  pub byte : value < 2 ^ 8

-- the zone of a line, and the offsets in it, are the drive's; a block of the namespace may be any number of 64 bits
abbrev pub IsLine : GeometryFields → Line → Type 0
IsLine g (the_line.Write lba blocks byte) = (lba < 2 ^ 64) × IsData blocks byte
IsLine g (the_line.Append zone blocks byte) = (zone < g.zones) × IsData blocks byte
IsLine g (the_line.Put zone offset blocks byte) = (zone < g.zones) × (offset < g.zone_size) × IsData blocks byte
IsLine g (the_line.Open zone) = zone < g.zones
IsLine g (the_line.Flush zone last) = (zone < g.zones) × (last < g.zone_size)
IsLine g (the_line.Reset zone) = zone < g.zones
IsLine g (the_line.Report zone) = zone < g.zones

abbrev pub blocks_of : Line → ℕ
blocks_of (the_line.Write lba blocks byte) = blocks
blocks_of (the_line.Append zone blocks byte) = blocks
blocks_of (the_line.Put zone offset blocks byte) = blocks
blocks_of _ = 0

abbrev pub byte_of : Line → ℕ
byte_of (the_line.Write lba blocks byte) = byte
byte_of (the_line.Append zone blocks byte) = byte
byte_of (the_line.Put zone offset blocks byte) = byte
byte_of _ = 0

abbrev pub data_len : GeometryFields → Line → ℕ
data_len g l = blocks_of l * block_len g

-- the host data that goes with it
abbrev pub data_of : GeometryFields → Line → List ℕ
data_of g l = replicate (data_len g l) (byte_of l)

-- ---- text

abbrev pub words_of : Line → List (List ℕ)
words_of (the_line.Write lba blocks byte) = codes "w" ∷ decimal lba ∷ decimal blocks ∷ decimal byte ∷ []
words_of (the_line.Append zone blocks byte) = codes "a" ∷ decimal zone ∷ decimal blocks ∷ decimal byte ∷ []
words_of (the_line.Put zone offset blocks byte) = codes "p" ∷ decimal zone ∷ decimal offset ∷ decimal blocks ∷ decimal byte ∷ []
words_of (the_line.Open zone) = codes "o" ∷ decimal zone ∷ []
words_of (the_line.Flush zone last) = codes "f" ∷ decimal zone ∷ decimal last ∷ []
words_of (the_line.Reset zone) = codes "r" ∷ decimal zone ∷ []
words_of (the_line.Report zone) = codes "d" ∷ decimal zone ∷ []

abbrev pub line_text : Line → List ℕ
line_text l = line (words_of l)

-- ---- what a text spells

-- a number below a limit
abbrev pub below : ℕ → Option ℕ → Option ℕ
below limit None = None
below limit (Some n) = if nat_lt n limit then Some n else None

-- a number from 1 to 65,536
abbrev pub as_blocks : Option ℕ → Option ℕ
as_blocks None = None
as_blocks (Some n) = if nat_le 1 n && nat_le n 65536 then Some n else None

-- a line, if each of its numbers is one
abbrev pub with_one : (ℕ → Line) → Option ℕ → Option Line
with_one f None = None
with_one f (Some m) = Some (f m)

abbrev pub with_two : (ℕ → ℕ → Line) → Option ℕ → Option ℕ → Option Line
with_two f None n = None
with_two f (Some m) n = with_one (f m) n

abbrev pub with_three : (ℕ → ℕ → ℕ → Line) → Option ℕ → Option ℕ → Option ℕ → Option Line
with_three f None n k = None
with_three f (Some m) n k = with_two (f m) n k

abbrev pub with_four : (ℕ → ℕ → ℕ → ℕ → Line) → Option ℕ → Option ℕ → Option ℕ → Option ℕ → Option Line
with_four f None n k j = None
with_four f (Some m) n k j = with_three (f m) n k j

abbrev pub zone_in : GeometryFields → List ℕ → Option ℕ
zone_in g word = below g.zones (number_in word)

abbrev pub offset_in : GeometryFields → List ℕ → Option ℕ
offset_in g word = below g.zone_size (number_in word)

abbrev pub blocks_in : List ℕ → Option ℕ
blocks_in word = as_blocks (number_in word)

abbrev pub byte_in : List ℕ → Option ℕ
byte_in word = below (2 ^ 8) (number_in word)

-- the line of a letter and one number
abbrev pub line_of_one : GeometryFields → List ℕ → List ℕ → Option Line
line_of_one g letter zone =
    if bytes_eq letter (codes "o") then with_one the_line.Open (zone_in g zone)
    else if bytes_eq letter (codes "r") then with_one the_line.Reset (zone_in g zone)
    else if bytes_eq letter (codes "d") then with_one the_line.Report (zone_in g zone)
    else None

-- the line of a letter and two numbers
abbrev pub line_of_two : GeometryFields → List ℕ → List ℕ → List ℕ → Option Line
line_of_two g letter zone last = if bytes_eq letter (codes "f") then with_two the_line.Flush (zone_in g zone) (offset_in g last) else None

-- the line of a letter and three numbers
abbrev pub line_of_three : GeometryFields → List ℕ → List ℕ → List ℕ → List ℕ → Option Line
line_of_three g letter place blocks byte =
    if bytes_eq letter (codes "w") then with_three the_line.Write (number_in place) (blocks_in blocks) (byte_in byte)
    else if bytes_eq letter (codes "a") then with_three the_line.Append (zone_in g place) (blocks_in blocks) (byte_in byte)
    else None

-- the line of a letter and four numbers
abbrev pub line_of_four : GeometryFields → List ℕ → List ℕ → List ℕ → List ℕ → List ℕ → Option Line
line_of_four g letter zone offset blocks byte =
    if bytes_eq letter (codes "p") then with_four the_line.Put (zone_in g zone) (offset_in g offset) (blocks_in blocks) (byte_in byte) else None

-- the line that words spell
unfoldable pub line_of : GeometryFields → List (List ℕ) → Option Line
line_of g (letter ∷ zone ∷ []) = line_of_one g letter zone
line_of g (letter ∷ zone ∷ last ∷ []) = line_of_two g letter zone last
line_of g (letter ∷ place ∷ blocks ∷ byte ∷ []) = line_of_three g letter place blocks byte
line_of g (letter ∷ zone ∷ offset ∷ blocks ∷ byte ∷ []) = line_of_four g letter zone offset blocks byte
line_of g _ = None

-- the line of a text without its line feed
abbrev pub line_of_text : GeometryFields → Option (List ℕ) → Option Line
line_of_text g None = None
line_of_text g (Some text) = line_of g (words_in text)

-- the line that a text spells, if it spells one
unfoldable pub line_in : GeometryFields → List ℕ → Option Line
line_in g text = line_of_text g (unended text)
