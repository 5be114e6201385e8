-- What the lock words guard: the cell of each zone, and the book.
use Rattle.std.specs.Prelude.{◌≡◌, ℕ, ◌-◌, ◌<◌, List, [], ◌∷◌, ◌++◌, length, drop, Bool, ◌⊎◌}
use mathlib.Core.Option.{some}
use lib.ListN.{get_elem?}
use Rattle.zns_types.specs.declared.fields.GeometryFields.{GeometryFields}
use Rattle.zone_cell.specs.Cells.{Cell}
use Rattle.zone_model.specs.declared.act.Act.{Act}
use Rattle.zone_model.specs.Kept.{KeptActs}
use Rattle.zone_model.specs.Answers.{answered}
use Rattle.zone_model.specs.Local.{act_wants_room}
use Rattle.drive_book.specs.declared.book.Book.{Book}
use Rattle.drive_book.specs.declared.posted.Posted.{Posted}
use Rattle.drive_book.specs.Books.{book_at}
use Rattle.solo_drive.specs.Drives.{drive_of, entries_for, bytes_for}
use Rattle.solo_drive.specs.Ahead.{HaveHistory}
use Rattle.solo_drive.specs.Parts.{cell_at, cells_at, CellsStand}

-- ---- cells

-- the cell of a zone after these acts
abbrev pub zone_at : GeometryFields → List Act → ℕ → Cell
zone_at g acts z = cell_at g (answered g acts) z

-- the cells of zones after these acts
abbrev pub zones_at : GeometryFields → List Act → List ℕ → List Cell
zones_at g acts zs = cells_at g (answered g acts) zs

-- each cell is that of its zone after these acts
abbrev pub AreAt : GeometryFields → List Act → List Cell → Type 0
AreAt g acts cells = CellsStand g (answered g acts) cells

-- one of the cells is of the zone
abbrev pub HasZone : ℕ → List Cell → Type 0
HasZone z cells = (i : ℕ) × ((c : Cell) × (get_elem? cells i ≡ some c) × (c.zone ≡ z))

-- there are acts that these cells stand for
abbrev pub HasBeen : GeometryFields → List Cell → Type 0
HasBeen g cells = HaveHistory g cells

-- The act that comes after these changes no zone other than those of the cells.
abbrev pub Covers : GeometryFields → List Act → Act → List Cell → Type 0
Covers g acts a cells = (z : ℕ) → z < g.zones → HasZone z cells ⊎ (zone_at g (acts ++ a ∷ []) z ≡ zone_at g acts z)

-- another zone has to give way to this act after these, or the act is refused
abbrev pub wants_room : GeometryFields → List Act → Act → Bool
wants_room g log a = act_wants_room g (answered g log) a

-- ---- the book

-- The book of a drive with this journal.
unfoldable pub ledger_at : GeometryFields → KeptActs → Book
ledger_at g j = book_at g j.acts j.spare

-- a journal with one more act
abbrev pub with_act : KeptActs → Act → KeptActs
with_act j a = record { acts = j.acts ++ a ∷ []; spare = j.spare - 1 }

-- the journal of these acts, of a desk with that room
abbrev pub journal_at : ℕ → List Act → KeptActs
journal_at room acts = record { acts = acts; spare = room - length acts }

-- ---- answers

-- An act was answered as the definitions say after the acts of a journal, except for the bytes that it reads.
pub record IsEntered (g : GeometryFields) (j : KeptActs) (a : Act) (p : Posted) : Type 0 where
  pub entries : p.entries.items ≡ entries_for (drive_of g j) a
  pub len : p.len ≡ length (bytes_for (drive_of g j) a)

-- An act was answered as the definitions say after the acts of a journal.
pub record IsAnswered (g : GeometryFields) (j : KeptActs) (a : Act) (p : Posted) (out out' : List ℕ) : Type 0 where
  pub entries : p.entries.items ≡ entries_for (drive_of g j) a
  pub len : p.len ≡ length (bytes_for (drive_of g j) a)
  pub read : out' ≡ bytes_for (drive_of g j) a ++ drop p.len out
