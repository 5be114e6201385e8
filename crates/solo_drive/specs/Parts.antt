-- The history of acts that the parts of a drive stand for.
use Rattle.std.specs.Prelude.{◌≡◌, ℕ, ◌+◌, ◌^◌, ◌<◌, List, length, map, ◌⊎◌}
use Rattle.zns_types.specs.declared.fields.GeometryFields.{GeometryFields}
use Rattle.zone_cell.specs.Cells.{Cell}
use Rattle.cell_history.specs.Cells.{cell_of}
use Rattle.zone_model.specs.declared.act.Act.{Act}
use Rattle.zone_model.specs.Places.{Place, deeds}
use Rattle.zone_model.specs.Zones.{zones}
use Rattle.zone_model.specs.Answers.{answered}
use Rattle.zone_model.specs.Reach.{reach}
use Rattle.drive_book.specs.declared.book.Book.{Book}
use Rattle.drive_book.specs.Books.{BookStands}

-- the cell of a zone after a history
abbrev pub cell_at : GeometryFields → List Place → ℕ → Cell
cell_at g h z = cell_of g z (deeds h z)

abbrev pub cells_at : GeometryFields → List Place → List ℕ → List Cell
cells_at g h zs = map (cell_at g h) zs

abbrev pub zones_in : List Cell → List ℕ
zones_in cells = map (λ c. c.zone) cells

-- each cell is that of its zone after the history
abbrev pub CellsStand : GeometryFields → List Place → List Cell → Type 0
CellsStand g h cells = cells ≡ cells_at g h (zones_in cells)

-- the zones of the act's reach, in ascending order, or all zones
abbrev pub AreLent : GeometryFields → Act → List ℕ → Type 0
AreLent g a zs = (zs ≡ reach g a) ⊎ (zs ≡ zones g)

-- what a book and lent cells are before an act
pub record PartsStand (g : GeometryFields) (a : Act) (cells : List Cell) (book : Book) : Type 0 where
  pub book_stands : BookStands g book
  pub cells_stand : CellsStand g (answered g book.journal.acts) cells
  pub lent : AreLent g a (zones_in cells)

-- the parts are those of a drive after these acts: the cells of all zones, in ascending order, and the book
pub record DriveStands (g : GeometryFields) (cells : List Cell) (book : Book) : Type 0 where
  pub book_stands : BookStands g book
  pub all_stand : cells ≡ cells_at g (answered g book.journal.acts) (zones g)
  pub small : length book.journal.acts + book.journal.spare < 2 ^ 32
