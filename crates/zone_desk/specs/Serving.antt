-- What one act makes of the parts that a pass has.
use Rattle.std.specs.Prelude.{◌≡◌, ◌≢◌, ℕ, true, false, List, [], ◌∷◌, ◌++◌, ◌⊎◌}
use Rattle.zns_types.specs.declared.fields.GeometryFields.{GeometryFields}
use Rattle.zone_cell.specs.Cells.{Cell}
use Rattle.zone_model.specs.declared.act.Act.{Act}
use Rattle.zone_model.specs.Zones.{zones}
use Rattle.drive_book.specs.declared.book.Book.{Book}
use Rattle.drive_book.specs.declared.posted.Posted.{Posted}
use Rattle.solo_drive.specs.declared.applied.Applied.{Applied}
use Rattle.solo_drive.specs.declared.applied.Applied.TheVariants as applied
use Rattle.solo_drive.specs.Parts.{zones_in}
use Rattle.zone_desk.specs.Parts.{zones_at, ledger_at, with_act, wants_room, IsAnswered}

-- The parts are those of the acts with this one, and it was answered as the definitions say. The cells are of all zones, or no other zone
-- has to give way.
pub record IsServed (g : GeometryFields) (a : Act) (posted : Posted) (cells cells' : List Cell) (book book' : Book) (out out' : List ℕ) : Type 0 where
  pub cells_are : cells' ≡ zones_at g (book.journal.acts ++ a ∷ []) (zones_in cells)
  pub book_is : book' ≡ ledger_at g (with_act book.journal a)
  pub answer : IsAnswered g book.journal a posted out out'
  pub wide : (zones_in cells ≡ zones g) ⊎ (wants_room g book.journal.acts a ≡ false)

-- Another zone has to give way, and the cells aren't those of all zones: nothing changed.
pub record IsUnserved (g : GeometryFields) (a : Act) (payload : List ℕ) (cells cells' : List Cell) (book book' : Book) (out out' : List ℕ) : Type 0 where
  pub bytes : payload ≡ a.payload
  pub same_cells : cells' ≡ cells
  pub same_book : book' ≡ book
  pub unread : out' ≡ out
  pub narrow : zones_in cells ≢ zones g
  pub wants : wants_room g book.journal.acts a ≡ true

abbrev pub HasServed : GeometryFields → Act → List Cell → List Cell → Book → Book → List ℕ → List ℕ → Applied → Type 0
HasServed g a cells cells' book book' out out' (applied.Done posted) = IsServed g a posted cells cells' book book' out out'
HasServed g a cells cells' book book' out out' (applied.Widen payload) = IsUnserved g a payload cells cells' book book' out out'
