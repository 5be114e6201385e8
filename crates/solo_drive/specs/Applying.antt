-- The effect of one act on the book and on lent cells.
use Rattle.std.specs.Prelude.{◌≡◌, ◌≢◌, ℕ, ◌-◌, true, false, List, [], ◌∷◌, ◌++◌, length, drop, Option, Some, None, ◌⊎◌}
use Rattle.zns_types.specs.declared.fields.GeometryFields.{GeometryFields}
use Rattle.zone_cell.specs.Cells.{Cell}
use Rattle.zone_model.specs.declared.act.Act.{Act}
use Rattle.zone_model.specs.Places.{Place}
use Rattle.zone_model.specs.Zones.{zones, counts}
use Rattle.zone_model.specs.Notices.{changed}
use Rattle.zone_model.specs.Answers.{answered, and_then}
use Rattle.zone_model.specs.Replies.{reply_bytes}
use Rattle.zone_model.specs.Entries.{posted}
use Rattle.zone_model.specs.Local.{act_wants_room}
use Rattle.drive_book.specs.declared.book.Book.{Book}
use Rattle.drive_book.specs.declared.outcome.Outcome.{Outcome}
use Rattle.drive_book.specs.declared.posted.Posted.{Posted}
use Rattle.drive_book.specs.Books.{book_at, marks_of}
use Rattle.drive_book.specs.Outcomes.{OutcomeStands}
use Rattle.solo_drive.specs.declared.applied.Applied.{Applied}
use Rattle.solo_drive.specs.declared.applied.Applied.TheVariants as applied
use Rattle.solo_drive.specs.Parts.{cells_at, zones_in}

-- the history that a book stands for
abbrev pub history_of : GeometryFields → Book → List Place
history_of g book = answered g book.journal.acts

-- the lent cells are those of all zones, or no other zone has to give way
abbrev pub IsWideEnough : GeometryFields → Act → List Cell → Book → Type 0
IsWideEnough g a cells book = (zones_in cells ≡ zones g) ⊎ (act_wants_room g (history_of g book) a ≡ false)

-- ---- the act is done, but not yet in the book's journal and tallies

pub record IsDone (g : GeometryFields) (a : Act) (o : Outcome) (cells cells' : List Cell) (book book' : Book) (out out' : List ℕ) : Type 0 where
  pub outcome : OutcomeStands g (history_of g book) a o
  pub zones : cells' ≡ cells_at g (and_then g (history_of g book) a) (zones_in cells)
  pub limits : book'.limits ≡ counts g (and_then g (history_of g book) a)
  pub log : book'.log ≡ changed g (and_then g (history_of g book) a)
  pub events : book'.events ≡ marks_of (and_then g (history_of g book) a)
  pub tallies : book'.tallies ≡ book.tallies
  pub journal : book'.journal ≡ book.journal
  pub read : out' ≡ reply_bytes g (history_of g book) a ++ drop o.len out
  pub wide : IsWideEnough g a cells book

-- nothing changed: another zone has to give way, and not all cells were lent
pub record IsWidened (g : GeometryFields) (a : Act) (cells cells' : List Cell) (book book' : Book) (out out' : List ℕ) : Type 0 where
  pub same_cells : cells' ≡ cells
  pub same_book : book' ≡ book
  pub same_out : out' ≡ out
  pub narrow : zones_in cells ≢ zones g
  pub wants : act_wants_room g (history_of g book) a ≡ true

abbrev pub Serves : GeometryFields → Act → List Cell → List Cell → Book → Book → List ℕ → List ℕ → Option Outcome → Type 0
Serves g a cells cells' book book' out out' (Some o) = IsDone g a o cells cells' book book' out out'
Serves g a cells cells' book book' out out' None = IsWidened g a cells cells' book book' out out'

-- ---- the act is applied

-- cells and book stand for the acts followed by this one, which is answered as the definitions say
pub record IsApplied (g : GeometryFields) (a : Act) (p : Posted) (cells cells' : List Cell) (book book' : Book) (out out' : List ℕ) : Type 0 where
  pub zones : cells' ≡ cells_at g (and_then g (history_of g book) a) (zones_in cells)
  pub kept : book' ≡ book_at g (book.journal.acts ++ a ∷ []) (book.journal.spare - 1)
  pub entries : p.entries.items ≡ posted g (history_of g book) a
  pub len : p.len ≡ length (reply_bytes g (history_of g book) a)
  pub read : out' ≡ reply_bytes g (history_of g book) a ++ drop p.len out
  pub wide : IsWideEnough g a cells book

abbrev pub Applies : GeometryFields → Act → List Cell → List Cell → Book → Book → List ℕ → List ℕ → Applied → Type 0
Applies g a cells cells' book book' out out' (applied.Done p) = IsApplied g a p cells cells' book book' out out'
Applies g a cells cells' book book' out out' (applied.Widen payload) = (payload ≡ a.payload) × IsWidened g a cells cells' book book' out out'
