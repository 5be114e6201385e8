-- Commands that move their bytes before the book of the drive is held: each Read, and each Write and Append whose first block is in an
-- opened zone. Such a command needs no resource, so no other zone has to give way to it: Zoned Namespace Command Set Specification 1.1,
-- 2.1.1 (active and open resources).
use Rattle.std.specs.Prelude.{◌≡◌, ℕ, ◌-◌, ◌==◌, Bool, true, false, not, ◌&&◌, nat_lt, List, [], ◌∷◌, ◌++◌, length, drop, Option, Some, None}
use Rattle.std.specs.List.{list_any}
use Rattle.zns_types.specs.declared.fields.GeometryFields.{GeometryFields}
use Rattle.zns_types.specs.States.{is_opened}
use Rattle.zns_types.specs.Geometry.{all_blocks, zone_of}
use Rattle.sqe_codec.specs.declared.cmd.Cmd.{Cmd}
use Rattle.sqe_codec.specs.declared.cmd.Cmd.TheVariants as cmd
use Rattle.zone_limits.specs.declared.limits.Need.{Need}
use Rattle.zone_limits.specs.Resources.{no_need}
use Rattle.zone_cell.specs.Cells.{Cell}
use Rattle.zone_model.specs.declared.act.Act.{Act}
use Rattle.zone_model.specs.Places.{Place, command_of}
use Rattle.zone_model.specs.Zones.{state, uses}
use Rattle.zone_model.specs.Answers.{answered, and_then}
use Rattle.zone_model.specs.Local.{act_wants_room}
use Rattle.zone_model.specs.Replies.{reply_bytes}
use Rattle.zone_model.specs.Entries.{posted}
use Rattle.drive_book.specs.declared.book.Book.{Book}
use Rattle.drive_book.specs.declared.outcome.Outcome.{Outcome}
use Rattle.drive_book.specs.declared.posted.Posted.{Posted}
use Rattle.drive_book.specs.Books.{book_at}
use Rattle.drive_book.specs.Outcomes.{OutcomeStands}
use Rattle.solo_drive.specs.declared.ahead.Ready.{Ready}
use Rattle.solo_drive.specs.Parts.{cells_at, zones_in, CellsStand}
use Rattle.solo_drive.specs.Applying.{history_of}

-- ---- which commands go ahead

-- the namespace has the block, and its zone is opened
abbrev pub is_in_opened : GeometryFields → (ℕ → Bool) → ℕ → Bool
is_in_opened g opened lba = nat_lt lba (all_blocks g) && opened (zone_of g lba)

-- a Read, and a Write or an Append whose first block is in an opened zone
abbrev pub goes_ahead : GeometryFields → (ℕ → Bool) → Cmd → Bool
goes_ahead g opened (cmd.Read nsid slba blocks) = true
goes_ahead g opened (cmd.Write nsid slba blocks) = is_in_opened g opened slba
goes_ahead g opened (cmd.Append nsid zslba blocks) = is_in_opened g opened zslba
goes_ahead g opened _ = false

-- one of these cells is that of the zone, and the zone is opened
abbrev pub opened_in : List Cell → ℕ → Bool
opened_in cells z = list_any (λ c. (c.zone == z) && is_opened c.state) cells

-- the zone is opened after a history
abbrev pub opened_at : GeometryFields → List Place → ℕ → Bool
opened_at g h z = is_opened (state g h z)

-- whether the command of an act goes ahead, judged by lent cells
abbrev pub GoesAhead : GeometryFields → Act → List Cell → Bool → Type 0
GoesAhead g a cells b = goes_ahead g (opened_in cells) (command_of a) ≡ b

-- ---- what is told of it

-- the resources that a zone no longer uses
abbrev pub given_up : Need → Need → Need
given_up before after = record {
  active = before.active && not after.active;
  opened = before.opened && not after.opened;
  window = before.window && not after.window;
}

-- what a zone gives back by an act
abbrev pub given_up_by : GeometryFields → List Place → Act → ℕ → Need
given_up_by g h a z = given_up (uses g h z) (uses g (and_then g h a) z)

-- what the zone of an act's command gives back by it; a Read gives nothing back
abbrev pub freed_by : GeometryFields → List Place → Act → Cmd → Need
freed_by g h a (cmd.Write nsid slba blocks) = given_up_by g h a (zone_of g slba)
freed_by g h a (cmd.Append nsid zslba blocks) = given_up_by g h a (zone_of g zslba)
freed_by g h a _ = no_need

-- it answers no event request and doesn't wait
abbrev pub outcome_from : Ready → Outcome
outcome_from r = record { code = r.code; dw0 = r.dw0; dw1 = r.dw1; len = r.len; event = None; waits = false }

-- this is the result of the act after the history
pub record ReadyStands (g : GeometryFields) (h : List Place) (a : Act) (r : Ready) : Type 0 where
  pub outcome : OutcomeStands g h a (outcome_from r)
  pub freed : r.freed ≡ freed_by g h a (command_of a)

-- the act goes ahead after this history, and this is its result
pub record IsDue (g : GeometryFields) (h : List Place) (a : Act) (r : Ready) : Type 0 where
  pub ahead : goes_ahead g (opened_at g h) (command_of a) ≡ true
  pub stands : ReadyStands g h a r

-- ---- its bytes have moved

-- the cells of a history have become those of the history with the act, and the bytes that it reads come first
pub record IsMoved (g : GeometryFields) (a : Act) (h : List Place) (cells cells' : List Cell) (out out' : List ℕ) (r : Ready) : Type 0 where
  pub zones : cells' ≡ cells_at g (and_then g h a) (zones_in cells)
  pub read : out' ≡ reply_bytes g h a ++ drop r.len out
  pub due : IsDue g h a r

-- The book isn't held, so the history isn't known: this holds for every history that the cells stand for.
abbrev pub Moves : GeometryFields → Act → List Cell → List Cell → List ℕ → List ℕ → Ready → Type 0
Moves g a cells cells' out out' r = (acts : List Act) → CellsStand g (answered g acts) cells → IsMoved g a (answered g acts) cells cells' out out' r

-- there is such a history
pub record HaveHistory (g : GeometryFields) (cells : List Cell) : Type 0 where
  pub acts : List Act
  pub stand : CellsStand g (answered g acts) cells

pub record IsReady (g : GeometryFields) (a : Act) (cells cells' : List Cell) (out out' : List ℕ) (r : Ready) : Type 0 where
  pub ahead : GoesAhead g a cells true
  pub moves : Moves g a cells cells' out out' r

-- nothing changed: the command doesn't go ahead
pub record Waits (g : GeometryFields) (a : Act) (cells cells' : List Cell) (out out' : List ℕ) : Type 0 where
  pub other : GoesAhead g a cells false
  pub same_cells : cells' ≡ cells
  pub same_out : out' ≡ out

abbrev pub Readies : GeometryFields → Act → List Cell → List Cell → List ℕ → List ℕ → Option Ready → Type 0
Readies g a cells cells' out out' (Some r) = IsReady g a cells cells' out out' r
Readies g a cells cells' out out' None = Waits g a cells cells' out out'

-- ---- it is settled

-- The book stands for the acts followed by this one, which is answered as the definitions say, and no other zone had to give way.
pub record IsSettled (g : GeometryFields) (a : Act) (p : Posted) (book book' : Book) : Type 0 where
  pub kept : book' ≡ book_at g (book.journal.acts ++ a ∷ []) (book.journal.spare - 1)
  pub entries : p.entries.items ≡ posted g (history_of g book) a
  pub len : p.len ≡ length (reply_bytes g (history_of g book) a)
  pub alone : act_wants_room g (history_of g book) a ≡ false
