-- The effect of an act that goes ahead on its zones, and what its zone gives back.
use Rattle.std.proofs.Common.{◌≡◌, ℕ, Bool, true, false, List, None, refl, sym, ap, ◌∙◌}
use Rattle.std.specs.Prelude.{◌&&◌, not}
use Rattle.zns_types.specs.declared.fields.GeometryFields.{GeometryFields}
use Rattle.zns_types.specs.Statuses.{is_success}
use Rattle.sqe_codec.specs.declared.cmd.Cmd.{Cmd}
use Rattle.sqe_codec.specs.declared.cmd.Cmd.TheVariants as cmd
use Rattle.zone_limits.specs.declared.limits.Need.{Need}
use Rattle.zone_limits.specs.Resources.{no_need}
use Rattle.drive_rules.specs.Deeds.{use_of}
use Rattle.zone_history.specs.Histories.{Done, sight_of}
use Rattle.zone_cell.specs.Cells.{Cell}
use Rattle.zone_model.specs.declared.act.Act.{Act}
use Rattle.zone_model.specs.Places.{Place, command_of}
use Rattle.zone_model.specs.Zones.{uses}
use Rattle.zone_model.specs.Answers.{status, fires, zone_deed, and_then, answered}
use Rattle.zone_model.proofs.Deeds.{deed-refused, deeds-idle}
use Rattle.drive_book.specs.declared.book.Book.{Book}
use Rattle.drive_book.specs.declared.outcome.Outcome.{Outcome}
use Rattle.drive_book.specs.Books.{book_at}
use Rattle.solo_drive.specs.Parts.{zones_in, CellsStand, AreLent, PartsStand}
use Rattle.solo_drive.specs.Applying.{IsDone}
use Rattle.solo_drive.specs.Ahead.{goes_ahead, opened_at, given_up, given_up_by, freed_by, IsMoved}
use Rattle.solo_drive.specs.Written.{ready_with}
use Rattle.solo_drive.proofs.Going.{ahead-event, ahead-waits}

-- ---- what is given back

and-not : (b : Bool) → (b && not b) ≡ false
and-not true = refl
and-not false = refl

-- nothing, if the use is unchanged
pub given-same : (u : Need) → given_up u u ≡ no_need
given-same u =
    ap (λ (b : Bool). record { active = b; opened = u.opened && not u.opened; window = u.window && not u.window }) (and-not u.active)
    ∙ ap (λ (b : Bool). record { active = false; opened = b; window = u.window && not u.window }) (and-not u.opened)
    ∙ ap (λ (b : Bool). record { active = false; opened = false; window = b }) (and-not u.window)

uses-idle : (g : GeometryFields) (h : List Place) (a : Act) (z : ℕ) → zone_deed g h a z ≡ None → uses g (and_then g h a) z ≡ uses g h z
uses-idle g h a z none = ap (λ (ds : List Done). use_of (sight_of g ds)) (deeds-idle g h a z none)

idle-frees : (g : GeometryFields) (h : List Place) (a : Act) (z : ℕ) → zone_deed g h a z ≡ None → given_up_by g h a z ≡ no_need
idle-frees g h a z none = ap (given_up (uses g h z)) (uses-idle g h a z none) ∙ given-same (uses g h z)

by_command : (g : GeometryFields) (h : List Place) (a : Act) (k : Cmd) → ((z : ℕ) → given_up_by g h a z ≡ no_need) → no_need ≡ freed_by g h a k
by_command g h a (cmd.Write nsid slba blocks) none = sym (none _)
by_command g h a (cmd.Append nsid zslba blocks) none = sym (none _)
by_command g h a _ none = refl

-- a refused act gives nothing back
pub refused-frees : (g : GeometryFields) (h : List Place) (a : Act) → is_success (status g h a) ≡ false → no_need ≡ freed_by g h a (command_of a)
refused-frees g h a refused = by_command g h a (command_of a) (λ z. idle-frees g h a z (deed-refused g h a z refused))

-- nor does a Read
pub read-frees : (g : GeometryFields) (h : List Place) (a : Act) (nsid slba blocks : ℕ) → command_of a ≡ cmd.Read nsid slba blocks → no_need ≡ freed_by g h a (command_of a)
read-frees g h a nsid slba blocks e = ap (freed_by g h a) (sym e)

-- ---- a book that would stand

-- Cells that stand for acts are those of a drive whose book has these acts.
pub parts-of : (g : GeometryFields) (acts : List Act) (a : Act) (cells : List Cell) → CellsStand g (answered g acts) cells → AreLent g a (zones_in cells) → PartsStand g a cells (book_at g acts 0)
parts-of g acts a cells stand lent = record { book_stands = refl; cells_stand = stand; lent = lent }

-- What is done on them has moved its bytes.
pub moved-of : (g : GeometryFields) (acts : List Act) (a : Act) (o : Outcome) (freed : Need) (cells cells' : List Cell) (book' : Book) (out out' : List ℕ) → goes_ahead g (opened_at g (answered g acts)) (command_of a) ≡ true
    → IsDone g a o cells cells' (book_at g acts 0) book' out out' → freed ≡ freed_by g (answered g acts) a (command_of a) → IsMoved g a (answered g acts) cells cells' out out' (ready_with o freed)
moved-of g acts a o freed cells cells' book' out out' ahead d frees =
    let h = answered g acts in
    record {
      zones = d.zones;
      read = d.read;
      due = record {
        ahead = ahead;
        stands = record {
          outcome = record {
            code = d.outcome.code;
            dw0 = d.outcome.dw0;
            dw1 = d.outcome.dw1;
            len = d.outcome.len;
            event = sym (ahead-event g (opened_at g h) (command_of a) (fires g h a) ahead);
            waits = sym (ahead-waits g h a (opened_at g h) ahead);
          };
          freed = frees;
        };
      };
    }
