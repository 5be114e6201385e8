-- The two calls for a command that goes ahead do what the single call does.
use Rattle.std.proofs.Common.{◌≡◌, ℕ, List, ◌++◌, drop, sym, ap, ◌∙◌, inr}
use Rattle.zns_types.specs.declared.fields.GeometryFields.{GeometryFields}
use Rattle.zone_cell.specs.Cells.{Cell}
use Rattle.zone_model.specs.declared.act.Act.{Act}
use Rattle.zone_model.specs.Replies.{reply_bytes}
use Rattle.drive_book.specs.declared.book.Book.{Book}
use Rattle.drive_book.specs.declared.posted.Posted.{Posted}
use Rattle.solo_drive.specs.declared.ahead.Ready.{Ready}
use Rattle.solo_drive.specs.Applying.{history_of, IsApplied}
use Rattle.solo_drive.specs.Ahead.{IsMoved, IsSettled}

pub both-applied : (g : GeometryFields) (a : Act) (r : Ready) (p : Posted) (cells cells' : List Cell) (book book' : Book) (out out' : List ℕ) → IsMoved g a (history_of g book) cells cells' out out' r → IsSettled g a p book book' → IsApplied g a p cells cells' book book' out out'
both-applied g a r p cells cells' book book' out out' m s =
    let h = history_of g book in
    let same : r.len ≡ p.len = m.due.stands.outcome.len ∙ sym s.len in
    record {
      zones = m.zones;
      kept = s.kept;
      entries = s.entries;
      len = s.len;
      read = m.read ∙ ap (λ (n : ℕ). reply_bytes g h a ++ drop n out) same;
      wide = inr s.alone;
    }
