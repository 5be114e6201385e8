-- An act that is done, and then posted, is applied.
use Rattle.std.proofs.Common.{◌≡◌, ℕ, List, ◌++◌, drop, sym, ap, ◌∙◌}
use Rattle.zns_types.specs.declared.fields.GeometryFields.{GeometryFields}
use Rattle.zone_cell.specs.Cells.{Cell}
use Rattle.zone_model.specs.declared.act.Act.{Act}
use Rattle.zone_model.specs.Replies.{reply_bytes}
use Rattle.drive_book.specs.declared.book.Book.{Book}
use Rattle.drive_book.specs.declared.outcome.Outcome.{Outcome}
use Rattle.drive_book.specs.declared.posted.Posted.{Posted}
use Rattle.drive_book.specs.Following.{PostsEntries, KeepsTallies}
use Rattle.drive_book.proofs.Books.{IsReady, ready-tallies, IsPosted, book-post}
use Rattle.solo_drive.specs.Parts.{PartsStand}
use Rattle.solo_drive.specs.Applying.{history_of, IsDone, IsApplied}

pub ready-of : (g : GeometryFields) (a : Act) (o : Outcome) (cells cells' : List Cell) (old mid : Book) (out out' : List ℕ) → IsDone g a o cells cells' old mid out out' → IsReady g a old mid
ready-of g a o cells cells' old mid out out' d = record { limits = d.limits; log = d.log; events = d.events; tallies = d.tallies; journal = d.journal }

pub posted-applies : (g : GeometryFields) (a : Act) (o : Outcome) (p : Posted) (cells cells' : List Cell) (old mid new : Book) (out out' : List ℕ) → PartsStand g a cells old → IsDone g a o cells cells' old mid out out'
    → IsPosted a mid new → KeepsTallies g mid a o new → PostsEntries g mid a o p → p.len ≡ o.len → IsApplied g a p cells cells' old new out out'
posted-applies g a o p cells cells' old mid new out out' parts d posted keeps posts len =
    let ready = ready-of g a o cells cells' old mid out out' d in
    record {
      zones = d.zones;
      kept = book-post g a o old mid new parts.book_stands ready d.outcome posted keeps;
      entries = posts (history_of g old) (ready-tallies g a old mid parts.book_stands ready) d.outcome;
      len = len ∙ d.outcome.len;
      read = d.read ∙ ap (λ (n : ℕ). reply_bytes g (history_of g old) a ++ drop n out) (sym len);
      wide = d.wide;
    }
