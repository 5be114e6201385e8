-- The effect of a deed to all zones on their cells and on the book.
use Rattle.std.specs.Prelude.{◌≡◌, List, unwrap_or}
use Rattle.zns_types.specs.declared.fields.GeometryFields.{GeometryFields}
use Rattle.zns_types.specs.Statuses.{success}
use Rattle.drive_rules.specs.declared.deed.Deed.{Deed}
use Rattle.zone_cell.specs.Cells.{Cell}
use Rattle.drive_book.specs.declared.book.Book.{Book}
use Rattle.drive_book.specs.declared.outcome.Outcome.{Outcome}
use Rattle.drive_book.specs.Outcomes.{refusal_with}
use Rattle.mgmt_send.specs.Sweeping.{counts_in, sweep_refusal, swept_cells}

-- The deed was refused and nothing changed, or it was done to every zone whose state allows it. In the book, only the counts of what is in
-- use change.
pub record SweepServed (g : GeometryFields) (d : Deed) (cells cells' : List Cell) (book book' : Book) (o : Outcome) : Type 0 where
  pub outcome : o ≡ refusal_with (unwrap_or (sweep_refusal g cells book.limits d) success)
  pub zones : cells' ≡ swept_cells g cells book.limits d
  pub kept : book' ≡ record book { limits = counts_in cells' }
