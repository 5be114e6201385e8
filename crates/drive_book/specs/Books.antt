-- What a drive keeps besides its zones, after a history of acts.
use Rattle.std.specs.Prelude.{◌≡◌, ℕ, List, map}
use Rattle.std.specs.List.{range_with_len}
use Rattle.zns_types.specs.declared.fields.GeometryFields.{GeometryFields}
use Rattle.zone_model.specs.declared.act.Act.{Act}
use Rattle.zone_model.specs.Places.{Place}
use Rattle.zone_model.specs.Zones.{counts}
use Rattle.zone_model.specs.Notices.{changed, enabled, masked, pending, waiting}
use Rattle.zone_model.specs.Answers.{answered}
use Rattle.zone_model.specs.Entries.{acts_on, entries_on}
use Rattle.changed_log.specs.Marks.{Marks}
use Rattle.drive_book.specs.declared.tally.Tally.{Tally}
use Rattle.drive_book.specs.declared.book.Book.{Book}

-- a queue's tally after a history
abbrev pub tally_of : List Place → ℕ → Tally
tally_of h queue = record { acts = acts_on queue h; entries = entries_on queue h }

-- the tallies of all queues
abbrev pub tallies_of : GeometryFields → List Place → List Tally
tallies_of g h = map (tally_of h) (range_with_len 0 g.queues)

-- the marks of events after a history
abbrev pub marks_of : List Place → Marks
marks_of h = record { enabled = enabled h; masked = masked h; pending = pending h; waiting = waiting h }

-- the book of a drive that answered a history, with this journal
abbrev pub book_of : GeometryFields → List Place → List Act → ℕ → Book
book_of g h acts spare = record {
  limits = counts g h;
  log = changed g h;
  events = marks_of h;
  tallies = tallies_of g h;
  journal = record { acts = acts; spare = spare };
}

-- The book of a drive that has served these acts, and has room for `spare` more.
abbrev pub book_at : GeometryFields → List Act → ℕ → Book
book_at g acts spare = book_of g (answered g acts) acts spare

-- The book is that of the acts in its journal.
abbrev pub BookStands : GeometryFields → Book → Type 0
BookStands g b = b ≡ book_at g b.journal.acts b.journal.spare

-- its tallies are those of the acts in its journal
abbrev pub TalliesStand : GeometryFields → Book → Type 0
TalliesStand g b = b.tallies ≡ tallies_of g (answered g b.journal.acts)
