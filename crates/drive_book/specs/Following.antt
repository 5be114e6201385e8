-- How a book changes with an act.
use Rattle.std.specs.Prelude.{◌≡◌, List}
use Rattle.zns_types.specs.declared.fields.GeometryFields.{GeometryFields}
use Rattle.zone_model.specs.declared.act.Act.{Act}
use Rattle.zone_model.specs.Places.{Place}
use Rattle.zone_model.specs.Answers.{and_then}
use Rattle.zone_model.specs.Entries.{posted}
use Rattle.drive_book.specs.declared.outcome.Outcome.{Outcome}
use Rattle.drive_book.specs.declared.posted.Posted.{Posted}
use Rattle.drive_book.specs.declared.book.Book.{Book}
use Rattle.drive_book.specs.Outcomes.{OutcomeStands}
use Rattle.drive_book.specs.Books.{tallies_of}

-- If a book has the tallies of a history, the entries of an act are those that it posts there.
abbrev pub PostsEntries : GeometryFields → Book → Act → Outcome → Posted → Type 0
PostsEntries g book a o result = (h : List Place) → book.tallies ≡ tallies_of g h → OutcomeStands g h a o → result.entries.items ≡ posted g h a

-- If a book has the tallies of a history, it has those of the history with the act afterwards.
abbrev pub KeepsTallies : GeometryFields → Book → Act → Outcome → Book → Type 0
KeepsTallies g old a o new = (h : List Place) → old.tallies ≡ tallies_of g h → OutcomeStands g h a o → new.tallies ≡ tallies_of g (and_then g h a)
