use Rattle.drive_book.proofs.Books.{no_acts-book}
use Rattle.drive_book.proofs.book.Book.new.Goals as goal

pub returns : goal.returns
returns c = rw (c.new-3.ensures, c.new-4.ensures, c.in_ok-tallies.ensures, c.in_ok-journal.ensures) (no_acts-book c.args.g.now.fields c.args.room)
