use Rattle.solo_drive.proofs.Drives.{fresh-stands}
use Rattle.solo_drive.proofs.solo.Solo.new.Goals as goal

pub invariant_of-result : goal.invariant_of-result
invariant_of-result c = fresh-stands c.args.g.fields c.args.room c.in_ok-cells.cells.items c.in_ok-book.book c.requires.room c.in_ok-book.ensures c.in_ok-cells.ensures
