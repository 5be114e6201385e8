-- What a completed deed to a zone reports besides its status.
use Rattle.std.specs.Prelude.{◌≡◌, ℕ, ◌+◌}
use Rattle.zns_types.specs.declared.fields.GeometryFields.{GeometryFields}
use Rattle.zns_types.specs.Geometry.{first}
use Rattle.drive_rules.specs.declared.deed.Deed.{Deed}
use Rattle.drive_rules.specs.declared.deed.Deed.TheVariants as deed
use Rattle.zone_model.specs.Entries.{block_dwords}
use Rattle.changed_log.specs.Logs.{with_zone}
use Rattle.changed_log.specs.Marks.{fired_by, after_excursion}
use Rattle.drive_book.specs.declared.book.Book.{Book}
use Rattle.drive_book.specs.declared.outcome.Outcome.{Outcome}
use Rattle.drive_book.specs.Outcomes.{plain_success}

-- success, with a block's number
abbrev pub placed_outcome : ℕ → Outcome
placed_outcome lba = record plain_success { dw0 = (block_dwords lba).dw0; dw1 = (block_dwords lba).dw1 }

-- An Append returns the first of its blocks, which start at the pointer before it. An excursion enters its zone in the log, and answers the
-- event request that the marks name. Any other deed reports nothing.
abbrev pub Tells : GeometryFields → ℕ → ℕ → Book → Book → Outcome → Deed → Type 0
Tells g zone pointer book book' o (deed.Append blocks) = (o ≡ placed_outcome (first g zone + pointer)) × (book' ≡ book)
Tells g zone pointer book book' o (deed.Excursion kind) =
    (o ≡ record plain_success { event = fired_by book.events }) × (book' ≡ record book { log = with_zone zone book.log; events = after_excursion book.events })
Tells g zone pointer book book' o _ = (o ≡ plain_success) × (book' ≡ book)
