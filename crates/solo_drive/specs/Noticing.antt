-- What a drive's notices return, and what remains of them.
use Rattle.std.specs.Prelude.{ℕ, Bool, if◌then◌else◌, List, [], ◌++◌, drop}
use Rattle.zns_types.specs.declared.fields.GeometryFields.{GeometryFields}
use Rattle.zns_types.specs.Fields.{bit}
use Rattle.drive_rules.specs.Reports.{changed_page, first_bytes}
use Rattle.changed_log.specs.Marks.{Marks, with_enabled, after_request, after_read}
use Rattle.drive_book.specs.declared.book.Book.{Book}
use Rattle.drive_book.specs.declared.outcome.Outcome.{Outcome}
use Rattle.drive_book.specs.Outcomes.{plain_success}

-- success, with `bytes` bytes read
abbrev pub read_outcome : ℕ → Outcome
read_outcome bytes = record plain_success { len = bytes }

-- the first `bytes` bytes of the page of changed zones, then what was after them
abbrev pub with_page : GeometryFields → ℕ → Book → List ℕ → List ℕ
with_page g bytes book out = first_bytes bytes (changed_page g book.log) ++ drop bytes out

-- a read of the log of changed zones empties it and leaves nothing masked or pending, unless it retains the event
abbrev pub after_log : Bool → Book → Book
after_log retain book = record book { log = if retain then book.log else []; events = if retain then book.events else after_read book.events }

-- bit 27 of the asynchronous event configuration enables notices
abbrev pub after_feature : ℕ → Book → Book
after_feature value book = record book { events = with_enabled (bit 27 value) book.events }

-- success, with the asynchronous event configuration
abbrev pub feature_outcome : Marks → Outcome
feature_outcome m = record plain_success { dw0 = if m.enabled then 0x08000000 else 0 }

-- an event request returned an event, waits, or was refused
abbrev pub after_ask : ℕ → Book → Book
after_ask cid book = record book { events = after_request cid book.events }
