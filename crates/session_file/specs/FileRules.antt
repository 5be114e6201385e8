-- The rules of a session's bytes in order, each with the error that is given if it is broken.
use Rattle.std.specs.Prelude.{ℕ, zero, suc, ◌+◌, ◌^◌, Bool, not, ◌==◌, nat_lt, nat_le, if◌then◌else◌, List, [], ◌∷◌, ◌++◌, map, length, take, codes}
use Rattle.std.specs.Str.{bytes_eq}
use Rattle.zns_types.specs.declared.fields.GeometryFields.{GeometryFields}
use Rattle.zns_types.specs.declared.field.Field.{Field}
use Rattle.zns_types.specs.declared.field.Field.TheVariants as the_field
use Rattle.zns_types.specs.declared.field.GeomErr.{GeomErr}
use Rattle.zns_types.specs.Fields.{field}
use Rattle.zns_types.specs.Rows.{Row, when}
use Rattle.zns_types.specs.Rules.{rules}
use Rattle.sqe_codec.specs.Commands.{transfer_len, reply_len}
use Rattle.zone_model.specs.Places.{command_of}
use Rattle.session_file.specs.declared.file_err.Reason.{Reason}
use Rattle.session_file.specs.declared.file_err.Reason.TheVariants as reason
use Rattle.session_file.specs.declared.file_err.Which.{Which}
use Rattle.session_file.specs.declared.file_err.Which.TheVariants as which
use Rattle.session_file.specs.declared.file_err.FileErr.{FileErr}
use Rattle.session_file.specs.declared.file_err.FileErr.TheVariants.{Bad, Large}
use Rattle.session_file.specs.Places.{geometry_in, count_in, length_at, act_at, next_at, session_end}

-- something is wrong at an offset
abbrev pub bad : Reason → ℕ → Bool → Row FileErr
bad r offset b = when b (Bad r offset)

-- a number is over its limit
abbrev pub large : Which → ℕ → Bool → Row FileErr
large w number b = when b (Large w number)

-- ---- the header

-- the offset in the header of a number of the drive
abbrev pub place_of : Field → ℕ
place_of the_field.BlockExp = 8
place_of the_field.Mdts = 9
place_of the_field.Zasl = 10
place_of the_field.Flags = 11
place_of the_field.Zones = 12
place_of the_field.ZoneSize = 16
place_of the_field.Capacity = 24
place_of the_field.Granule = 44
place_of the_field.Window = 46
place_of the_field.Queues = 48
place_of the_field.Depth = 50

-- the error for a number over its limit: four numbers have a limit of their own
abbrev pub over_limit : Field → ℕ → FileErr
over_limit the_field.Zones number = Large which.Zones number
over_limit the_field.ZoneSize number = Large which.ZoneSize number
over_limit the_field.Queues number = Large which.Queues number
over_limit the_field.Depth number = Large which.Depth number
over_limit other number = Bad reason.Header (place_of other)

-- the error for a header whose numbers break a rule on drives
abbrev pub in_header : GeomErr → FileErr
in_header e = if e.large then over_limit e.field e.number else Bad reason.Header (place_of e.field)

-- a rule on drives as a rule on the header
abbrev pub on_header : Row GeomErr → Row FileErr
on_header r = when r.holds (in_header r.answer)

-- there are 64 bytes, and they begin as a session does
unfoldable pub start_rows : List ℕ → List (Row FileErr)
start_rows bytes =
    bad reason.Short (length bytes) (nat_lt (length bytes) 64)
    ∷ bad reason.Magic 0 (not (bytes_eq (take 8 bytes) (codes "ZNSQ0001")))
    ∷ []

-- at most 262,144 acts, and reserved bytes that are zero
unfoldable pub end_rows : List ℕ → List (Row FileErr)
end_rows bytes =
    large which.Commands (count_in bytes) (nat_lt 262144 (count_in bytes))
    ∷ bad reason.Header 56 (not (field 56 8 bytes == 0))
    ∷ []

unfoldable pub header_rows : List ℕ → List (Row FileErr)
header_rows bytes = start_rows bytes ++ (map on_header (rules (geometry_in bytes)) ++ end_rows bytes)

-- ---- the records

-- the rules of the record at an offset, after records that send `sent` bytes and ask for `asked`
unfoldable pub record_rows : GeometryFields → List ℕ → ℕ → ℕ → ℕ → List (Row FileErr)
record_rows g bytes at sent asked =
    bad reason.Short (length bytes) (nat_lt (length bytes) (at + 72))
    ∷ bad reason.Queue at (nat_le g.queues (act_at at bytes).queue)
    ∷ bad reason.Reserved (at + 2) (not (field (at + 2) 2 bytes == 0))
    ∷ bad reason.Length (at + 4) (not (length_at at bytes == transfer_len g (command_of (act_at at bytes))))
    ∷ large which.Sent (sent + length_at at bytes) (nat_lt (2 ^ 27) (sent + length_at at bytes))
    ∷ large which.Replies (asked + reply_len g (command_of (act_at at bytes))) (nat_lt (2 ^ 27) (asked + reply_len g (command_of (act_at at bytes))))
    ∷ bad reason.Short (length bytes) (nat_lt (length bytes) (next_at at bytes))
    ∷ []

-- the rules of a number of records, from an offset on
unfoldable pub records_rows : ℕ → GeometryFields → List ℕ → ℕ → ℕ → ℕ → List (Row FileErr)
records_rows zero g bytes at sent asked = []
records_rows (suc n) g bytes at sent asked =
    record_rows g bytes at sent asked
    ++ records_rows n g bytes (next_at at bytes) (sent + length_at at bytes) (asked + reply_len g (command_of (act_at at bytes)))

-- ---- all of it

-- the bytes begin with a session
unfoldable pub front_rows : List ℕ → List (Row FileErr)
front_rows bytes = header_rows bytes ++ records_rows (count_in bytes) (geometry_in bytes) bytes 64 0 0

-- the bytes are a session and nothing more
unfoldable pub file_rows : List ℕ → List (Row FileErr)
file_rows bytes = front_rows bytes ++ bad reason.Trailing (session_end bytes) (nat_lt (session_end bytes) (length bytes)) ∷ []
