-- The layout of a session's bytes: a header of 64 bytes, then one record for each act. A record has the queue in two bytes, two zero bytes,
-- the length of the host data in four, an entry of 64, and the host data.
use Rattle.std.specs.Prelude.{ℕ, zero, suc, ◌+◌, List, [], ◌∷◌, take, drop, slice_index}
use Rattle.zns_types.specs.declared.fields.GeometryFields.{GeometryFields}
use Rattle.zns_types.specs.Fields.{field}
use Rattle.zone_model.specs.declared.act.Act.{Act}
use Rattle.zone_model.specs.Sessions.{Recorded}

-- the numbers of the drive, from the header
unfoldable pub geometry_in : List ℕ → GeometryFields
geometry_in bytes = record {
  block_exp = slice_index bytes 8;
  mdts = slice_index bytes 9;
  zasl = slice_index bytes 10;
  flags = slice_index bytes 11;
  zones = field 12 4 bytes;
  zone_size = field 16 8 bytes;
  capacity = field 24 8 bytes;
  active_limit = field 32 4 bytes;
  open_limit = field 36 4 bytes;
  windows = field 40 4 bytes;
  granule = field 44 2 bytes;
  window = field 46 2 bytes;
  queues = field 48 2 bytes;
  depth = field 50 2 bytes;
}

-- the number of acts, from the header
unfoldable pub count_in : List ℕ → ℕ
count_in bytes = field 52 4 bytes

-- the length of the host data of the record at an offset
unfoldable pub length_at : ℕ → List ℕ → ℕ
length_at at bytes = field (at + 4) 4 bytes

-- the act of the record at an offset
unfoldable pub act_at : ℕ → List ℕ → Act
act_at at bytes = record {
  queue = field at 2 bytes;
  sqe = record { bytes = take 64 (drop (at + 8) bytes) };
  payload = take (length_at at bytes) (drop (at + 72) bytes);
}

-- the offset after the record at an offset
abbrev pub next_at : ℕ → List ℕ → ℕ
next_at at bytes = at + 72 + length_at at bytes

-- the acts of a number of records, from an offset on
abbrev pub acts_from : ℕ → ℕ → List ℕ → List Act
acts_from zero at bytes = []
acts_from (suc n) at bytes = act_at at bytes ∷ acts_from n (next_at at bytes) bytes

-- the offset after a number of records, from an offset on
abbrev pub end_from : ℕ → ℕ → List ℕ → ℕ
end_from zero at bytes = at
end_from (suc n) at bytes = end_from n (next_at at bytes) bytes

-- the session that bytes begin with
abbrev pub session_in : List ℕ → Recorded
session_in bytes = record { geometry = geometry_in bytes; acts = acts_from (count_in bytes) 64 bytes }

-- the offset after that session
abbrev pub session_end : List ℕ → ℕ
session_end bytes = end_from (count_in bytes) 64 bytes
