-- A drive as seen from outside.
use Rattle.std.specs.Prelude.{◌≡◌, ℕ, ◌≤◌, List, length}
use Rattle.zns_types.specs.declared.fields.GeometryFields.{GeometryFields}
use Rattle.sqe_codec.specs.declared.sqe.Sqe.{Sqe}
use Rattle.sqe_codec.specs.Commands.{transfer_len, reply_len}
use Rattle.cqe_codec.specs.declared.cqe.Cqe.{Cqe}
use Rattle.zone_model.specs.declared.act.Act.{Act}
use Rattle.zone_model.specs.Kept.{KeptActs}
use Rattle.zone_model.specs.Places.{Place, command_of}
use Rattle.zone_model.specs.Notices.{changed}
use Rattle.zone_model.specs.Answers.{answered}
use Rattle.zone_model.specs.Entries.{posted}
use Rattle.zone_model.specs.Replies.{reply_bytes}

-- its geometry, the acts that it has served, and the number of further acts it has room for
pub record Drive : Type 0 where
  pub geometry : GeometryFields
  pub acts : List Act
  pub spare : ℕ

-- the drive of a geometry with a journal
abbrev pub drive_of : GeometryFields → KeptActs → Drive
drive_of g journal = record { geometry = g; acts = journal.acts; spare = journal.spare }

-- host data of the command's length, and enough room for what the command reads
pub record HasLengths (g : GeometryFields) (a : Act) (room : ℕ) : Type 0 where
  pub payload : length a.payload ≡ transfer_len g (command_of a)
  pub reply : reply_len g (command_of a) ≤ room

-- an act of a queue
abbrev pub act_of : ℕ → Sqe → List ℕ → Act
act_of queue sqe payload = record { queue = queue; sqe = sqe; payload = payload }

-- what was asked and answered
abbrev pub history : Drive → List Place
history d = answered d.geometry d.acts

-- the entries that one more act posts
abbrev pub entries_for : Drive → Act → List Cqe
entries_for d a = posted d.geometry (history d) a

-- the bytes that one more act reads
abbrev pub bytes_for : Drive → Act → List ℕ
bytes_for d a = reply_bytes d.geometry (history d) a

-- the zones that the log of changed zones lists
abbrev pub changed_zones : Drive → List ℕ
changed_zones d = changed d.geometry (history d)
