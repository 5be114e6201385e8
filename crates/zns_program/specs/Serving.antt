-- The replies to acts that are served one after another.
use Rattle.std.specs.Prelude.{◌≡◌, ◌≤◌, ◌^◌, Bool, List, [], length, All}
use Rattle.std.specs.List.{flat_map}
use Rattle.zns_types.specs.declared.fields.GeometryFields.{GeometryFields}
use Rattle.zns_types.specs.Statuses.{is_success}
use Rattle.zone_model.specs.declared.act.Act.{Act}
use Rattle.zone_model.specs.declared.reply.Reply.{Reply}
use Rattle.zone_model.specs.Places.{Place}
use Rattle.zone_model.specs.Answers.{status}
use Rattle.zone_model.specs.Entries.{posted}
use Rattle.zone_model.specs.Replies.{reply_bytes}
use Rattle.zone_model.specs.Sessions.{replies_bytes}
use Rattle.session_file.specs.Results.{IsShort, part_of}

-- the reply to an act after a history: its entries and the bytes that it reads
pub record IsReply (g : GeometryFields) (h : List Place) (a : Act) (r : Reply) : Type 0 where
  pub entries : r.entries.items ≡ posted g h a
  pub read : r.read ≡ reply_bytes g h a
  pub short : length r.read ≤ 2 ^ 28

-- whether the act with this reply succeeded
abbrev pub TellsSuccess : Reply → Bool → Type 0
TellsSuccess r took = (g : GeometryFields) (h : List Place) (a : Act) → IsReply g h a r → took ≡ is_success (status g h a)

-- one reply for each act, which together are what is written of the acts
pub record AreReplies (g : GeometryFields) (acts : List Act) (replies : List Reply) : Type 0 where
  pub count : length replies ≡ length acts
  pub short : All IsShort replies
  pub bytes : flat_map part_of replies ≡ replies_bytes g [] acts
