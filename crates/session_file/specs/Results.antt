-- The parts of a result file, by the queues of the acts and the replies to them.
use Rattle.std.specs.Prelude.{ℕ, List, ◌++◌, ◌^◌, ◌<◌, length}
use Rattle.std.specs.List.{flat_map}
use Rattle.zone_model.specs.declared.reply.Reply.{Reply}
use Rattle.zone_model.specs.Sessions.{order_bytes, reply_part}

-- the bytes of a reply: its entries and the bytes that it read, each after their number
abbrev pub part_of : Reply → List ℕ
part_of r = reply_part r.entries.items r.read

-- the number of bytes read fits in four bytes
abbrev pub IsShort : Reply → Type 0
IsShort r = length r.read < 2 ^ 32

-- the queues in their order, the replies, the descriptors of all zones, and the page of changed zones
unfoldable pub result_parts : List ℕ → List Reply → List ℕ → List ℕ → List ℕ
result_parts order replies descriptors page = order_bytes order ++ flat_map part_of replies ++ descriptors ++ page
