-- Sessions and results, and the bytes that spell them.
use Rattle.std.specs.Prelude.{◌≡◌, ℕ, ◌+◌, ◌^◌, ◌<◌, ◌≤◌, Bool, ◌==◌, if◌then◌else◌, List, [], ◌∷◌, ◌++◌, map, length, replicate, count_by, filter, find, Option, Some, None, All, codes}
use Rattle.std.specs.List.{flat_map}
use Rattle.byteorder.specs.Endian.{little_bytes}
use Rattle.zns_types.specs.declared.fields.GeometryFields.{GeometryFields}
use Rattle.zns_types.specs.Geometry.{IsGeometry}
use Rattle.sqe_codec.specs.Commands.{transfer_len, reply_len}
use Rattle.cqe_codec.specs.declared.cqe.Cqe.{Cqe}
use Rattle.cqe_codec.specs.Entries.{entry_bytes}
use Rattle.zone_model.specs.declared.act.Act.{Act}
use Rattle.zone_model.specs.Places.{Place, command_of}
use Rattle.zone_model.specs.Notices.{changed}
use Rattle.zone_model.specs.Answers.{and_then, answered}
use Rattle.drive_rules.specs.Reports.{changed_page, bytes_of_all}
use Rattle.zone_model.specs.Replies.{descriptors, reply_bytes}
use Rattle.zone_model.specs.Entries.{posted}

-- ---- sessions

-- a geometry, and recorded acts in the order of the file
pub record Recorded : Type 0 where
  pub geometry : GeometryFields
  pub acts : List Act

abbrev pub sum_of : (Act → ℕ) → List Act → ℕ
sum_of f [] = 0
sum_of f (a ∷ acts) = f a + sum_of f acts

-- an act of a drive: an entry on one of its queues, with the host data that its command moves
pub record IsAct (g : GeometryFields) (a : Act) : Type 0 where
  pub queue : a.queue < g.queues
  pub entry : length a.sqe.bytes ≡ 64
  pub payload : length a.payload ≡ transfer_len g (command_of a)

abbrev pub sent_bytes : List Act → ℕ
sent_bytes acts = sum_of (λ a. length a.payload) acts

abbrev pub asked_bytes : GeometryFields → List Act → ℕ
asked_bytes g acts = sum_of (λ a. reply_len g (command_of a)) acts

-- the numbers of a header that no rule on geometries bounds fit into their fields
pub record HasWidths (g : GeometryFields) : Type 0 where
  pub active_limit : g.active_limit < 2 ^ 32
  pub open_limit : g.open_limit < 2 ^ 32
  pub windows : g.windows < 2 ^ 32
  pub granule : g.granule < 2 ^ 16
  pub window : g.window < 2 ^ 16

-- a session that a file can hold
pub record IsSession (s : Recorded) : Type 0 where
  pub geometry : IsGeometry s.geometry
  pub widths : HasWidths s.geometry
  pub count : length s.acts ≤ 262144
  pub acts : All (IsAct s.geometry) s.acts
  pub sent : sent_bytes s.acts ≤ 2 ^ 27
  pub asked : asked_bytes s.geometry s.acts ≤ 2 ^ 27

-- the 64 bytes of the header
abbrev pub header_bytes : GeometryFields → ℕ → List ℕ
header_bytes g acts =
    codes "ZNSQ0001"
    ++ (g.block_exp ∷ g.mdts ∷ g.zasl ∷ g.flags ∷ [])
    ++ little_bytes 4 g.zones
    ++ little_bytes 8 g.zone_size
    ++ little_bytes 8 g.capacity
    ++ little_bytes 4 g.active_limit
    ++ little_bytes 4 g.open_limit
    ++ little_bytes 4 g.windows
    ++ little_bytes 2 g.granule
    ++ little_bytes 2 g.window
    ++ little_bytes 2 g.queues
    ++ little_bytes 2 g.depth
    ++ little_bytes 4 acts
    ++ replicate 8 0

-- the record of an act
abbrev pub record_bytes : Act → List ℕ
record_bytes a = little_bytes 2 a.queue ++ (0 ∷ 0 ∷ []) ++ little_bytes 4 (length a.payload) ++ a.sqe.bytes ++ a.payload

unfoldable pub spelling : Recorded → List ℕ
spelling s = header_bytes s.geometry (length s.acts) ++ flat_map record_bytes s.acts

-- These bytes are the session, and nothing more.
abbrev pub spells : Recorded → List ℕ → Type 0
spells s bytes = bytes ≡ spelling s

-- ---- orders

abbrev pub is_of : ℕ → Act → Bool
is_of queue a = a.queue == queue

-- the first act of a queue
abbrev pub next_of : ℕ → List Act → Option Act
next_of queue acts = find (is_of queue) acts

-- the acts without the first one of a queue
abbrev pub rest_of : ℕ → List Act → List Act
rest_of queue [] = []
rest_of queue (a ∷ acts) = if is_of queue a then acts else a ∷ rest_of queue acts

abbrev pub next_then : Option Act → List Act → List Act
next_then None acts = acts
next_then (Some a) acts = a ∷ acts

-- The acts in the order in which the queues are named: for each name, the next act of that queue.
abbrev pub merged : List Act → List ℕ → List Act
merged acts [] = []
merged acts (queue ∷ order) = next_then (next_of queue acts) (merged (rest_of queue acts) order)

-- an order names each queue as often as it has acts
abbrev pub IsOrder : List Act → List ℕ → Type 0
IsOrder acts order = (queue : ℕ) → count_by (λ q. q == queue) order ≡ count_by (is_of queue) acts

-- the acts of a queue
abbrev pub acts_of : ℕ → List Act → List Act
acts_of queue acts = filter (is_of queue) acts

-- each act once, with those of each queue in their own order
pub record IsMerge (acts mixed : List Act) : Type 0 where
  pub count : length mixed ≡ length acts
  pub queues : (queue : ℕ) → acts_of queue mixed ≡ acts_of queue acts

-- Acts merged by an order of their queues are all of these acts, with each queue's in its own order.
abbrev pub MergeKeepsOrder : Type 0
MergeKeepsOrder = (acts : List Act) (order : List ℕ) → IsOrder acts order → IsMerge acts (merged acts order)

abbrev pub merge : Recorded → List ℕ → List Act
merge s order = merged s.acts order

-- the order of the file
abbrev pub own_order : List Act → List ℕ
own_order acts = map (λ a. a.queue) acts

-- ---- results

-- the part of a result for one act: the number of its entries, the entries, the number of its bytes, and the bytes
abbrev pub reply_part : List Cqe → List ℕ → List ℕ
reply_part entries read = little_bytes 2 (length entries) ++ flat_map entry_bytes entries ++ little_bytes 4 (length read) ++ read

-- the parts for acts that come after a history
abbrev pub replies_bytes : GeometryFields → List Place → List Act → List ℕ
replies_bytes g h [] = []
replies_bytes g h (a ∷ acts) = reply_part (posted g h a) (reply_bytes g h a) ++ replies_bytes g (and_then g h a) acts

-- the bytes of an order
abbrev pub order_bytes : List ℕ → List ℕ
order_bytes order = codes "ZNSR0001" ++ little_bytes 4 (length order) ++ flat_map (little_bytes 2) order

-- The result file of acts that were served in an order: the order, the replies to the acts, and the final state of the drive.
unfoldable pub result_bytes : GeometryFields → List ℕ → List Act → List ℕ
result_bytes g order acts =
    order_bytes order
    ++ replies_bytes g [] acts
    ++ bytes_of_all (descriptors g (answered g acts))
    ++ changed_page g (changed g (answered g acts))

abbrev pub result_of : Recorded → List ℕ → List ℕ
result_of s order = result_bytes s.geometry order (merge s order)

-- the order is an order of the session, and the bytes are its result in that order
pub record IsResult (s : Recorded) (order bytes : List ℕ) : Type 0 where
  pub each_once : IsOrder s.acts order
  pub spelled : bytes ≡ result_of s order
