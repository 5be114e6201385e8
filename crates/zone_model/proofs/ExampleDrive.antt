-- A small drive and the acts of the worked examples: 4 zones of 64 blocks, of which 48 can be written; at most 3 active and 2 open zones;
-- one random write area of 8 blocks, in granules of 4.
use Rattle.std.proofs.Common.{ℕ, ◌+◌, ◌-◌, ◌*◌, ◌/◌, List, [], ◌∷◌, ◌++◌, map, take, drop}
use Rattle.std.specs.Prelude.{replicate}
use Rattle.std.specs.List.{range_with_len}
use Rattle.byteorder.specs.Endian.{little_bytes}
use Rattle.zns_types.specs.declared.fields.GeometryFields.{GeometryFields}
use Rattle.zns_types.specs.declared.state.State.{State}
use Rattle.zns_types.specs.Statuses.{Status}
use Rattle.cqe_codec.specs.declared.cqe.Cqe.{Cqe}
use Rattle.zone_model.specs.declared.act.Act.{Act}
use Rattle.zone_model.specs.Places.{Place}
use Rattle.zone_model.specs.Zones.{state}
use Rattle.zone_model.specs.Answers.{status, answered, and_then}
use Rattle.zone_model.specs.Entries.{posted}
use Rattle.zone_model.specs.Replies.{reply_bytes}

abbrev pub drive : GeometryFields
drive = record { block_exp = 9; mdts = 0; zasl = 0; flags = 0; zones = 4; zone_size = 64; capacity = 48; active_limit = 3; open_limit = 2; windows = 1; granule = 4; window = 8; queues = 2; depth = 64 }

-- an act on namespace 1, by its queue, opcode, command identifier, and dwords 10 to 13
abbrev pub act_on : ℕ → ℕ → ℕ → ℕ → ℕ → ℕ → ℕ → List ℕ → Act
act_on queue opcode cid dw10 dw11 dw12 dw13 payload = record {
  queue = queue;
  sqe = record {
    bytes = (opcode ∷ 0 ∷ []) ++ (little_bytes 2 cid ++ (little_bytes 4 1 ++ (replicate 32 0 ++ (little_bytes 4 dw10 ++ (little_bytes 4 dw11 ++ (little_bytes 4 dw12 ++ (little_bytes 4 dw13 ++ replicate 8 0)))))));
  };
  payload = payload;
}

-- the data of blocks that are filled with one byte
abbrev pub filled : ℕ → ℕ → List ℕ
filled blocks byte = replicate (blocks * 512) byte

abbrev pub write : ℕ → ℕ → List ℕ → Act
write slba blocks payload = act_on 1 0x01 1 slba 0 (blocks - 1) 0 payload

abbrev pub read : ℕ → ℕ → Act
read slba blocks = act_on 1 0x02 1 slba 0 (blocks - 1) 0 []

abbrev pub append : ℕ → ℕ → List ℕ → Act
append zslba blocks payload = act_on 1 0x7d 1 zslba 0 (blocks - 1) 0 payload

abbrev pub send : ℕ → ℕ → Act
send slba dw13 = act_on 1 0x79 1 slba 0 0 dw13 []

abbrev pub open_zone : ℕ → Act
open_zone slba = send slba 0x003

abbrev pub open_with_window : ℕ → Act
open_with_window slba = send slba 0x203

abbrev pub commit_to : ℕ → Act
commit_to last = send last 0x011

abbrev pub reset_all : Act
reset_all = send 5 0x104

abbrev pub statuses : List Place → List Status
statuses h = map (λ p. p.status) h

abbrev pub states : List Place → List State
states h = map (λ z. state drive h z) (range_with_len 0 4)

-- the entries that acts post, one after another
abbrev pub posts : GeometryFields → List Place → List Act → List (List Cqe)
posts g h [] = []
posts g h (a ∷ acts) = posted g h a ∷ posts g (and_then g h a) acts

-- the bytes that each act reads
abbrev pub reads : GeometryFields → List Place → List Act → List (List ℕ)
reads g h [] = []
reads g h (a ∷ acts) = reply_bytes g h a ∷ reads g (and_then g h a) acts

abbrev pub set_notices : ℕ → Act
set_notices cid = act_on 0 0x09 cid 0x0b 0x08000000 0 0 []

abbrev pub event_request : ℕ → Act
event_request cid = act_on 0 0x0c cid 0 0 0 0 []

abbrev pub excursion : ℕ → ℕ → ℕ → Act
excursion cid slba kind = act_on 0 0xc0 cid slba 0 0 kind []

-- reads 4,096 bytes of the changed zones and clears them
abbrev pub read_changed : ℕ → Act
read_changed cid = act_on 0 0x02 cid 0x03ff00bf 0 0 0 []

-- one command moves at most 32 blocks, and an Append 16
abbrev pub narrow : GeometryFields
narrow = record drive { mdts = 2; zasl = 1 }

-- no zone may have a random write area
abbrev pub plain : GeometryFields
plain = record drive { windows = 0; granule = 0; window = 0 }

-- the same act on another namespace
abbrev pub of_namespace : ℕ → Act → Act
of_namespace nsid a = record a { sqe = record { bytes = take 4 a.sqe.bytes ++ (little_bytes 4 nsid ++ drop 8 a.sqe.bytes) } }

-- a Write of blocks that all hold 11h
abbrev pub put : ℕ → ℕ → Act
put slba blocks = write slba blocks (filled blocks 0x11)

abbrev pub add : ℕ → ℕ → Act
add zslba blocks = append zslba blocks (filled blocks 0x11)

abbrev pub close_zone : ℕ → Act
close_zone slba = send slba 0x001

abbrev pub finish : ℕ → Act
finish slba = send slba 0x002

abbrev pub reset : ℕ → Act
reset slba = send slba 0x004

-- a Send to all zones, by its action code; the block named is past the namespace
abbrev pub send_all : ℕ → Act
send_all code = send 999 (0x100 + code)

-- a report, by its first block, number of bytes, filter, and 1 if partial
abbrev pub report_from : ℕ → ℕ → ℕ → ℕ → Act
report_from slba bytes filter partial = act_on 1 0x7a 1 slba 0 (bytes / 4 - 1) (filter * 256 + partial * 65536) []

abbrev pub identify : ℕ → ℕ → Act
identify cns csi = act_on 0 0x06 1 cns (csi * 16777216) 0 0 []

-- a read of a log page, by the page, the number of dwords and the offset
abbrev pub read_log : ℕ → ℕ → ℕ → Act
read_log page dwords offset = act_on 0 0x02 1 (page + (dwords - 1) * 65536) 0 offset 0 []

-- the status of each act, each after the same history
abbrev pub answers : GeometryFields → List Place → List Act → List Status
answers g h acts = map (status g h) acts

-- zones 0 and 1 are opened, and zone 2, which was written before, was closed for the second
abbrev pub crowded : GeometryFields → List Place
crowded g = answered g (put 128 1 ∷ open_zone 0 ∷ open_zone 64 ∷ [])

-- zone 0 is Read Only, zone 1 Full, zone 2 Implicitly and zone 3 Explicitly Opened
abbrev pub mixed_acts : List Act
mixed_acts = put 128 1 ∷ open_zone 192 ∷ excursion 1 0 4 ∷ finish 64 ∷ []

abbrev pub mixed : List Place
mixed = answered drive mixed_acts
