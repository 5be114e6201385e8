-- The ranges of a command's fields.
use Rattle.std.specs.Prelude.{◌≡◌, ℕ, ◌%◌, ◌^◌, ◌<◌, ◌≤◌, false, true}
use Rattle.sqe_codec.specs.declared.cmd.Cmd.{Cmd}
use Rattle.sqe_codec.specs.declared.cmd.Cmd.TheVariants as cmd
use Rattle.sqe_codec.specs.Reading.{is_listed}

-- 1 to 65,536 blocks, as sixteen bits can say, counted from 0
abbrev pub IsBlockCount : ℕ → Type 0
IsBlockCount blocks = (1 ≤ blocks) × (blocks ≤ 65536)

-- 1 to 2^32 whole dwords, as a dword can say, counted from 0
abbrev pub IsDwordLength : ℕ → Type 0
IsDwordLength bytes = (4 ≤ bytes) × (bytes ≤ 2 ^ 34) × (bytes % 4 ≡ 0)

-- each field fits the bits it is read from
abbrev pub HasRanges : Cmd → Type 0
HasRanges (cmd.Flush nsid) = nsid < 2 ^ 32
HasRanges (cmd.Write nsid slba blocks) = (nsid < 2 ^ 32) × (slba < 2 ^ 64) × IsBlockCount blocks
HasRanges (cmd.Read nsid slba blocks) = (nsid < 2 ^ 32) × (slba < 2 ^ 64) × IsBlockCount blocks
HasRanges (cmd.Append nsid zslba blocks) = (nsid < 2 ^ 32) × (zslba < 2 ^ 64) × IsBlockCount blocks
HasRanges (cmd.Send nsid slba act all option) = (nsid < 2 ^ 32) × (slba < 2 ^ 64) × (act < 256)
HasRanges (cmd.Receive nsid slba bytes act filter partial) = (nsid < 2 ^ 32) × (slba < 2 ^ 64) × IsDwordLength bytes × (act < 256) × (filter < 256)
HasRanges (cmd.GetLog nsid page bytes offset retain) = (nsid < 2 ^ 32) × (page < 256) × IsDwordLength bytes × (offset < 2 ^ 64)
HasRanges (cmd.Identify nsid cns csi) = (nsid < 2 ^ 32) × (cns < 256) × (csi < 256)
HasRanges (cmd.SetFeature feature value) = (feature < 256) × (value < 2 ^ 32)
HasRanges (cmd.GetFeature feature) = feature < 256
HasRanges cmd.Event = Unit {0}
HasRanges (cmd.Excursion nsid slba kind) = (nsid < 2 ^ 32) × (slba < 2 ^ 64) × (kind < 256)
HasRanges (cmd.Unknown opcode) = opcode < 256

-- some entry spells the command, whose fields fit their types: lengths are in range, and an unknown opcode isn't listed for either kind of
-- queue
abbrev pub IsWritable : Cmd → Type 0
IsWritable (cmd.Write nsid slba blocks) = IsBlockCount blocks
IsWritable (cmd.Read nsid slba blocks) = IsBlockCount blocks
IsWritable (cmd.Append nsid zslba blocks) = IsBlockCount blocks
IsWritable (cmd.Receive nsid slba bytes act filter partial) = IsDwordLength bytes
IsWritable (cmd.GetLog nsid page bytes offset retain) = IsDwordLength bytes
IsWritable (cmd.Unknown opcode) = (is_listed false opcode ≡ false) × (is_listed true opcode ≡ false)
IsWritable _ = Unit {0}
