-- When an entry spells a command: each field of the command is a range of bits of the entry's dwords. NVM Express Base
-- Specification 2.0, 3.3.3.1 (fields of every entry), 5 (admin commands) and 7 (Flush), NVM Command Set Specification
-- 1.0, 3.2 (Read, Write), and Zoned Namespace Command Set Specification 1.1, 3.4 (the commands of zones).
use Rattle.std.specs.Prelude.{◌≡◌, ◌↔◌, ℕ, ◌+◌, ◌*◌, ◌^◌, Bool, true, false, ◌||◌, ◌==◌, if◌then◌else◌, IsTrue, List}
use Rattle.zns_types.specs.Fields.{bits, dword}
use Rattle.sqe_codec.specs.declared.cmd.Cmd.{Cmd}
use Rattle.sqe_codec.specs.declared.cmd.Cmd.TheVariants as cmd

-- the opcodes of an I/O queue
abbrev pub is_io_opcode : ℕ → Bool
is_io_opcode o = (o == 0x00) || (o == 0x01) || (o == 0x02) || (o == 0x79) || (o == 0x7a) || (o == 0x7d)

-- the opcodes of the admin queue; C0h, in the range left to vendors, is the excursion of a zone
abbrev pub is_admin_opcode : ℕ → Bool
is_admin_opcode o = (o == 0x02) || (o == 0x06) || (o == 0x09) || (o == 0x0a) || (o == 0x0c) || (o == 0xc0)

-- the opcodes of a kind of queue
abbrev pub is_listed : Bool → ℕ → Bool
is_listed admin o = if admin then is_admin_opcode o else is_io_opcode o

-- the low byte of the first dword is the opcode
abbrev pub HasOpcode : List ℕ → ℕ → Type 0
HasOpcode entry opcode = bits 7 0 (dword 0 entry) ≡ opcode

-- the second dword names the namespace
abbrev pub HasNamespace : List ℕ → ℕ → Type 0
HasNamespace entry nsid = dword 1 entry ≡ nsid

-- dwords 10 and 11 are the halves of an LBA, the low one first
abbrev pub HasLba : List ℕ → ℕ → Type 0
HasLba entry lba = dword 10 entry + 2 ^ 32 * dword 11 entry ≡ lba

-- the low half of dword 12 is the number of blocks less one
abbrev pub HasBlocks : List ℕ → ℕ → Type 0
HasBlocks entry blocks = bits 15 0 (dword 12 entry) + 1 ≡ blocks

-- a bit of a dword is set exactly if the flag is
abbrev pub HasFlag : ℕ → ℕ → List ℕ → Bool → Type 0
HasFlag k place entry flag = IsTrue flag ↔ (bits place place (dword k entry) ≡ 1)

-- the entry on that kind of queue spells the command
abbrev pub Reads : List ℕ → Bool → Cmd → Type 0
Reads e admin (cmd.Flush nsid) = (admin ≡ false) × HasOpcode e 0x00 × HasNamespace e nsid
Reads e admin (cmd.Write nsid slba blocks) = (admin ≡ false) × HasOpcode e 0x01 × HasNamespace e nsid × HasLba e slba × HasBlocks e blocks
Reads e admin (cmd.Read nsid slba blocks) = (admin ≡ false) × HasOpcode e 0x02 × HasNamespace e nsid × HasLba e slba × HasBlocks e blocks
Reads e admin (cmd.Append nsid zslba blocks) = (admin ≡ false) × HasOpcode e 0x7d × HasNamespace e nsid × HasLba e zslba × HasBlocks e blocks
Reads e admin (cmd.Send nsid slba act all option) =
    (admin ≡ false) × HasOpcode e 0x79 × HasNamespace e nsid × HasLba e slba
    × (bits 7 0 (dword 13 e) ≡ act) × HasFlag 13 8 e all × HasFlag 13 9 e option
Reads e admin (cmd.Receive nsid slba bytes act filter partial) =
    (admin ≡ false) × HasOpcode e 0x7a × HasNamespace e nsid × HasLba e slba
    × (4 * (dword 12 e + 1) ≡ bytes)
    × (bits 7 0 (dword 13 e) ≡ act) × (bits 15 8 (dword 13 e) ≡ filter) × HasFlag 13 16 e partial
Reads e admin (cmd.GetLog nsid page bytes offset retain) =
    (admin ≡ true) × HasOpcode e 0x02 × HasNamespace e nsid
    × (bits 7 0 (dword 10 e) ≡ page) × HasFlag 10 15 e retain
    × (4 * (bits 31 16 (dword 10 e) + 2 ^ 16 * bits 15 0 (dword 11 e) + 1) ≡ bytes)
    × (dword 12 e + 2 ^ 32 * dword 13 e ≡ offset)
Reads e admin (cmd.Identify nsid cns csi) =
    (admin ≡ true) × HasOpcode e 0x06 × HasNamespace e nsid
    × (bits 7 0 (dword 10 e) ≡ cns) × (bits 31 24 (dword 11 e) ≡ csi)
Reads e admin (cmd.SetFeature feature value) = (admin ≡ true) × HasOpcode e 0x09 × (bits 7 0 (dword 10 e) ≡ feature) × (dword 11 e ≡ value)
Reads e admin (cmd.GetFeature feature) = (admin ≡ true) × HasOpcode e 0x0a × (bits 7 0 (dword 10 e) ≡ feature)
Reads e admin cmd.Event = (admin ≡ true) × HasOpcode e 0x0c
Reads e admin (cmd.Excursion nsid slba kind) = (admin ≡ true) × HasOpcode e 0xc0 × HasNamespace e nsid × HasLba e slba × (bits 7 0 (dword 13 e) ≡ kind)
Reads e admin (cmd.Unknown opcode) = HasOpcode e opcode × (is_listed admin opcode ≡ false)
