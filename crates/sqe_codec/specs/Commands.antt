-- The command that an entry spells, by the bits of its dwords: NVM Express Base Specification 2.0, 3.3.3.1, NVM
-- Command Set Specification 1.0, 3.2, and Zoned Namespace Command Set Specification 1.1, 3.4.
use Rattle.std.specs.Prelude.{ℕ, ◌+◌, ◌*◌, Bool, ◌==◌, nat_lt, if◌then◌else◌, List}
use Rattle.zns_types.specs.declared.fields.GeometryFields.{GeometryFields}
use Rattle.zns_types.specs.Geometry.{block_len, greatest_transfer}
use Rattle.zns_types.specs.Fields.{bits, bit, dword, long}
use Rattle.sqe_codec.specs.declared.cmd.Cmd.{Cmd}
use Rattle.sqe_codec.specs.declared.cmd.Cmd.TheVariants as cmd

abbrev pub opcode_of : List ℕ → ℕ
opcode_of entry = bits 7 0 (dword 0 entry)

-- the command identifier that the host gave the entry
abbrev pub cid_of : List ℕ → ℕ
cid_of entry = bits 31 16 (dword 0 entry)

abbrev pub nsid_of : List ℕ → ℕ
nsid_of entry = dword 1 entry

-- the number of blocks, which is written less one
abbrev pub blocks_of : List ℕ → ℕ
blocks_of entry = bits 15 0 (dword 12 entry) + 1

-- the length of a log page, which is written as its dwords less one, in two halves
abbrev pub log_bytes_of : List ℕ → ℕ
log_bytes_of entry = 4 * (bits 31 16 (dword 10 entry) + 65536 * bits 15 0 (dword 11 entry) + 1)

-- the commands of an I/O queue
unfoldable pub io_command : List ℕ → Cmd
io_command e =
    if opcode_of e == 0x00 then cmd.Flush (nsid_of e)
    else if opcode_of e == 0x01 then cmd.Write (nsid_of e) (long 10 e) (blocks_of e)
    else if opcode_of e == 0x02 then cmd.Read (nsid_of e) (long 10 e) (blocks_of e)
    else if opcode_of e == 0x79 then cmd.Send (nsid_of e) (long 10 e) (bits 7 0 (dword 13 e)) (bit 8 (dword 13 e)) (bit 9 (dword 13 e))
    else if opcode_of e == 0x7a then cmd.Receive (nsid_of e) (long 10 e) (4 * (dword 12 e + 1)) (bits 7 0 (dword 13 e)) (bits 15 8 (dword 13 e)) (bit 16 (dword 13 e))
    else if opcode_of e == 0x7d then cmd.Append (nsid_of e) (long 10 e) (blocks_of e)
    else cmd.Unknown (opcode_of e)

-- the commands of the admin queue
unfoldable pub admin_command : List ℕ → Cmd
admin_command e =
    if opcode_of e == 0x02 then cmd.GetLog (nsid_of e) (bits 7 0 (dword 10 e)) (log_bytes_of e) (long 12 e) (bit 15 (dword 10 e))
    else if opcode_of e == 0x06 then cmd.Identify (nsid_of e) (bits 7 0 (dword 10 e)) (bits 31 24 (dword 11 e))
    else if opcode_of e == 0x09 then cmd.SetFeature (bits 7 0 (dword 10 e)) (dword 11 e)
    else if opcode_of e == 0x0a then cmd.GetFeature (bits 7 0 (dword 10 e))
    else if opcode_of e == 0x0c then cmd.Event
    else if opcode_of e == 0xc0 then cmd.Excursion (nsid_of e) (long 10 e) (bits 7 0 (dword 13 e))
    else cmd.Unknown (opcode_of e)

-- the command that an entry spells on a kind of queue
abbrev pub command : Bool → List ℕ → Cmd
command admin e = if admin then admin_command e else io_command e

-- the number of bytes of host data that a command brings
abbrev pub transfer_len : GeometryFields → Cmd → ℕ
transfer_len g (cmd.Write nsid slba blocks) = blocks * block_len g
transfer_len g (cmd.Append nsid zslba blocks) = blocks * block_len g
transfer_len g _ = 0

-- the number of bytes that a command asks for
abbrev pub asked_len : GeometryFields → Cmd → ℕ
asked_len g (cmd.Read nsid slba blocks) = blocks * block_len g
asked_len g (cmd.Receive nsid slba bytes act filter partial) = bytes
asked_len g (cmd.Identify nsid cns csi) = 4096
asked_len g (cmd.GetLog nsid page bytes offset retain) = bytes
asked_len g _ = 0

-- and 0 if that is over the greatest transfer
abbrev pub reply_len : GeometryFields → Cmd → ℕ
reply_len g c = if nat_lt (greatest_transfer g) (asked_len g c) then 0 else asked_len g c
