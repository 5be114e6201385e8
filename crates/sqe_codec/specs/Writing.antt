-- The bytes of the entry that spells a command, with zeros in every field that isn't read.
use Rattle.std.specs.Prelude.{ℕ, ◌+◌, ◌*◌, ◌-◌, ◌/◌, ◌%◌, ◌^◌, Bool, true, false, if◌then◌else◌, List, ◌++◌, replicate}
use Rattle.byteorder.specs.Endian.{little_bytes}
use Rattle.sqe_codec.specs.declared.cmd.Cmd.{Cmd}
use Rattle.sqe_codec.specs.declared.cmd.Cmd.TheVariants as cmd

-- the kind of queue that takes the command; either takes an unknown one
abbrev pub is_admin : Cmd → Bool
is_admin (cmd.GetLog nsid page bytes offset retain) = true
is_admin (cmd.Identify nsid cns csi) = true
is_admin (cmd.SetFeature feature value) = true
is_admin (cmd.GetFeature feature) = true
is_admin cmd.Event = true
is_admin (cmd.Excursion nsid slba kind) = true
is_admin _ = false

abbrev pub IsUnknown : Cmd → Type 0
IsUnknown (cmd.Unknown opcode) = Unit {0}
IsUnknown _ = ⊥

abbrev pub one : Bool → ℕ
one b = if b then 1 else 0

-- the first dword: the opcode and the command identifier that the host gives the entry
abbrev pub first_dword : ℕ → ℕ → ℕ
first_dword opcode cid = opcode + 2 ^ 16 * cid

-- dword 13 of a Zone Management Send
abbrev pub send_dword : ℕ → Bool → Bool → ℕ
send_dword act all option = act + 2 ^ 8 * one all + 2 ^ 9 * one option

-- dword 13 of a Zone Management Receive
abbrev pub receive_dword : ℕ → ℕ → Bool → ℕ
receive_dword act filter partial = act + 2 ^ 8 * filter + 2 ^ 16 * one partial

-- dword 10 of a Get Log Page, with the low half of the number of dwords less one
abbrev pub log_dword : ℕ → Bool → ℕ → ℕ
log_dword page retain low = page + 2 ^ 15 * one retain + 2 ^ 16 * low

-- an entry with these first two dwords and dwords 10 to 13, of which the first two hold an LBA
abbrev pub lba_entry : ℕ → ℕ → ℕ → ℕ → ℕ → List ℕ
lba_entry first nsid lba length how =
    little_bytes 4 first ++ little_bytes 4 nsid ++ replicate 32 0 ++ little_bytes 8 lba ++ little_bytes 4 length ++ little_bytes 4 how ++ replicate 8 0

-- an entry with these first two dwords and dwords 10 to 13, of which the last two hold an offset
abbrev pub page_entry : ℕ → ℕ → ℕ → ℕ → ℕ → List ℕ
page_entry first nsid what value offset =
    little_bytes 4 first ++ little_bytes 4 nsid ++ replicate 32 0 ++ little_bytes 4 what ++ little_bytes 4 value ++ little_bytes 8 offset ++ replicate 8 0

-- the number of dwords in a length, less one
abbrev pub dwords_less_one : ℕ → ℕ
dwords_less_one bytes = bytes / 4 - 1

-- the entry's bytes
abbrev pub entry_of : Cmd → ℕ → List ℕ
entry_of (cmd.Flush nsid) cid = lba_entry (first_dword 0x00 cid) nsid 0 0 0
entry_of (cmd.Write nsid slba blocks) cid = lba_entry (first_dword 0x01 cid) nsid slba (blocks - 1) 0
entry_of (cmd.Read nsid slba blocks) cid = lba_entry (first_dword 0x02 cid) nsid slba (blocks - 1) 0
entry_of (cmd.Append nsid zslba blocks) cid = lba_entry (first_dword 0x7d cid) nsid zslba (blocks - 1) 0
entry_of (cmd.Send nsid slba act all option) cid = lba_entry (first_dword 0x79 cid) nsid slba 0 (send_dword act all option)
entry_of (cmd.Receive nsid slba bytes act filter partial) cid = lba_entry (first_dword 0x7a cid) nsid slba (dwords_less_one bytes) (receive_dword act filter partial)
entry_of (cmd.GetLog nsid page bytes offset retain) cid = page_entry (first_dword 0x02 cid) nsid (log_dword page retain (dwords_less_one bytes % 2 ^ 16)) (dwords_less_one bytes / 2 ^ 16) offset
entry_of (cmd.Identify nsid cns csi) cid = page_entry (first_dword 0x06 cid) nsid cns (2 ^ 24 * csi) 0
entry_of (cmd.SetFeature feature value) cid = page_entry (first_dword 0x09 cid) 0 feature value 0
entry_of (cmd.GetFeature feature) cid = page_entry (first_dword 0x0a cid) 0 feature 0 0
entry_of cmd.Event cid = page_entry (first_dword 0x0c cid) 0 0 0 0
entry_of (cmd.Excursion nsid slba kind) cid = lba_entry (first_dword 0xc0 cid) nsid slba 0 kind
entry_of (cmd.Unknown opcode) cid = lba_entry (first_dword opcode cid) 0 0 0 0
