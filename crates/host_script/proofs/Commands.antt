-- The entry of a line spells its command.
use Rattle.std.proofs.Common.{◌≡◌, ℕ, ◌+◌, ◌*◌, ◌-◌, ◌%◌, ◌^◌, ◌<◌, ◌≤◌, true, false, List, [], refl, ap, ◌∙◌, arith}
use Rattle.std.proofs.Math.Nat.{add-mul, mul-le-mul_right, le-mul_of_pos_right}
use Rattle.std.proofs.lemmas.Nat.{pow_pos}
use Rattle.byteorder.specs.Numbers.{little_number-reads_back}
use Rattle.zns_types.specs.declared.fields.GeometryFields.{GeometryFields}
use Rattle.zns_types.specs.Geometry.{IsGeometry, first}
use Rattle.zns_types.specs.Fields.{bits, bit, dword, long}
use Rattle.sqe_codec.specs.declared.cmd.Cmd.TheVariants as cmd
use Rattle.sqe_codec.specs.Commands.{io_command}
use Rattle.sqe_codec.specs.Writing.{first_dword, lba_entry, send_dword, receive_dword}
use Rattle.zone_model.specs.Places.{command_of, is_event_request}
use Rattle.host_script.specs.declared.line.Line.{Line}
use Rattle.host_script.specs.declared.line.Line.TheVariants as the_line
use Rattle.host_script.specs.Lines.{IsLine}
use Rattle.host_script.specs.Scripts.{command_of_line, act_of_line}

-- ---- the dwords of an entry

record Dwords (e : List ℕ) (code block size mode : ℕ) : Type 0 where
  opcode : bits 7 0 (dword 0 e) ≡ code
  nsid : dword 1 e ≡ 1
  lba : long 10 e ≡ block
  length : dword 12 e ≡ size
  how : dword 13 e ≡ mode

opcode_in : (opcode cid : ℕ) → opcode < 2 ^ 8 → bits 7 0 (first_dword opcode cid) ≡ opcode
opcode_in opcode cid small = omega arith

dwords : (opcode cid lba length how : ℕ) → opcode < 2 ^ 8 → cid < 2 ^ 16 → lba < 2 ^ 64 → length < 2 ^ 32 → how < 2 ^ 32 → Dwords (lba_entry (first_dword opcode cid) 1 lba length how) opcode lba length how
dwords opcode cid lba length how small few far short little = record {
  opcode = ap (bits 7 0) (little_number-reads_back 4 (first_dword opcode cid) [] (omega arith)) ∙ opcode_in opcode cid small;
  nsid = little_number-reads_back 4 1 [] (omega arith);
  lba = little_number-reads_back 8 lba [] far;
  length = little_number-reads_back 4 length [] short;
  how = little_number-reads_back 4 how [] little;
}

-- ---- each kind of command

writes : (e : List ℕ) (lba length how : ℕ) → Dwords e 0x01 lba length how → io_command e ≡ cmd.Write 1 lba (bits 15 0 length + 1)
unfolding io_command
writes e lba length how d = rw (d.opcode, d.nsid, d.lba, d.length) refl

appends : (e : List ℕ) (lba length how : ℕ) → Dwords e 0x7d lba length how → io_command e ≡ cmd.Append 1 lba (bits 15 0 length + 1)
unfolding io_command
appends e lba length how d = rw (d.opcode, d.nsid, d.lba, d.length) refl

sends : (e : List ℕ) (lba length how : ℕ) → Dwords e 0x79 lba length how → io_command e ≡ cmd.Send 1 lba (bits 7 0 how) (bit 8 how) (bit 9 how)
unfolding io_command
sends e lba length how d = rw (d.opcode, d.nsid, d.lba, d.how) refl

receives : (e : List ℕ) (lba length how : ℕ) → Dwords e 0x7a lba length how → io_command e ≡ cmd.Receive 1 lba (4 * (length + 1)) (bits 7 0 how) (bits 15 8 how) (bit 16 how)
unfolding io_command
receives e lba length how d = rw (d.opcode, d.nsid, d.lba, d.length, d.how) refl

blocks_back : (blocks : ℕ) → 1 ≤ blocks → blocks ≤ 65536 → bits 15 0 (blocks - 1) + 1 ≡ blocks
blocks_back blocks some few = omega arith

write_read : (cid lba blocks : ℕ) → cid < 2 ^ 16 → lba < 2 ^ 64 → 1 ≤ blocks → blocks ≤ 65536 → io_command (lba_entry (first_dword 0x01 cid) 1 lba (blocks - 1) 0) ≡ cmd.Write 1 lba blocks
write_read cid lba blocks few far some most =
    writes _ lba (blocks - 1) 0 (dwords 0x01 cid lba (blocks - 1) 0 (omega arith) few far (omega arith) (omega arith)) ∙ ap (cmd.Write 1 lba) (blocks_back blocks some most)

append_read : (cid lba blocks : ℕ) → cid < 2 ^ 16 → lba < 2 ^ 64 → 1 ≤ blocks → blocks ≤ 65536 → io_command (lba_entry (first_dword 0x7d cid) 1 lba (blocks - 1) 0) ≡ cmd.Append 1 lba blocks
append_read cid lba blocks few far some most =
    appends _ lba (blocks - 1) 0 (dwords 0x7d cid lba (blocks - 1) 0 (omega arith) few far (omega arith) (omega arith)) ∙ ap (cmd.Append 1 lba) (blocks_back blocks some most)

open_read : (cid lba : ℕ) → cid < 2 ^ 16 → lba < 2 ^ 64 → io_command (lba_entry (first_dword 0x79 cid) 1 lba 0 (send_dword 0x03 false true)) ≡ cmd.Send 1 lba 0x03 false true
open_read cid lba few far = sends _ lba 0 (send_dword 0x03 false true) (dwords 0x79 cid lba 0 (send_dword 0x03 false true) (omega arith) few far (omega arith) (omega arith))

commit_read : (cid lba : ℕ) → cid < 2 ^ 16 → lba < 2 ^ 64 → io_command (lba_entry (first_dword 0x79 cid) 1 lba 0 (send_dword 0x11 false false)) ≡ cmd.Send 1 lba 0x11 false false
commit_read cid lba few far = sends _ lba 0 (send_dword 0x11 false false) (dwords 0x79 cid lba 0 (send_dword 0x11 false false) (omega arith) few far (omega arith) (omega arith))

reset_read : (cid lba : ℕ) → cid < 2 ^ 16 → lba < 2 ^ 64 → io_command (lba_entry (first_dword 0x79 cid) 1 lba 0 (send_dword 0x04 false false)) ≡ cmd.Send 1 lba 0x04 false false
reset_read cid lba few far = sends _ lba 0 (send_dword 0x04 false false) (dwords 0x79 cid lba 0 (send_dword 0x04 false false) (omega arith) few far (omega arith) (omega arith))

report_read : (cid lba : ℕ) → cid < 2 ^ 16 → lba < 2 ^ 64 → io_command (lba_entry (first_dword 0x7a cid) 1 lba 31 (receive_dword 0 0 true)) ≡ cmd.Receive 1 lba 128 0 0 true
report_read cid lba few far = receives _ lba 31 (receive_dword 0 0 true) (dwords 0x7a cid lba 31 (receive_dword 0 0 true) (omega arith) few far (omega arith) (omega arith))

-- ---- the command of a line

-- a zone's blocks have numbers of 64 bits
block_small : (g : GeometryFields) (zone offset : ℕ) → IsGeometry g → zone < g.zones → offset < g.zone_size → first g zone + offset < 2 ^ 64
block_small g zone offset is lt far =
    let all : g.zones * g.zone_size ≤ g.zones * g.zone_size * 2 ^ g.block_exp = le-mul_of_pos_right (g.zones * g.zone_size) (pow_pos g.block_exp) in
    let more : (zone + 1) * g.zone_size ≤ g.zones * g.zone_size = mul-le-mul_right g.zone_size (omega arith) in
    omega (arith, is.zones.namespace, add-mul zone 1 g.zone_size)

start_small : (g : GeometryFields) (zone : ℕ) → IsGeometry g → zone < g.zones → first g zone < 2 ^ 64
start_small g zone is lt = let end = block_small g zone 0 is lt (let some = is.zones.zone_size in omega arith) in omega arith

number_small : (number : ℕ) → number % 2 ^ 16 < 2 ^ 16
number_small number = omega arith

pub command_of-line : (g : GeometryFields) (number : ℕ) (l : Line) → IsGeometry g → IsLine g l → command_of (act_of_line g number l) ≡ command_of_line g l
command_of-line g number (the_line.Write lba blocks byte) valid is = write_read (number % 2 ^ 16) lba blocks (number_small number) is.0 is.1.some is.1.few
command_of-line g number (the_line.Append zone blocks byte) valid is = append_read (number % 2 ^ 16) (first g zone) blocks (number_small number) (start_small g zone valid is.0) is.1.some is.1.few
command_of-line g number (the_line.Put zone offset blocks byte) valid is = write_read (number % 2 ^ 16) (first g zone + offset) blocks (number_small number) (block_small g zone offset valid is.0 is.1) is.2.some is.2.few
command_of-line g number (the_line.Open zone) valid is = open_read (number % 2 ^ 16) (first g zone) (number_small number) (start_small g zone valid is)
command_of-line g number (the_line.Flush zone last) valid is = commit_read (number % 2 ^ 16) (first g zone + last) (number_small number) (block_small g zone last valid is.0 is.1)
command_of-line g number (the_line.Reset zone) valid is = reset_read (number % 2 ^ 16) (first g zone) (number_small number) (start_small g zone valid is)
command_of-line g number (the_line.Report zone) valid is = report_read (number % 2 ^ 16) (first g zone) (number_small number) (start_small g zone valid is)

line_no_event : (g : GeometryFields) (l : Line) → is_event_request (command_of_line g l) ≡ false
line_no_event g (the_line.Write lba blocks byte) = refl
line_no_event g (the_line.Append zone blocks byte) = refl
line_no_event g (the_line.Put zone offset blocks byte) = refl
line_no_event g (the_line.Open zone) = refl
line_no_event g (the_line.Flush zone last) = refl
line_no_event g (the_line.Reset zone) = refl
line_no_event g (the_line.Report zone) = refl

-- a line's command is no event request
pub no_event : (g : GeometryFields) (number : ℕ) (l : Line) → IsGeometry g → IsLine g l → is_event_request (command_of (act_of_line g number l)) ≡ false
no_event g number l valid is = ap is_event_request (command_of-line g number l valid is) ∙ line_no_event g l
