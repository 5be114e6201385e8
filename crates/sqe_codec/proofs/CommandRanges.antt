-- The fields of the command that bytes spell are in range.
use Rattle.std.proofs.Common.{ℕ, ◌+◌, ◌*◌, ◌^◌, ◌<◌, Bool, true, false, cond, ◌==◌, List, drop, slice_index, arith}
use Rattle.std.proofs.lemmas.List.{get_or-drop}
use Rattle.byteorder.specs.Numbers.{little_from-lt}
use Rattle.zns_types.specs.Fields.{field, bits, bit, dword, long}
use Rattle.sqe_codec.specs.declared.cmd.Cmd.{Cmd}
use Rattle.sqe_codec.specs.declared.cmd.Cmd.TheVariants as cmd
use Rattle.sqe_codec.specs.Commands.{command, io_command, admin_command, opcode_of, nsid_of, blocks_of, log_bytes_of}
use Rattle.sqe_codec.specs.Ranges.{HasRanges}

-- the first of seven commands whose test holds, or else the last
choice : (a b c d f g : Bool) (t u v w x y z : Cmd) → HasRanges t → HasRanges u → HasRanges v → HasRanges w → HasRanges x → HasRanges y → HasRanges z
    → HasRanges (cond a t (cond b u (cond c v (cond d w (cond f x (cond g y z))))))
choice true b c d f g t u v w x y z t-fits u-fits v-fits w-fits x-fits y-fits z-fits = t-fits
choice false true c d f g t u v w x y z t-fits u-fits v-fits w-fits x-fits y-fits z-fits = u-fits
choice false false true d f g t u v w x y z t-fits u-fits v-fits w-fits x-fits y-fits z-fits = v-fits
choice false false false true f g t u v w x y z t-fits u-fits v-fits w-fits x-fits y-fits z-fits = w-fits
choice false false false false true g t u v w x y z t-fits u-fits v-fits w-fits x-fits y-fits z-fits = x-fits
choice false false false false false true t u v w x y z t-fits u-fits v-fits w-fits x-fits y-fits z-fits = y-fits
choice false false false false false false t u v w x y z t-fits u-fits v-fits w-fits x-fits y-fits z-fits = z-fits

-- a field of bytes fits its width
field-lt : (place width : ℕ) (e : List ℕ) → ((i : ℕ) → slice_index e i < 256) → field place width e < 256 ^ width
field-lt place width e fits = little_from-lt 0 width (drop place e) (λ i. rw (get_or-drop place e i 0) (fits (place + i)))

pub command-has_ranges : (admin : Bool) (e : List ℕ) → ((i : ℕ) → slice_index e i < 256) → HasRanges (command admin e)
unfolding io_command admin_command
command-has_ranges false e fits =
    let nsid : dword 1 e < 2 ^ 32 = field-lt 4 4 e fits in
    let lba : long 10 e < 2 ^ 64 = field-lt 40 8 e fits in
    let length : dword 12 e < 2 ^ 32 = field-lt 48 4 e fits in
    let how = dword 13 e in
    choice (opcode_of e == 0x00) (opcode_of e == 0x01) (opcode_of e == 0x02) (opcode_of e == 0x79) (opcode_of e == 0x7a) (opcode_of e == 0x7d)
    (cmd.Flush (nsid_of e))
    (cmd.Write (nsid_of e) (long 10 e) (blocks_of e))
    (cmd.Read (nsid_of e) (long 10 e) (blocks_of e))
    (cmd.Send (nsid_of e) (long 10 e) (bits 7 0 how) (bit 8 how) (bit 9 how))
    (cmd.Receive (nsid_of e) (long 10 e) (4 * (dword 12 e + 1)) (bits 7 0 how) (bits 15 8 how) (bit 16 how))
    (cmd.Append (nsid_of e) (long 10 e) (blocks_of e))
    (cmd.Unknown (opcode_of e))
    nsid
    (nsid, lba, (omega arith, omega arith))
    (nsid, lba, (omega arith, omega arith))
    (nsid, lba, omega arith)
    (nsid, lba, (omega arith, omega arith, omega arith), omega arith, omega arith)
    (nsid, lba, (omega arith, omega arith))
    (omega arith)
command-has_ranges true e fits =
    let nsid : dword 1 e < 2 ^ 32 = field-lt 4 4 e fits in
    let lba : long 10 e < 2 ^ 64 = field-lt 40 8 e fits in
    let offset : long 12 e < 2 ^ 64 = field-lt 48 8 e fits in
    let value : dword 11 e < 2 ^ 32 = field-lt 44 4 e fits in
    let low = bits 7 0 (dword 10 e) in
    choice (opcode_of e == 0x02) (opcode_of e == 0x06) (opcode_of e == 0x09) (opcode_of e == 0x0a) (opcode_of e == 0x0c) (opcode_of e == 0xc0)
    (cmd.GetLog (nsid_of e) low (log_bytes_of e) (long 12 e) (bit 15 (dword 10 e)))
    (cmd.Identify (nsid_of e) low (bits 31 24 (dword 11 e)))
    (cmd.SetFeature low (dword 11 e))
    (cmd.GetFeature low)
    cmd.Event
    (cmd.Excursion (nsid_of e) (long 10 e) (bits 7 0 (dword 13 e)))
    (cmd.Unknown (opcode_of e))
    (nsid, omega arith, (omega arith, omega arith, omega arith), offset)
    (nsid, omega arith, omega arith)
    (omega arith, value)
    (omega arith)
    tt
    (nsid, lba, omega arith)
    (omega arith)
