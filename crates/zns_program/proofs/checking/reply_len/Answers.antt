use Rattle.std.proofs.Common.{◌≡◌, ◌+◌, ◌*◌, List, [], ◌∷◌, ◌++◌, length, refl, ap, arith, length-append}
use Rattle.std.specs.List.{flat_map}
use Rattle.byteorder.specs.Endian.{little_bytes}
use Rattle.cqe_codec.specs.declared.cqe.Cqe.{Cqe}
use Rattle.cqe_codec.specs.Entries.{entry_bytes}
use Rattle.zone_model.specs.declared.reply.Reply.{Reply}
use Rattle.session_file.specs.Results.{part_of}
use Rattle.zns_program.proofs.checking.reply_len.Goals as goal

entries_size : (es : List Cqe) → length (flat_map entry_bytes es) ≡ 16 * length es
entries_size [] = refl
entries_size (e ∷ es) = let rest : length (flat_map entry_bytes es) ≡ 16 * length es = entries_size es in omega (arith, rest)

reply_size : (r : Reply) → length (part_of r) ≡ 6 + 16 * length r.entries.items + length r.read
reply_size r =
    let two = little_bytes 2 (length r.entries.items) in
    let entries = flat_map entry_bytes r.entries.items in
    let four = little_bytes 4 (length r.read) in
    omega (arith, length-append (two ++ entries ++ four) r.read, length-append (two ++ entries) four, length-append two entries, entries_size r.entries.items)

pub returns : goal.returns
returns c = omega (arith, reply_size c.args.reply.now, c.len.ensures.value, ap length c.as_slice.ensures)
