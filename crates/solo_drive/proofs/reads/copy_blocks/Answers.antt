use Rattle.std.proofs.Common.{◌≡◌, ◌+◌, ◌-◌, ◌*◌, ◌<◌, ℕ, length, refl, sym, ap, ◌∙◌, arith}
use Rattle.std.proofs.lemmas.Nat.{mul-le}
use Rattle.zns_types.specs.Geometry.{zone_of}
use Rattle.zone_cell.specs.Cells.{bytes_at}
use Rattle.zone_cell.proofs.Pieces.{filled_more}
use Rattle.solo_drive.specs.Reading.{block_from}
use Rattle.solo_drive.proofs.LentReads.{block-there, place-within, of-there, length-part}
use Rattle.solo_drive.proofs.reads.copy_blocks.Goals as goal

pub get-requires-clause-kept : goal.get-requires-clause-kept
get-requires-clause-kept c =
    let g = c.args.g.now.fields in
    let cells = c.args.cells.now in
    let lba = c.args.slba + c.loop-i.i in
    let place = c.zone_of.result - c.args.first in
    let at : place ≡ zone_of g lba - c.args.first = ap (λ (z : ℕ). z - c.args.first) c.zone_of.ensures.exact in
    let below : place < length cells = omega (arith, at, place-within g c.args.first cells c.args.slba c.args.blocks lba c.args.g.now.valid c.requires.reach (omega arith) (omega arith)) in
    of-there g cells place c.index-cells-zone_of.result c.requires.of below c.index-cells-zone_of.is

pub get-requires-clause-room : goal.get-requires-clause-room
get-requires-clause-room c =
    let g = c.args.g.now.fields in
    let cells = c.args.cells.now in
    let lba = c.args.slba + c.loop-i.i in
    let len = c.block_len-len.result in
    let place = c.zone_of.result - c.args.first in
    let at : place ≡ zone_of g lba - c.args.first = ap (λ (z : ℕ). z - c.args.first) c.zone_of.ensures.exact in
    let below : place < length cells = omega (arith, at, place-within g c.args.first cells c.args.slba c.args.blocks lba c.args.g.now.valid c.requires.reach (omega arith) (omega arith)) in
    let of = of-there g cells place c.index-cells-zone_of.result c.requires.of below c.index-cells-zone_of.is in
    let room : length c.args.out.now ≡ c.args.blocks * len = c.requires.room ∙ ap (λ (n : ℕ). c.args.blocks * n) (sym c.block_len-len.ensures.exact) in
    let within = mul-le (c.loop-i.i + 1) len c.args.blocks len (omega arith) (omega arith) in
    length-part c.loop-i.out c.loop-i.i len (omega (arith, within, room, c.loop-i.auto.out)) ∙ omega (arith, c.block_len-len.ensures.exact, of.len)

pub loop-i-preserved : goal.loop-i-preserved
loop-i-preserved c =
    let g = c.args.g.now.fields in
    let first = c.args.first in
    let cells = c.args.cells.now in
    let len = c.block_len-len.result in
    let lba = c.args.slba + c.loop-i.i in
    let cell = c.index-cells-zone_of.result in
    let place = c.zone_of.result - first in
    let at : place ≡ zone_of g lba - first = ap (λ (z : ℕ). z - first) c.zone_of.ensures.exact in
    let below : place < length cells = omega (arith, at, place-within g first cells c.args.slba c.args.blocks lba c.args.g.now.valid c.requires.reach (omega arith) (omega arith)) in
    let room : length c.args.out.now ≡ c.args.blocks * len = c.requires.room ∙ ap (λ (n : ℕ). c.args.blocks * n) (sym c.block_len-len.ensures.exact) in
    let within = mul-le c.loop-i.i len c.args.blocks len (omega arith) (omega arith) in
    let read = c.get.ensures ∙ ap (λ (o : ℕ). bytes_at cell o 1) c.offset_of.ensures.exact ∙ block-there g first cells lba place cell below at c.index-cells-zone_of.is in
    filled_more (block_from g first cells) c.args.slba c.loop-i.i len _ c.loop-i.out c.args.out.now c.get.new.out c.loop-i.auto.out (omega (arith, within, room)) refl c.loop-i.invariant read
