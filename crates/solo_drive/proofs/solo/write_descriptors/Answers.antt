use Rattle.std.proofs.Common.{◌≡◌, ◌+◌, ◌<◌, length, refl, ap, ◌∙◌, arith}
use Rattle.zone_cell.specs.Cells.{descriptor_of}
use Rattle.zone_cell.proofs.Pieces.{filled_more}
use Rattle.zone_descriptor.specs.Descriptors.{descriptor_bytes}
use Rattle.zone_room.specs.Rooms.{cell_in}
use Rattle.solo_drive.specs.Reading.{descriptor_in}
use Rattle.solo_drive.proofs.LentReads.{cell-there}
use Rattle.solo_drive.proofs.solo.write_descriptors.Goals as goal

pub loop-zone-preserved : goal.loop-zone-preserved
loop-zone-preserved c =
    let g = c.args.g.now.fields in
    let cells = c.args.cells.now in
    let z = c.loop-zone.zone in
    let lt : z < length cells = omega (arith, c.requires.all) in
    let there : c.index-cells-zone.result ≡ cell_in cells (0 + z) = cell-there cells z c.index-cells-zone.result lt c.index-cells-zone.is ∙ ap (cell_in cells) (omega arith) in
    let shown = c.copy_from_slice.ensures.after ∙ c.write.ensures.bytes ∙ ap descriptor_bytes (c.descriptor-descriptor.ensures ∙ ap (descriptor_of g) there) in
    filled_more (descriptor_in g cells) 0 z 64 _ c.loop-zone.out c.args.out.now c.copy_from_slice.new.self c.loop-zone.auto.out (omega (arith, c.requires.room)) refl c.loop-zone.invariant shown
