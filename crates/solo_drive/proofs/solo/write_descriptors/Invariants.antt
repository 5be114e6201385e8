use Rattle.std.proofs.Common.{◌≡◌, ◌*◌, ◌++◌, drop}
use Rattle.std.specs.List.{flat_map, range_with_len}
use Rattle.solo_drive.specs.Reading.{descriptor_in}
use Rattle.solo_drive.proofs.solo.write_descriptors.Given as goal

abbrev pub invariant-loop-zone : goal.invariant-loop-zone
invariant-loop-zone l = l.out ≡ flat_map (descriptor_in l.g.fields l.cells) (range_with_len 0 l.zone) ++ drop (l.zone * 64) l.initial.out
