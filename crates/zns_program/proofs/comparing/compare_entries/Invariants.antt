use Rattle.std.proofs.Common.{take}
use Rattle.std.specs.List.{flat_map}
use Rattle.cqe_codec.specs.Entries.{entry_bytes}
use Rattle.zns_program.specs.Differences.{StandAt}
use Rattle.zns_program.proofs.comparing.compare_entries.Given as goal

abbrev pub invariant-loop-entry : goal.invariant-loop-entry
invariant-loop-entry l = StandAt l.input l.fn.at (flat_map entry_bytes (take l.entry-index l.entries)) l.at
