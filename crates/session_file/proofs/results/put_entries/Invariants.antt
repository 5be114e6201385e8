use Rattle.std.proofs.Common.{◌≡◌, ◌++◌, take}
use Rattle.std.specs.List.{flat_map}
use Rattle.cqe_codec.specs.Entries.{entry_bytes}
use Rattle.session_file.proofs.results.put_entries.Given as goal

abbrev pub invariant-loop-entry : goal.invariant-loop-entry
invariant-loop-entry l = l.file.items ≡ l.initial.file.items ++ flat_map entry_bytes (take l.entry-index l.entries)
