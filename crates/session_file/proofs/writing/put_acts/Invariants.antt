use Rattle.std.proofs.Common.{◌≡◌, ◌++◌, take}
use Rattle.std.specs.List.{flat_map}
use Rattle.zone_model.specs.Sessions.{record_bytes}
use Rattle.session_file.proofs.writing.put_acts.Given as goal

abbrev pub invariant-loop-number : goal.invariant-loop-number
invariant-loop-number l = l.file.items ≡ l.initial.file.items ++ flat_map record_bytes (take l.number l.acts.acts)
