use Rattle.std.proofs.Common.{◌≡◌, ◌++◌, take}
use Rattle.std.specs.List.{flat_map}
use Rattle.byteorder.specs.Endian.{little_bytes}
use Rattle.zone_model.specs.Sessions.{own_order}
use Rattle.session_file.proofs.results.put_own_queues.Given as goal

abbrev pub invariant-loop-number : goal.invariant-loop-number
invariant-loop-number l = l.file.items ≡ l.initial.file.items ++ flat_map (little_bytes 2) (own_order (take l.number l.acts.acts))
