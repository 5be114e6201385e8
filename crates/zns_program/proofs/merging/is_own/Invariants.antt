use Rattle.std.proofs.Common.{◌≡◌, take}
use Rattle.zone_model.specs.Sessions.{own_order}
use Rattle.zns_program.proofs.merging.is_own.Given as goal

abbrev pub invariant-loop-number : goal.invariant-loop-number
invariant-loop-number l = take l.number l.order ≡ own_order (take l.number l.acts)
