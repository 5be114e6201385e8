use Rattle.std.proofs.Common.{◌≡◌, ◌++◌, take}
use Rattle.std.specs.String.{string_bytes}
use Rattle.zns_program.specs.Showing.{act_lines}
use Rattle.zns_program.proofs.showing.put_acts.Given as goal

abbrev pub invariant-loop-number : goal.invariant-loop-number
invariant-loop-number l = string_bytes l.text ≡ string_bytes l.initial.text ++ act_lines 0 (take l.number l.acts.acts)
