use Rattle.std.proofs.Common.{◌≡◌, map}
use Rattle.std.specs.String.{string_bytes}
use Rattle.zns_program.proofs.environment.words_after_name.Given as goal

abbrev pub invariant-loop-arg : goal.invariant-loop-arg
invariant-loop-arg l = l.words.items ≡ map string_bytes l.yielded
