use Rattle.std.proofs.Common.{◌≡◌, ◌+◌, ◌-◌, ◌++◌, All}
use Rattle.zns_program.specs.Generating.{made_acts, IsOneBlock}
use Rattle.zns_program.proofs.generating.made_acts.Given as goal

abbrev pub invariant-loop-number : goal.invariant-loop-number
invariant-loop-number l = record {
  acts : made_acts l.count 0 l.fn.number ≡ l.acts.acts ++ made_acts (l.count - l.number) l.number l.draws.state;
  one_block : All IsOneBlock l.acts.acts;
  room : l.acts.spare + l.number ≡ l.count;
}
