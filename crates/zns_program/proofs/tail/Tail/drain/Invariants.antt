use Rattle.std.proofs.Common.{◌+◌, ◌-◌, ◌^◌, ◌<◌, ◌≤◌, length}
use Rattle.std.specs.Io.KnownBytes.{IsAtEnd}
use Rattle.zns_program.specs.Tails.{StaysIn}
use Rattle.zns_program.proofs.tail.Tail.drain.Given as goal

abbrev pub invariant-loop-alloc : goal.invariant-loop-alloc
invariant-loop-alloc g l = record {
  stays : StaysIn (g.S.Source.left l.fn.source) (g.S.Source.left l.source) l.fn.self l.self;
  few : l.self.at + length l.self.held ≤ 2 ^ 29 + 1;
  end : length l.self.held < 1 → IsAtEnd (g.S.Source.left l.source);
  short : length l.self.held < 1 → l.self.at + length l.self.held ≤ 2 ^ 29;
  faults : g.S.Source.faults l.fn.source ≤ g.S.Source.faults l.source;
}

abbrev pub decreases-loop-alloc : goal.decreases-loop-alloc
decreases-loop-alloc g l = 2 ^ 29 + 1 - l.self.at
