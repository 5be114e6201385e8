use Rattle.std.proofs.Common.{◌-◌, ◌≤◌, length}
use Rattle.session_file.specs.Streams.{GoesOn}
use Rattle.session_file.proofs.feed.Feed.fill.Given as goal

abbrev pub invariant-loop-alloc : goal.invariant-loop-alloc
invariant-loop-alloc g l = record {
  goes_on : GoesOn (g.S.Source.left l.fn.source) (g.S.Source.left l.source) l.fn.self l.self;
  most : length l.self ≤ l.most;
  faults : g.S.Source.faults l.fn.source ≤ g.S.Source.faults l.source;
}

abbrev pub decreases-loop-alloc : goal.decreases-loop-alloc
decreases-loop-alloc g l = l.most - length l.self
