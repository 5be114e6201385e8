use Rattle.std.proofs.Common.{◌≤◌, ◌+◌, ◌-◌, vec_len}
use Rattle.std.specs.Io.KnownBytes.{Consumes}
use Rattle.zns_io.specs.Reading.{GaveInTurn}
use Rattle.zns_io.proofs.reading.read_all.Given as goal

abbrev pub invariant-loop-piece : goal.invariant-loop-piece
invariant-loop-piece g l = record {
  told : Consumes (g.S.Source.left l.initial.source) (g.S.Source.left l.source) l.all.items;
  turns : GaveInTurn g.S.Source.step l.initial.source l.all.items l.source;
  within : vec_len l.all ≤ l.limit + 1;
  faults : g.S.Source.faults l.initial.source ≤ g.S.Source.faults l.source;
}

abbrev pub decreases-loop-piece : goal.decreases-loop-piece
decreases-loop-piece g l = l.limit + 1 - vec_len l.all
