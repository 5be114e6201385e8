use Rattle.std.proofs.Common.{◌≤◌, length}
use Rattle.zns_io.proofs.WriteLemmas.{WrittenUpTo, OfferedUpTo}
use Rattle.zns_io.proofs.writing.write_all.Given as goal

abbrev pub invariant-loop-rest : goal.invariant-loop-rest
invariant-loop-rest g l = record {
  written : WrittenUpTo (g.K.Sink.taken l.initial.sink) (g.K.Sink.taken l.sink) l.bytes l.rest;
  offers : OfferedUpTo g.K.Sink.step l.initial.sink l.sink l.bytes l.rest;
  faults : g.K.Sink.faults l.initial.sink ≤ g.K.Sink.faults l.sink;
}

abbrev pub decreases-loop-rest : goal.decreases-loop-rest
decreases-loop-rest g l = length l.rest
