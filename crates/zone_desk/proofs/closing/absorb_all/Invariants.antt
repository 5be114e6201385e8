use Rattle.std.proofs.Common.{◌≡◌, ◌++◌}
use Rattle.zone_desk.specs.Passes.{absorbed}
use Rattle.zone_desk.specs.declared.sight.Kind.TheVariants.{Main}
use Rattle.zone_desk.proofs.closing.absorb_all.Given as goal

abbrev pub invariant-loop-pass : goal.invariant-loop-pass
invariant-loop-pass l = record {
  table : l.seat.table_id ≡ l.initial.seat.table_id;
  main : l.seat.me.0.kind ≡ Main;
  sight : l.seat.me.0 ≡ absorbed l.initial.seat.me.0 l.yielded;
  items : l.yielded ++ l.pass-iterator.rest.items ≡ l.fn.passes.items;
}
