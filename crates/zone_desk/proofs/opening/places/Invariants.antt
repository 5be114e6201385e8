use Rattle.std.proofs.Common.{◌≡◌, ◌∷◌, ◌++◌, map}
use Rattle.zone_desk.specs.declared.slot.Slot.TheVariants.{Ledger, Zone}
use Rattle.zone_desk.proofs.opening.places.Given as goal

abbrev pub invariant-loop-cell : goal.invariant-loop-cell
invariant-loop-cell l = record {
  places : l.places.items ≡ Ledger l.fn.book ∷ map (λ c. Zone c) l.yielded;
  items : l.yielded ++ l.cell-iterator.rest.items ≡ l.fn.cells.items;
}
