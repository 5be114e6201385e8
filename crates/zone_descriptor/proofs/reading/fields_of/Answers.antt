use Rattle.std.proofs.Common.{sym, arith}
use Rattle.std.proofs.lemmas.Grind.{common_steps}
use Rattle.zone_descriptor.proofs.DescriptorLemmas.{described-once}
use Rattle.zone_descriptor.proofs.reading.fields_of.Goals as goal

pub returns-clause-describes : goal.returns-clause-describes
returns-clause-describes c = record {
  type = c.requires.sequential;
  state = c.requires.state;
  attributes = grind (arith, common_steps);
  capacity = sym c.number_at.ensures;
  first = sym c.number_at-2.ensures;
  pointer = sym c.number_at-3.ensures;
}

pub returns-clause-only : goal.returns-clause-only
returns-clause-only c = λ d h e. described-once c.args.bytes.now _ d (returns-clause-describes c) h (sym e)
