use Rattle.std.proofs.Common.{rules, ◌≡◌, ◌<◌, Ok, Some, ap, subst, arith}
use Rattle.std.specs.Prelude.{slice_index}
use Rattle.zone_descriptor.specs.Descriptors.{Describes}
use Rattle.zone_descriptor.proofs.DescriptorLemmas.{describes-descriptor_bytes}
use Rattle.zone_descriptor.proofs.reading.read.Goals as goal

pub returns-clause-only : goal.returns-clause-only
returns-clause-only c = λ d h.
    let byte : slice_index c.args.bytes.now 1 < 256 = search rules in
    let same : Some c.in-Some.state ≡ Some d.state = c.in-Some.ensures.only d.state (omega (arith, h.state)) in
    let state : d.state ≡ c.in-Some.state = cc in
    ap Ok (c.fields_of.ensures.only d h state)

pub returns-clause-written : goal.returns-clause-written
returns-clause-written c = λ d f e.
    returns-clause-only c d (subst (λ bytes. Describes bytes d) e (describes-descriptor_bytes d f))
