use Rattle.std.proofs.Common.{rules}
use Rattle.zone_descriptor.specs.Descriptors.{FitsDescriptor}
use Rattle.zone_descriptor.proofs.DescriptorLemmas.{describes-descriptor_bytes}
use Rattle.zone_descriptor.proofs.writing.write.Goals as goal

pub returns-clause-describes : goal.returns-clause-describes
returns-clause-describes c = λ h.
    let d = c.args.descriptor.now in
    let fits : FitsDescriptor d = record { attributes = h; capacity = search rules; first = search rules; pointer = search rules } in
    rw (c.fields.ensures, c.number.ensures) (describes-descriptor_bytes d fits)
