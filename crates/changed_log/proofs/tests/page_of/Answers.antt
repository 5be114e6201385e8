use Rattle.std.proofs.Common.{◌≡◌, ap, ◌∙◌}
use Rattle.zns_types.specs.declared.fields.GeometryFields.{GeometryFields}
use Rattle.changed_log.proofs.tests.page_of.Goals as goal

pub page-requires-clause-zones : goal.page-requires-clause-zones
page-requires-clause-zones c =
    let zones : c.in_ok-g.g.fields.zones ≡ 600 = ap (λ (f : GeometryFields). f.zones) c.in_ok-g.ensures.fields ∙ c.zones_of.ensures in
    rw zones c.requires.below
