use Rattle.std.proofs.Common.{◌≡◌, ◌∙◌, ap, arith}
use Rattle.zns_types.specs.declared.fields.GeometryFields.{GeometryFields}
use Rattle.host_library.proofs.Shown.{shown_by, unknown_by}
use Rattle.host_library.proofs.shadows.shadow_shown.Goals as goal

pub returns-in_default-clause-exact : goal.returns-in_default-clause-exact
returns-in_default-clause-exact c = unknown_by c.args.g.now.fields c.args.zone c.args.bytes.now c.in_default.field-0 c.in_default.ensures.refuses

pub returns-clause-exact : goal.returns-clause-exact
returns-clause-exact c =
    c.new.ensures.exact
    ∙ shown_by c.args.g.now.fields c.args.zone c.args.bytes.now c.in-Ok.descriptor c.of-stage.result c.has_window-window.result c.min.result c.in-Ok.ensures.describes c.of-stage.ensures c.has_window-window.ensures cc

pub returns-clause-plain : goal.returns-clause-plain
returns-clause-plain c =
    let capacity : c.fields.result.now.capacity ≡ c.args.g.now.fields.capacity = ap (λ (f : GeometryFields). f.capacity) c.fields.ensures in
    record { within = omega arith; hidden = c.new.ensures.hidden }
