-- A drive's numbers break no rule on drives.
use Rattle.std.proofs.Common.{◌≡◌, ◌++◌, None, ◌∙◌, arith}
use Rattle.std.proofs.lemmas.Bool.Decides.{nat_tests}
use Rattle.zns_types.specs.declared.fields.GeometryFields.{GeometryFields}
use Rattle.zns_types.specs.Geometry.{IsGeometry, HasUnits, HasZones, HasWindows, HasQueues}
use Rattle.zns_types.specs.Rules.{rules, unit_rules, zone_rules, window_rules, queue_rules}
use Rattle.zns_types.specs.Rows.{first_holding}
use Rattle.zns_types.proofs.RowLemmas.{first_holding-append_none, none_answers}

units_unbroken : (g : GeometryFields) → HasUnits g → first_holding (unit_rules g) ≡ None
units_unbroken g h = none_answers (unit_rules g) (grind (arith, nat_tests), (grind (arith, nat_tests), (grind (arith, nat_tests), (grind (arith, nat_tests), tt))))

zones_unbroken : (g : GeometryFields) → HasZones g → first_holding (zone_rules g) ≡ None
zones_unbroken g h = none_answers (zone_rules g) (grind (arith, nat_tests), (grind (arith, nat_tests), (grind (arith, nat_tests), (grind (arith, nat_tests), (grind (arith, nat_tests), tt)))))

windows_unbroken : (g : GeometryFields) → HasWindows g → first_holding (window_rules g) ≡ None
windows_unbroken g h = none_answers (window_rules g) (grind (arith, nat_tests), (grind (arith, nat_tests), (grind (arith, nat_tests), tt)))

queues_unbroken : (g : GeometryFields) → HasQueues g → first_holding (queue_rules g) ≡ None
queues_unbroken g h = none_answers (queue_rules g) (grind (arith, nat_tests), (grind (arith, nat_tests), (grind (arith, nat_tests), (grind (arith, nat_tests), tt))))

pub unbroken : (g : GeometryFields) → IsGeometry g → first_holding (rules g) ≡ None
unbroken g h =
    first_holding-append_none (unit_rules g) (zone_rules g ++ (window_rules g ++ queue_rules g)) (units_unbroken g h.units)
    ∙ first_holding-append_none (zone_rules g) (window_rules g ++ queue_rules g) (zones_unbroken g h.zones)
    ∙ first_holding-append_none (window_rules g) (queue_rules g) (windows_unbroken g h.windows)
    ∙ queues_unbroken g h.queues
