-- The zones that a command may read or change, as a range.
use Rattle.std.specs.Prelude.{ℕ, List, []}
use Rattle.zns_types.specs.declared.fields.GeometryFields.{GeometryFields}
use Rattle.drive_rules.specs.Tables.{zones_between}
use Rattle.zone_model.specs.Zones.{zones}
use Rattle.solo_drive.specs.declared.reach.Reach.{Reach}
use Rattle.solo_drive.specs.declared.reach.Reach.TheVariants as reach

abbrev pub zones_of : GeometryFields → Reach → List ℕ
zones_of g reach.Nothing = []
zones_of g (reach.Range first last) = zones_between first last
zones_of g reach.All = zones g
