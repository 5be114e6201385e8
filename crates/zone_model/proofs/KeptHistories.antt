-- All three laws at each place of a history.
use Rattle.std.proofs.Common.{List}
use Rattle.zns_types.specs.declared.fields.GeometryFields.{GeometryFields}
use Rattle.zns_types.specs.Geometry.{IsGeometry}
use Rattle.zone_model.specs.declared.act.Act.{Act}
use Rattle.zone_model.specs.Laws.{IsKept}
use Rattle.zone_model.proofs.Limits.{within_limits}
use Rattle.zone_model.proofs.ZoneLaws.{committed_stays, pointer_moves}

pub histories_are_kept : (g : GeometryFields) → IsGeometry g → (acts : List Act) → IsKept g acts
histories_are_kept g is acts = record {
  limits = λ before after e. within_limits g is before;
  pointers = λ before after a e. pointer_moves g is before a;
  blocks = λ before after a e. committed_stays g is before a;
}
