use Rattle.std.proofs.Common.{ap, sym, ◌∙◌, arith}
use Rattle.zone_desk.specs.Passes.{DeskId, Pass}
use Rattle.zone_desk.proofs.Notes.{remembering}
use Rattle.zone_desk.proofs.desk.Desk.note.Goals as goal

pub split_seat-requires : goal.split_seat-requires
split_seat-requires c = (
  ap (λ (d : DeskId). d.table) (ap (λ (p : Pass). p.desk) c.pass.view_is ∙ (c.requires ∙ sym c.self.view_is)),
  omega (arith, c.self.invariant.words),
  remembering _ _ c.pass.inside.seat.me.0,
)
