use Rattle.std.proofs.Common.{arith}
use Rattle.zone_cell.proofs.Views.{marks_of}
use Rattle.zone_cell.proofs.cell.ZoneCell.lead.Goals as goal

pub invariant_of-self : goal.invariant_of-self
invariant_of-self c = record {
  some_len = c.self.invariant.some_len;
  small_len = c.self.invariant.small_len;
  fits = c.self.invariant.fits;
  room = c.self.invariant.room;
  few_bytes = c.self.invariant.few_bytes;
  few_marks = c.self.invariant.few_marks;
  within = omega (arith, marks_of c.self.inside c.args.self.now c.self.view_is);
  lies = c.self.invariant.lies;
}
