use Rattle.std.proofs.Common.{refl, arith}
use Rattle.zone_cell.proofs.Views.{bytes_fit, holds_more}
use Rattle.zone_cell.proofs.cell.ZoneCell.bytes.Goals as goal

pub split_at_mut-laid-requires : goal.split_at_mut-laid-requires
split_at_mut-laid-requires c = omega (arith, bytes_fit c.args.g.now.fields c.self.inside c.args.self.now c.self.view_is c.self.invariant c.requires.of)

pub returns : goal.returns
returns c = holds_more c.self.inside c.args.self.now c.fill.new.self _ c.self.view_is c.self.invariant (rw (c.copy_from_slice.ensures.after, c.deref.ensures.value) refl)
