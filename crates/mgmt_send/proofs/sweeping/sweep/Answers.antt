use Rattle.std.proofs.Common.{sym, ◌∙◌}
use Rattle.mgmt_send.proofs.Underway.{room_to_open}
use Rattle.mgmt_send.proofs.sweeping.sweep.Goals as goal

pub sweep_cells-requires-clause-room : goal.sweep_cells-requires-clause-room
sweep_cells-requires-clause-room c = room_to_open c.args.g.now.fields c.args.deed c.args.cells.now c.args.limits.now (sym c.check.ensures ∙ c.in_default.is) c.requires.zones.within
