use Rattle.std.proofs.Common.{arith}
use Rattle.mgmt_send.proofs.Underway.{counted, more_swept}
use Rattle.mgmt_send.proofs.sweeping.sweep_cells.Goals as goal

pub sweep_one-requires-clause-counted : goal.sweep_one-requires-clause-counted
sweep_one-requires-clause-counted c = counted c.args.g.now.fields c.loop-i.cells c.loop-i.limits c.loop-i.i c.index-cells-i.result c.loop-i.invariant.zones (omega arith)

pub loop-i-preserved : goal.loop-i-preserved
loop-i-preserved c =
    more_swept c.args.g.now.fields c.args.deed c.args.cells.now c.loop-i.i c.loop-i.cells c.loop-i.limits c.sweep_one.new.limits c.index-cells-i.result c.sweep_one.new.cell (omega arith) (omega arith) c.requires.sent c.index-cells-i.is c.sweep_one.ensures.cell
    c.sweep_one.ensures.limits c.sweep_one.ensures.of c.loop-i.invariant
