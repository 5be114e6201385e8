use Rattle.std.proofs.Common.{sym, arith}
use Rattle.zone_model.specs.Zones.{pointer}
use Rattle.solo_drive.specs.Drives.{history}
use Rattle.zns_program.proofs.Counted.{zone-more, pointers-more}
use Rattle.zns_program.proofs.summing.pointers_of.Goals as goal

pub overflow_add-sum : goal.overflow_add-sum
overflow_add-sum c =
    let drive = c.args.drive.now in
    omega (arith, (zone-more drive.geometry c.geometry.result.now.fields drive.acts c.loop-zone.zone c.loop-zone.sum c.pointer-sum.result c.geometry.ensures c.geometry.result.now.valid (rw c.fields.ensures at c.loop-zone-test.true) c.loop-zone.invariant.small c.pointer-sum.ensures).1)

pub loop-zone-preserved : goal.loop-zone-preserved
loop-zone-preserved c =
    let drive = c.args.drive.now in
    record {
      sum = rw (c.loop-zone.invariant.sum, c.pointer-sum.ensures) (sym (pointers-more (pointer drive.geometry (history drive)) c.loop-zone.zone));
      small = (zone-more drive.geometry c.geometry.result.now.fields drive.acts c.loop-zone.zone c.loop-zone.sum c.pointer-sum.result c.geometry.ensures c.geometry.result.now.valid (rw c.fields.ensures at c.loop-zone-test.true) c.loop-zone.invariant.small c.pointer-sum.ensures).0;
    }
