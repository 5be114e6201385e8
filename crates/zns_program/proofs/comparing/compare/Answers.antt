use Rattle.std.proofs.Common.{◌≢◌, ◌<◌, length, get_or, arith}
use Rattle.zns_program.proofs.Comparisons.{nothing_stands, byte_stands, byte_differs, bytes_stand, begins_stand}
use Rattle.zns_program.proofs.comparing.compare.Goals.{then-at-input-via-then-at-input, then-at-input-via-else-at-input+then-input-at}
use Rattle.zns_program.proofs.comparing.compare.Goals as goal

pub loop-byte-init : goal.loop-byte-init
loop-byte-init c = nothing_stands c.args.input.now c.args.at c.requires

pub returns-then-at-input-clause-differs : goal.returns-then-at-input-clause-differs
returns-then-at-input-clause-differs c =
    let other : c.loop-byte.at < length c.args.input.now → get_or c.args.input.now c.loop-byte.at 0 ≢ get_or c.args.made.now c.loop-byte.byte-index 0 =
    elim c.then-at-input.branch [ then-at-input-via-then-at-input w ↦ λ h. absurd (omega (arith, h, w.if-at-input.true)) | then-at-input-via-else-at-input+then-input-at w ↦ λ h. w.if-input-at.true ] in
    byte_differs c.args.input.now c.args.made.now c.args.at c.loop-byte.at c.loop-byte.byte-index c.loop-byte-test.true other c.loop-byte.invariant

pub loop-byte-preserved : goal.loop-byte-preserved
loop-byte-preserved c = byte_stands c.args.input.now c.args.made.now c.args.at c.loop-byte.at c.loop-byte.byte-index c.if-at-input.false c.loop-byte-test.true c.if-input-at.false c.loop-byte.invariant

pub returns-clause-same : goal.returns-clause-same
returns-clause-same c = bytes_stand c.args.input.now c.args.made.now c.args.at c.loop-byte.at c.loop-byte.byte-index c.loop-byte-test.false c.loop-byte.invariant

pub returns-then-starts_with-clause-same : goal.returns-then-starts_with-clause-same
returns-then-starts_with-clause-same c = begins_stand c.args.input.now c.args.at c.args.made.now c.starts_with.result c.requires c.starts_with.ensures.value c.if-starts_with.true
