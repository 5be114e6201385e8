use Rattle.std.proofs.Common.{◌≡◌, ◌<◌, ℕ, ◌+◌, [], ◌∷◌, ◌++◌, length, take, drop, ap, ◌∙◌, arith, length-append}
use Rattle.changed_log.specs.Logs.{marked_below, marked_zones, first_blocks}
use Rattle.changed_log.proofs.Marked.{marked-here, marked-elsewhere, marked-all, marked-fewer, marked-holds}
use Rattle.changed_log.proofs.FirstBlocks.{Listed, Listed-more}
use Rattle.changed_log.proofs.listing.list_firsts.Goals as goal
use Rattle.changed_log.proofs.listing.list_firsts.Goals.{then-marks-zone, else-marks-zone}

pub first-requires : goal.first-requires
first-requires c = marked-holds (λ z. z < c.args.g.now.fields.zones) c.args.marks.now c.loop-zone.zone (omega arith) c.if-marks-zone.true c.requires.zones

pub put_block-requires : goal.put_block-requires
put_block-requires c =
    let marks = c.args.marks.now in
    let zone = c.loop-zone.zone in
    let more = ap length (marked-here marks zone c.if-marks-zone.true) in
    let fewer = marked-fewer marks (zone + 1) (omega arith) in
    omega (arith, length-append (marked_below marks zone) (zone ∷ []))

pub loop-zone-preserved : goal.loop-zone-preserved
loop-zone-preserved c =
    let marks = c.args.marks.now in
    let zone = c.loop-zone.zone in
    elim c.if-marks-zone.branch [
      | then-marks-zone w ↦
          rw (w.out-is, w.at-is, w.put_block.ensures, w.first.ensures, marked-here marks zone w.if-marks-zone.true)
          (Listed-more c.args.g.now.fields (marked_below marks zone) c.args.out.now c.loop-zone.out c.loop-zone.at zone c.loop-zone.invariant (omega arith))
      | else-marks-zone w ↦ rw (w.out-is, w.at-is, marked-elsewhere marks zone w.if-marks-zone.false) c.loop-zone.invariant
    ]

pub returns : goal.returns
returns c =
    let g = c.args.g.now.fields in
    let marks = c.args.marks.now in
    let old = c.args.out.now in
    let last : c.loop-zone.zone ≡ length marks = omega arith in
    let all : marked_below marks c.loop-zone.zone ≡ marked_zones marks = ap (λ (n : ℕ). marked_below marks n) last ∙ marked-all marks in
    let done : Listed g (marked_zones marks) old c.loop-zone.out c.loop-zone.at = rw (← all) c.loop-zone.invariant in
    done.bytes ∙ ap (λ (n : ℕ). take 8 old ++ (first_blocks g (marked_zones marks) ++ drop n old)) done.place
