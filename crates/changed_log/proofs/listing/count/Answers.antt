use Rattle.std.proofs.Common.{◌≡◌, ℕ, length, ap, ◌∙◌, arith, length-append}
use Rattle.changed_log.specs.Logs.{marked_below}
use Rattle.changed_log.proofs.Marked.{marked-here, marked-elsewhere, marked-all}
use Rattle.changed_log.proofs.listing.count.Goals as goal
use Rattle.changed_log.proofs.listing.count.Goals.{then-marks-zone, else-marks-zone}

pub loop-zone-preserved : goal.loop-zone-preserved
loop-zone-preserved c =
    let marks = c.args.marks.now in
    let zone = c.loop-zone.zone in
    elim c.if-marks-zone.branch [
      | then-marks-zone w ↦
          let more = marked-here marks zone w.if-marks-zone.true in
          (rw more (omega (arith, length-append {A = ℕ})), omega arith)
      | else-marks-zone w ↦ (rw (marked-elsewhere marks zone w.if-marks-zone.false) (omega arith), omega arith)
    ]

pub returns-clause-number : goal.returns-clause-number
returns-clause-number c =
    let all : c.loop-zone.zone ≡ length c.args.marks.now = omega arith in
    c.loop-zone.invariant.0 ∙ ap (λ (n : ℕ). length (marked_below c.args.marks.now n)) all ∙ ap length (marked-all c.args.marks.now)
