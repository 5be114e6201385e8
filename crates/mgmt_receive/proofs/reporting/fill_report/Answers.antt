use Rattle.std.proofs.Common.{◌≡◌, ◌-◌, ◌≤◌, ℕ, length, take, drop, arith, refl, ◌∙◌, ap, cond}
use borrow.Rule.Slice.PartMut.{put_mid}
use Rattle.std.proofs.lemmas.List.{length-take-le, length-drop}
use Rattle.mgmt_receive.specs.Receiving.{count_wanted, Begun}
use Rattle.mgmt_receive.proofs.Given.{matching_count}
use Rattle.mgmt_receive.proofs.Built.{head_of, built, kept_len}
use Rattle.mgmt_receive.proofs.reporting.fill_report.Goals as goal
use Rattle.mgmt_receive.proofs.reporting.fill_report.Goals.{then-partial, else-partial}

pub count_all-number-requires-clause-given : goal.count_all-number-requires-clause-given
count_all-number-requires-clause-given c =
    let seen = c.give_all-gave.ensures.seen_cells in
    seen.count ∙ matching_count c.args.g.now.fields c.wanted_state-wanted.result (take c.give_all-gave.result.seen c.args.cells.now)

pub returns : goal.returns
returns c =
    let g = c.args.g.now.fields in
    let out = c.args.out.now in
    let wanted = c.wanted_state-wanted.result in
    let gave = c.give_all-gave.result in
    let h = c.min-head.result in
    let n : c.if-partial.number ≡ cond c.args.partial gave.given (count_wanted wanted c.args.cells.now) = elim c.if-partial.branch [
      | then-partial w ↦ rw w.if-partial.true w.number-is
      | else-partial w ↦ rw w.if-partial.false (w.number-is ∙ w.count_all-number.ensures)
    ] in
    let low : h ≤ length out = omega (arith, c.min-head.ensures) in
    let room : length (take (length out - h) (drop h out)) ≡ length out - h = length-take-le (length out - h) (drop h out) (omega (arith, length-drop h out)) in
    let was : Begun g wanted c.args.cells.now (length out - h) gave c.give_all-gave.new.out = rw room at c.give_all-gave.ensures in
    let front : c.write_head.new.out ≡ take (length (take h (put_mid h (length out - h) out c.give_all-gave.new.out))) (head_of c.if-partial.number) = c.write_head.ensures in
    let at : length (take h (put_mid h (length out - h) out c.give_all-gave.new.out)) ≡ h = kept_len h (length out - h) out c.give_all-gave.new.out low in
    built g c.args.filter wanted c.args.partial c.args.cells.now (length out) h c.if-partial.number gave out c.write_head.new.out c.give_all-gave.new.out c.wanted_state-wanted.ensures refl c.min-head.ensures
    (front ∙ ap (λ (k : ℕ). take k (head_of c.if-partial.number)) at) was n
