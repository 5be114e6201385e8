use Rattle.std.proofs.Common.{◌≡◌, true, false, ℕ, sym, ap, ◌∙◌, arith}
use Rattle.zns_types.specs.States.{is_offline}
use Rattle.zone_cell.specs.Cells.{Cell}
use Rattle.zone_room.specs.Rooms.{cell_in}
use Rattle.solo_drive.proofs.LentReads.{cell-there}
use Rattle.solo_drive.proofs.Ranges.{any-found, any-none}
use Rattle.solo_drive.proofs.reads.any_offline.Goals as goal

pub returns-then-is_offline : goal.returns-then-is_offline
returns-then-is_offline c =
    let cells = c.args.cells.now in
    let place = c.loop-place.place in
    let there = cell-there cells place c.index-cells-place.result (omega arith) c.index-cells-place.is in
    let here : is_offline (cell_in cells place).state ≡ true = ap (λ (x : Cell). is_offline x.state) (sym there) ∙ ap is_offline (sym c.state.ensures) ∙ sym c.is_offline.ensures ∙ c.if-is_offline.true in
    sym (any-found (λ (i : ℕ). is_offline (cell_in cells i).state) c.args.from c.args.count place (omega arith) (omega arith) here)

pub loop-place-preserved : goal.loop-place-preserved
loop-place-preserved c =
    let cells = c.args.cells.now in
    let place = c.loop-place.place in
    let there = cell-there cells place c.index-cells-place.result (omega arith) c.index-cells-place.is in
    let here : is_offline (cell_in cells place).state ≡ false = ap (λ (x : Cell). is_offline x.state) (sym there) ∙ ap is_offline (sym c.state.ensures) ∙ sym c.is_offline.ensures ∙ c.if-is_offline.false in
    any-none (λ (i : ℕ). is_offline (cell_in cells i).state) c.args.from place (omega arith) c.loop-place.invariant here
