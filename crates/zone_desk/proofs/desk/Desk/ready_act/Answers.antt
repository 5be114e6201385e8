use Rattle.std.proofs.Common.{◌≡◌, List, ℕ, length, arith, ap, sym, ◌∙◌, subst}
use Rattle.sqe_codec.specs.Commands.{transfer_len}
use Rattle.zone_cell.specs.Cells.{Cell}
use Rattle.zone_model.specs.Places.{command_of}
use Rattle.solo_drive.specs.Drives.{act_of}
use Rattle.solo_drive.specs.Parts.{AreLent}
use Rattle.solo_drive.specs.Ahead.{HaveHistory, Readies}
use Rattle.zone_desk.specs.Sights.{in_order, zones_held}
use Rattle.zone_desk.specs.Plays.{Mine}
use Rattle.zone_desk.specs.Passes.{DeskId, Pass, with_open}
use Rattle.zone_desk.proofs.Carried.{plain_cells}
use Rattle.zone_desk.proofs.Moved.{been-in_order, bears-after, readied}
use Rattle.zone_desk.proofs.desk.Desk.ready_act.Goals as goal

pub move_on-moved-requires-clause-stand : goal.move_on-moved-requires-clause-stand
move_on-moved-requires-clause-stand c =
    let i = c.pass.invariant in
    let me : Mine = c.pass.inside.seat.me in
    let desk = ap (λ (p : Pass). p.desk) c.pass.view_is ∙ (c.requires.desk ∙ sym c.self.view_is) in
    let plain : c.pass.inside.cells.items ≡ in_order me.0.cells = plain_cells me.0.geometry me.0.queue c.pass.inside.open me.0.cells c.pass.inside.cells.items (ap (λ (p : Pass). p.opened) c.pass.view_is ∙ c.requires.none_open) i.carries.cells_are in
    subst (λ (d : DeskId). HaveHistory d.geometry c.pass.inside.cells.items) desk (subst (λ (l : List Cell). HaveHistory me.0.geometry l) (sym plain) (been-in_order me.0.geometry me.0.cells i.carries.been))

pub invariant_of-pass : goal.invariant_of-pass
invariant_of-pass c =
    let i = c.pass.invariant in
    let me : Mine = c.pass.inside.seat.me in
    let sqe = c.args.sqe in
    let payload : List ℕ = c.args.payload.now in
    let cells : List Cell = c.pass.inside.cells.items in
    let new : List Cell = c.move_on-moved.new.cells.items in
    let desk = ap (λ (p : Pass). p.desk) c.pass.view_is ∙ (c.requires.desk ∙ sym c.self.view_is) in
    let plain : cells ≡ in_order me.0.cells = plain_cells me.0.geometry me.0.queue c.pass.inside.open me.0.cells cells (ap (λ (p : Pass). p.opened) c.pass.view_is ∙ c.requires.none_open) i.carries.cells_are in
    let len : length payload ≡ transfer_len me.0.geometry (command_of (act_of me.0.queue sqe payload)) =
    subst (λ (p : Pass). length payload ≡ transfer_len p.desk.geometry (command_of (act_of p.sight.queue sqe payload))) (sym c.pass.view_is)
    (subst (λ (d : DeskId). length payload ≡ transfer_len d.geometry (command_of (act_of c.args.pass.now.sight.queue sqe payload))) (sym c.requires.desk) c.requires.lengths.payload) in
    let lent : AreLent me.0.geometry (act_of me.0.queue sqe payload) (zones_held me.0) =
    subst (λ (p : Pass). AreLent p.desk.geometry (act_of p.sight.queue sqe payload) (zones_held p.sight)) (sym c.pass.view_is)
    (subst (λ (d : DeskId). AreLent d.geometry (act_of c.args.pass.now.sight.queue sqe payload) (zones_held c.args.pass.now.sight)) (sym c.requires.desk) c.requires.zones) in
    let moved : Readies me.0.geometry (act_of me.0.queue sqe payload) cells new c.args.out.now c.move_on-moved.new.out c.move_on-moved.result =
    subst (λ (n : ℕ). Readies me.0.geometry (act_of n sqe payload) cells new c.args.out.now c.move_on-moved.new.out c.move_on-moved.result) i.queue
    (subst (λ (d : DeskId). Readies d.geometry (act_of c.pass.inside.queue sqe payload) cells new c.args.out.now c.move_on-moved.new.out c.move_on-moved.result) (sym desk) c.move_on-moved.ensures.moved) in
    record {
      queue = i.queue;
      served = i.served;
      spare = i.spare;
      small = i.small;
      kind = i.kind;
      carries = record {
        book_is = i.carries.book_is;
        cells_are = bears-after me.0.geometry me.0.queue sqe payload me.0.cells cells new c.args.out.now c.move_on-moved.new.out c.move_on-moved.result c.of.result len lent plain moved c.of.ensures;
        been = i.carries.been;
        empty = i.carries.empty;
        rising = i.carries.rising;
        within = i.carries.within;
      };
      fits = omega (arith, i.fits, c.move_on-moved.ensures.room);
      within = i.within;
    }

pub returns : goal.returns
returns c =
    let i = c.pass.invariant in
    let me : Mine = c.pass.inside.seat.me in
    let sqe = c.args.sqe in
    let payload : List ℕ = c.args.payload.now in
    let cells : List Cell = c.pass.inside.cells.items in
    let new : List Cell = c.move_on-moved.new.cells.items in
    let desk = ap (λ (p : Pass). p.desk) c.pass.view_is ∙ (c.requires.desk ∙ sym c.self.view_is) in
    let plain : cells ≡ in_order me.0.cells = plain_cells me.0.geometry me.0.queue c.pass.inside.open me.0.cells cells (ap (λ (p : Pass). p.opened) c.pass.view_is ∙ c.requires.none_open) i.carries.cells_are in
    let moved : Readies me.0.geometry (act_of me.0.queue sqe payload) (in_order me.0.cells) new c.args.out.now c.move_on-moved.new.out c.move_on-moved.result =
    subst (λ (l : List Cell). Readies me.0.geometry (act_of me.0.queue sqe payload) l new c.args.out.now c.move_on-moved.new.out c.move_on-moved.result) plain
    (subst (λ (n : ℕ). Readies me.0.geometry (act_of n sqe payload) cells new c.args.out.now c.move_on-moved.new.out c.move_on-moved.result) i.queue
    (subst (λ (d : DeskId). Readies d.geometry (act_of c.pass.inside.queue sqe payload) cells new c.args.out.now c.move_on-moved.new.out c.move_on-moved.result) (sym desk) c.move_on-moved.ensures.moved)) in
    readied c.args.pass.now _ sqe payload new c.args.out.now c.move_on-moved.new.out c.move_on-moved.result c.of.result c.requires.none_open
    (ap (λ (p : Pass). with_open p c.of.result) c.pass.view_is) c.of.ensures
    (subst (λ (p : Pass). Readies p.desk.geometry (act_of p.sight.queue sqe payload) (in_order p.sight.cells) new c.args.out.now c.move_on-moved.new.out c.move_on-moved.result) c.pass.view_is moved)
