use Rattle.std.proofs.Common.{◌≡◌, false, None, refl, sym, ◌∙◌}
use Rattle.std.specs.Prelude.{◌&&◌, not, is_some}
use Rattle.std.proofs.lemmas.Bool.{and_left, and_right}
use Rattle.std.proofs.lemmas.List.Elements.{All-set}
use Rattle.zns_types.specs.Rows.{first_holding}
use Rattle.zone_limits.specs.Resources.{need_rows}
use Rattle.zone_cell.specs.Cells.{IsOf}
use Rattle.zone_room.proofs.Verdicts.{refused_at, widens_at, ready, wanting_at, done_at, target, cells_done, counts_done}
use Rattle.zone_room.proofs.serving.serve_deed.Goals as goal
use Rattle.zone_room.proofs.serving.serve_deed.Goals.{else-wants-via-then-wants+else-not-all, else-wants-via-else-wants}

pub returns-in-Err : goal.returns-in-Err
returns-in-Err c =
    let v = refused_at c.args.g.now.fields c.args.cells.now c.args.limits.now c.args.place c.args.all c.args.deed c.index-cells-place.result c.in-Err.code c.requires.place (sym c.check.ensures ∙ c.in-Err.is) in
    record { verdict = sym v; cells = rw v refl; counts = rw v refl; of = c.requires.of }

pub returns-then-not-all : goal.returns-then-not-all
returns-then-not-all c =
    let v = widens_at c.args.g.now.fields c.args.cells.now c.args.limits.now c.args.place c.args.all c.args.deed c.in-Ok.needed c.wants_room-wants.result c.index-cells-place.result c.requires.place (sym c.check.ensures ∙ c.in-Ok.is) c.wants_room-wants.ensures
    c.if-wants.true c.if-not-all.true in
    record { verdict = sym v; cells = rw v refl; counts = rw v refl; of = c.requires.of }

pub returns-in-Err-need : goal.returns-in-Err-need
returns-in-Err-need c =
    let narrow : (c.wants_room-wants.result && not c.args.all) ≡ false =
    elim c.else-wants.branch [ else-wants-via-then-wants+else-not-all w ↦ and_right c.wants_room-wants.result (not c.args.all) (rw w.if-not-all.false refl) | else-wants-via-else-wants w ↦ and_left c.wants_room-wants.result (not c.args.all) w.if-wants.false ] in
    let r = ready c.args.g.now.fields c.args.cells.now c.args.limits.now c.args.place c.args.all c.args.deed c.in-Ok.needed c.wants_room-wants.result c.victim-victim.result c.index-cells-place.result c.requires.place (sym c.check.ensures ∙ c.in-Ok.is) c.wants_room-wants.ensures narrow
    c.victim-victim.ensures.first in
    let v = wanting_at c.args.g.now.fields c.args.cells.now c.args.limits.now c.args.place c.args.all c.args.deed c.in-Ok.needed c.victim-victim.result c.in-Err-need.code r (rw c.is_some.ensures at c.in-Err-need.ensures.refused) in
    record { verdict = sym v; cells = rw v refl; counts = rw v refl; of = c.requires.of }

pub change-requires : goal.change-requires
change-requires c =
    let narrow : (c.wants_room-wants.result && not c.args.all) ≡ false =
    elim c.else-wants.branch [ else-wants-via-then-wants+else-not-all w ↦ and_right c.wants_room-wants.result (not c.args.all) (rw w.if-not-all.false refl) | else-wants-via-else-wants w ↦ and_left c.wants_room-wants.result (not c.args.all) w.if-wants.false ] in
    let r = ready c.args.g.now.fields c.args.cells.now c.args.limits.now c.args.place c.args.all c.args.deed c.in-Ok.needed c.wants_room-wants.result c.victim-victim.result c.index-cells-place.result c.requires.place (sym c.check.ensures ∙ c.in-Ok.is) c.wants_room-wants.ensures narrow
    c.victim-victim.ensures.first in
    let none : first_holding (need_rows c.args.g.now.fields c.args.limits.now c.in-Ok.needed (is_some c.victim-victim.result)) ≡ None = rw c.is_some.ensures at (c.in_default.ensures.granted.0 refl) in
    let t = target c.args.g.now.fields c.args.cells.now c.close_at.new.cells c.args.limits.now c.close_at.new.limits c.args.place c.args.all c.args.deed c.in-Ok.needed c.victim-victim.result c.index-cells-place-2.result r c.requires.counted c.requires.place none
    c.close_at.ensures.cells c.close_at.ensures.limits c.close_at.ensures.of in
    record { of = t.of; admitted = t.admitted; blocks = c.requires.blocks; counted = t.counted; needed = t.needed }

pub returns : goal.returns
returns c =
    let narrow : (c.wants_room-wants.result && not c.args.all) ≡ false =
    elim c.else-wants.branch [ else-wants-via-then-wants+else-not-all w ↦ and_right c.wants_room-wants.result (not c.args.all) (rw w.if-not-all.false refl) | else-wants-via-else-wants w ↦ and_left c.wants_room-wants.result (not c.args.all) w.if-wants.false ] in
    let r = ready c.args.g.now.fields c.args.cells.now c.args.limits.now c.args.place c.args.all c.args.deed c.in-Ok.needed c.wants_room-wants.result c.victim-victim.result c.index-cells-place.result c.requires.place (sym c.check.ensures ∙ c.in-Ok.is) c.wants_room-wants.ensures narrow
    c.victim-victim.ensures.first in
    let none : first_holding (need_rows c.args.g.now.fields c.args.limits.now c.in-Ok.needed (is_some c.victim-victim.result)) ≡ None = rw c.is_some.ensures at (c.in_default.ensures.granted.0 refl) in
    let t = target c.args.g.now.fields c.args.cells.now c.close_at.new.cells c.args.limits.now c.close_at.new.limits c.args.place c.args.all c.args.deed c.in-Ok.needed c.victim-victim.result c.index-cells-place-2.result r c.requires.counted c.requires.place none
    c.close_at.ensures.cells c.close_at.ensures.limits c.close_at.ensures.of in
    let v = done_at c.args.g.now.fields c.args.cells.now c.args.limits.now c.args.place c.args.all c.args.deed c.in-Ok.needed c.victim-victim.result r none in
    record {
      verdict = sym v;
      cells = cells_done c.args.g.now.fields c.args.cells.now c.close_at.new.cells c.args.limits.now c.args.place c.args.all c.args.deed c.args.payload.now c.in-Ok.needed c.victim-victim.result _ _ r v c.close_at.ensures.cells t.same c.change.ensures.cell;
      counts = c.change.ensures.limits ∙ counts_done c.args.g.now.fields c.args.cells.now c.args.limits.now c.close_at.new.limits c.args.place c.args.all c.args.deed c.args.payload.now c.in-Ok.needed c.victim-victim.result _ r v c.close_at.ensures.limits t.same;
      of = All-set (IsOf c.args.g.now.fields) c.close_at.new.cells c.args.place c.change.new.cell c.change.ensures.of c.close_at.ensures.of;
    }
