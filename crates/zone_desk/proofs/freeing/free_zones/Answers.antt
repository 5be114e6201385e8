use Rattle.std.proofs.Common.{◌≡◌, [], None, ap, ◌∙◌, subst}
use Rattle.zone_desk.specs.Sights.{with_cells}
use Rattle.zone_desk.specs.Passes.{emptied, AreWithin}
use Rattle.zone_desk.specs.declared.sight.Sight.{Sight}
use Rattle.zone_desk.proofs.Carried.{popped, nothing_left}
use Rattle.zone_desk.proofs.freeing.free_zones.Goals as goal

pub free_zone-requires-clause-word : goal.free_zone-requires-clause-word
free_zone-requires-clause-word c =
    let inv = c.loop-cell.invariant in
    let t = popped c.loop-cell.cells.items c.pop.new.self.items c.in-Some.cell c.loop-cell.seat.me.0.cells c.in-Some.ensures.items inv.items in
    (subst (AreWithin c.args.board.now.table_id.words) t.is inv.within).0

pub free_zone-requires-clause-cell : goal.free_zone-requires-clause-cell
free_zone-requires-clause-cell c =
    let inv = c.loop-cell.invariant in
    let t = popped c.loop-cell.cells.items c.pop.new.self.items c.in-Some.cell c.loop-cell.seat.me.0.cells c.in-Some.ensures.items inv.items in
    (t.before, t.is, inv.places ∙ ap (emptied None) t.is)

pub returns-clause-seat : goal.returns-clause-seat
returns-clause-seat c =
    let inv = c.loop-cell.invariant in
    let v : Sight = c.args.seat.now.me.0 in
    let e = nothing_left c.loop-cell.cells.len c.loop-cell.cells.items c.loop-cell.seat.me.0.cells c.loop-cell.cells.ok.0 c.in_default.ensures.variant.1 inv.items in
    let sight : c.loop-cell.seat.me.0 ≡ with_cells v [] = inv.sight ∙ ap (with_cells v) e in
    let places : c.loop-cell.seat.me.1 ≡ [] = inv.places ∙ ap (emptied None) e in
    λ i. (sight i, places i)
