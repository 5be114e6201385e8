use Rattle.std.proofs.Common.{ℕ, suc, slice_index_or, ◌+◌, ◌<◌, ◌++◌, ◌∷◌, [], List, true, false, ap, sym, ◌∙◌, subst, arith}
use Rattle.std.specs.List.{range_with_len}
use Rattle.std.specs.Slots.{slots_items, slots_filled}
use mathlib.Core.Option.{some}
use lib.ListN.{get_elem?}
use Rattle.zone_cell.specs.Cells.{Cell}
use Rattle.zone_desk.specs.Parts.{zones_at}
use Rattle.zone_desk.specs.Passes.{HaveCells}
use Rattle.zone_desk.specs.declared.slot.Slot.{Slot}
use Rattle.zone_desk.proofs.Shelves.{set_on, off_more, got_cell, got_this, row_more}
use Rattle.zone_desk.proofs.closing.take_cells.Goals as goal

pub unreachable-requires : goal.unreachable-requires
unreachable-requires c =
    let inv = c.loop-zone.invariant in
    let t = got_cell (slots_items c.loop-zone.row.slots) c.args.zones c.loop-zone.zone c.take.result (subst (λ (l : List Slot). HaveCells l c.args.zones) (sym inv.items) c.requires.cells) c.loop-zone-test.true c.take.ensures.value in
    c.in_default.not-Zone t.0 t.1

pub loop-zone-preserved : goal.loop-zone-preserved
loop-zone-preserved c =
    let inv = c.loop-zone.invariant in
    let z : ℕ = c.loop-zone.zone in
    let others = c.take.ensures.others in
    let p = c.push_reserved.ensures in
    let near : z < c.args.zones = c.loop-zone-test.true in
    record {
      items = others.0 ∙ inv.items;
      count = others.2 ∙ inv.count;
      gone = λ k h. ap (λ fs. slice_index_or fs (suc k) false) others.1 ∙ off_more (slots_filled c.loop-zone.row.slots) z k inv.gone h;
      left = λ k low high. ap (λ fs. slice_index_or fs (suc k) false) others.1 ∙ set_on (slots_filled c.loop-zone.row.slots) (z + 1) (suc k) true (λ e. omega arith) (inv.left k (omega arith) high);
      first = ap (λ fs. slice_index_or fs 0 false) others.1 ∙ (set_on (slots_filled c.loop-zone.row.slots) (z + 1) 0 _ (λ e. omega arith) inv.first);
      room = omega (arith, p.capacity, inv.room);
      taken = omega (arith, p.len, inv.taken);
      cells = λ g log all. let is = got_this g log (slots_items c.args.row.now.slots) c.args.zones z c.in-Zone.cell all near (ap (λ (l : List Slot). get_elem? l (z + 1)) (sym inv.items) ∙ (c.take.ensures.value ∙ ap (λ (y : Slot). some y) c.in-Zone.is)) in
          p.items ∙ (ap (λ (l : List Cell). l ++ c.in-Zone.cell ∷ []) (inv.cells g log all) ∙ (ap (λ (x : Cell). zones_at g log (range_with_len 0 z) ++ x ∷ []) is ∙ row_more g log z));
    }
