use Rattle.std.proofs.Common.{◌≡◌, ℕ, suc, ◌<◌, ◌≤◌, true, false, List, slice_index_or, vec_len, vec_capacity}
use Rattle.std.specs.List.{range_with_len}
use Rattle.std.specs.Slots.{slots_items, slots_filled, slots_len}
use Rattle.zns_types.specs.declared.fields.GeometryFields.{GeometryFields}
use Rattle.zone_model.specs.declared.act.Act.{Act}
use Rattle.zone_desk.specs.Parts.{zones_at}
use Rattle.zone_desk.specs.Passes.{AreShelved}
use Rattle.zone_desk.proofs.closing.take_cells.Given as goal

abbrev pub invariant-loop-zone : goal.invariant-loop-zone
invariant-loop-zone l = record {
  items : slots_items l.row.slots ≡ slots_items l.initial.row.slots;
  count : slots_len l.row.slots ≡ slots_len l.initial.row.slots;
  gone : (z : ℕ) → z < l.zone → slice_index_or (slots_filled l.row.slots) (suc z) false ≡ false;
  left : (z : ℕ) → l.zone ≤ z → z < l.zones → slice_index_or (slots_filled l.row.slots) (suc z) false ≡ true;
  first : slice_index_or (slots_filled l.row.slots) 0 false ≡ slice_index_or (slots_filled l.initial.row.slots) 0 false;
  room : l.zones ≤ vec_capacity l.cells;
  taken : vec_len l.cells ≡ l.zone;
  cells : (g : GeometryFields) (log : List Act) → AreShelved g log (slots_items l.initial.row.slots) l.zones → l.cells.items ≡ zones_at g log (range_with_len 0 l.zone);
}
