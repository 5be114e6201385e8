-- What stays true as cells change.
use Rattle.std.proofs.Common.{◌≡◌, ℕ, ◌+◌, ◌-◌, ◌%◌, ◌<◌, ◌≤◌, IsTrue, List, None, length, ◌∙◌, arith}
use Rattle.std.specs.Prelude.{◌||◌, nat_le, nat_lt}
use Rattle.std.proofs.lemmas.Bool.{and_parts, or_parts, not-false, ltb-false, eqb-true}
use Rattle.std.proofs.Math.Nat.{mul-mod_left, mod-add-mod}
use Rattle.zns_types.specs.declared.fields.GeometryFields.{GeometryFields}
use Rattle.zns_types.specs.declared.state.State.{State}
use Rattle.zns_types.specs.States.{is_active}
use Rattle.zns_types.specs.Geometry.{block_len}
use Rattle.zns_types.specs.Rows.{first_holding}
use Rattle.zns_types.proofs.RowLemmas.{none_holds}
use Rattle.drive_rules.specs.ZoneRows.{Zone, commit_rows}
use Rattle.zone_cell.specs.Cells.{Cell, IsOf, sight, in_state, with_data, after_write, after_commit}
use Rattle.zone_cell.proofs.Blocks.{length-with_blocks}

-- A cell in a state is one of a drive if it has the drive's sizes, and its pointer is on a granule while it has a random write area.
pub IsOf-in_state : (g : GeometryFields) (state : State) (pointer : ℕ) (c : Cell) → c.zone < g.zones → c.block_len ≡ block_len g → length c.blocks ≡ g.capacity → (IsTrue c.window → 1 ≤ g.windows)
    → (IsTrue c.window → IsTrue (is_active state) → pointer % g.granule ≡ 0) → IsOf g (in_state state pointer c)
IsOf-in_state g state pointer c zone len blocks windows granular = record {
  zone = zone;
  len = len;
  blocks = blocks;
  windows = λ on. windows (and_parts c.window (is_active state) on).0;
  granular = λ on. granular (and_parts c.window (is_active state) on).0 (and_parts c.window (is_active state) on).1;
  active = λ on. (and_parts c.window (is_active state) on).1;
}

pub IsOf-after_write : (g : GeometryFields) (from : ℕ) (payload : List ℕ) (c : Cell) → IsOf g c → IsOf g (after_write g from payload c)
IsOf-after_write g from payload c of =
    IsOf-in_state g _ _ (with_data from payload c) of.zone of.len (length-with_blocks c.block_len from payload c.blocks ∙ of.blocks) of.windows (λ on active. rw on (mul-mod_left _ g.granule))

-- what rows say of a commit that they let pass
record Passes (g : GeometryFields) (pointer last : ℕ) : Type 0 where
  from : pointer ≤ last
  granules : (last - pointer + 1) % g.granule ≡ 0

passes : (g : GeometryFields) (zone : Zone) (last : ℕ) → first_holding (commit_rows g zone last) ≡ None → Passes g zone.pointer last
passes g zone last none =
    let fails = none_holds (commit_rows g zone last) none in
    let in_area = or_parts (nat_lt last zone.pointer || nat_lt (zone.pointer + g.window - 1) last) (nat_le g.capacity last) fails.1.0 in
    let past = or_parts (nat_lt last zone.pointer) (nat_lt (zone.pointer + g.window - 1) last) in_area.0 in
    record { from = ltb-false last zone.pointer past.0; granules = eqb-true ((last - zone.pointer + 1) % g.granule) 0 (not-false _ fails.1.1.0) }

-- whole granules after whole granules
granules_more : (granule p last : ℕ) → p ≤ last → p % granule ≡ 0 → (last - p + 1) % granule ≡ 0 → (last + 1) % granule ≡ 0
granules_more granule p last le front more =
    let sum : last + 1 ≡ p + (last - p + 1) = omega arith in
    let start : 0 + (last - p + 1) ≡ last - p + 1 = omega arith in
    rw (sum, ← mod-add-mod p granule (last - p + 1), front, start) more

pub IsOf-after_commit : (g : GeometryFields) (last : ℕ) (c : Cell) → IsOf g c → first_holding (commit_rows g (sight c) last) ≡ None → IsOf g (after_commit g last c)
IsOf-after_commit g last c of none =
    let pass = passes g (sight c) last none in
    IsOf-in_state g _ _ c of.zone of.len of.blocks of.windows (λ on active. granules_more g.granule c.pointer last pass.from (of.granular on) pass.granules)
