-- A Read from lent cells reads what their history says.
use Rattle.std.proofs.Common.{◌≡◌, ℕ, ◌+◌, ◌-◌, ◌*◌, ◌<◌, ◌≤◌, Bool, true, false, List, ◌++◌, None, length, map, get_or, take, drop, refl, sym, ap, ◌∙◌, subst, arith, inl, inr}
use Rattle.std.specs.Prelude.{All}
use Rattle.std.specs.List.{list_any, range_with_len}
use Rattle.std.proofs.Math.Nat.{div-mul-le_self, add-mul}
use Rattle.std.proofs.lemmas.Nat.{le-div}
use Rattle.std.proofs.lemmas.Bool.{cases_lt}
use Rattle.std.proofs.lemmas.List.{get_or_default, get_or_past, append-nil, length-take-le, length-drop}
use Rattle.std.proofs.lemmas.List.FromFn.{length-map-range_with_len, get_or-map-range_with_len}
use Rattle.zns_types.specs.declared.fields.GeometryFields.{GeometryFields}
use Rattle.zns_types.specs.Geometry.{IsGeometry, block_len, zone_of, offset_of}
use Rattle.zns_types.specs.States.{is_offline}
use Rattle.zns_types.specs.Statuses.{zone_offline}
use Rattle.drive_rules.specs.Blocks.{seen_block}
use Rattle.drive_rules.specs.Tables.{zones_between, last_zone}
use Rattle.zone_history.specs.Histories.{block_of}
use Rattle.zone_history.proofs.Standing.{blocks_within}
use Rattle.zone_cell.specs.Cells.{Cell, IsOf, bytes_at}
use Rattle.zone_room.specs.Rooms.{no_cell, cell_in}
use Rattle.cell_history.specs.Cells.{cell_of}
use Rattle.cell_history.proofs.Lists.{list_any-shift, list_any-range_same}
use Rattle.zone_model.specs.declared.act.Act.{Act}
use Rattle.zone_model.specs.Places.{Place, deeds}
use Rattle.zone_model.specs.Zones.{state, seen}
use Rattle.zone_model.specs.Answers.{answered}
use Rattle.zone_model.specs.Replies.{blocks_read}
use Rattle.zone_model.proofs.Deeds.{all_admitted}
use Rattle.drive_book.specs.declared.outcome.Outcome.{Outcome}
use Rattle.drive_book.specs.Outcomes.{refusal_with, plain_success}
use Rattle.solo_drive.specs.Parts.{cell_at, cells_at}
use Rattle.solo_drive.specs.Reading.{cell_from, state_from, block_from, blocks_from, CellsReach, ReadServed}
use Rattle.solo_drive.proofs.Aims.{cell-at}
use Rattle.solo_drive.proofs.Ranges.{pieces-same}

-- ---- the zones of blocks

zone_of-le : (g : GeometryFields) (a b : ℕ) → 1 ≤ g.zone_size → a ≤ b → zone_of g a ≤ zone_of g b
zone_of-le g a b some le = le-div (zone_of g a) b g.zone_size (omega arith) (omega (arith, div-mul-le_self a g.zone_size))

-- the zone of one of the blocks is between the first block's and the last's
pub record IsBetween (g : GeometryFields) (slba blocks z : ℕ) : Type 0 where
  pub from : zone_of g slba ≤ z
  pub to : z ≤ last_zone g slba blocks

pub zone-between : (g : GeometryFields) (slba blocks lba : ℕ) → IsGeometry g → slba ≤ lba → lba < slba + blocks → IsBetween g slba blocks (zone_of g lba)
zone-between g slba blocks lba is low high = record {
  from = zone_of-le g slba lba is.zones.zone_size low;
  to = zone_of-le g lba (slba + blocks - 1) is.zones.zone_size (omega arith);
}

-- ---- what the code reads

-- the element at a place
pub cell-there : (cells : List Cell) (place : ℕ) (c : Cell) → place < length cells → c ≡ get_or cells place c → c ≡ cell_in cells place
cell-there cells place c lt is = is ∙ get_or_default cells place c no_cell lt

-- one zone's bytes of a block
pub block-there : (g : GeometryFields) (first : ℕ) (cells : List Cell) (lba place : ℕ) (c : Cell) → place < length cells → place ≡ zone_of g lba - first → c ≡ get_or cells place c → bytes_at c (offset_of g lba) 1 ≡ block_from g first cells lba
block-there g first cells lba place c lt at is = ap (λ (d : Cell). bytes_at d (offset_of g lba) 1) (cell-there cells place c lt is) ∙ ap (λ (i : ℕ). bytes_at (cell_in cells i) (offset_of g lba) 1) at

-- the zone is among the cells
pub place-within : (g : GeometryFields) (first : ℕ) (cells : List Cell) (slba blocks lba : ℕ) → IsGeometry g → CellsReach g first cells slba blocks → slba ≤ lba → lba < slba + blocks → zone_of g lba - first < length cells
place-within g first cells slba blocks lba is reach low high = let at = zone-between g slba blocks lba is low high in omega (arith, at.from, at.to, reach.from, reach.to)

-- a cell that was read is one of the drive
pub of-there : (g : GeometryFields) (cells : List Cell) (place : ℕ) (c : Cell) → All (IsOf g) cells → place < length cells → c ≡ get_or cells place c → IsOf g c
of-there g cells place c of lt is = subst (IsOf g) (sym is) (of place c lt)

-- one block's part of the bytes
pub length-part : (out : List ℕ) (i len : ℕ) → (i + 1) * len ≤ length out → length (take ((i + 1) * len - i * len) (drop (i * len) out)) ≡ len
length-part out i len within =
    let size : (i + 1) * len ≡ i * len + len = omega (arith, add-mul i 1 len) in
    length-take-le ((i + 1) * len - i * len) (drop (i * len) out) (omega (arith, size, length-drop (i * len) out)) ∙ omega (arith, size)

-- places and numbers of zones
offline-places : (cells : List Cell) (first from n : ℕ) → first ≤ from
    → list_any (λ i. is_offline (cell_in cells i).state) (range_with_len (from - first) n) ≡ list_any (λ z. is_offline (state_from first cells z)) (range_with_len from n)
offline-places cells first from n le =
    list_any-range_same _ _ (from - first) n (λ i low high. ap (λ (k : ℕ). is_offline (cell_in cells k).state) (omega arith))
    ∙ list_any-shift (λ z. is_offline (state_from first cells z)) first (from - first) n
    ∙ ap (λ (k : ℕ). list_any (λ z. is_offline (state_from first cells z)) (range_with_len k n)) (omega arith)

-- one of the zones of the blocks is Offline
pub offline-is : (g : GeometryFields) (first : ℕ) (cells : List Cell) (slba blocks from to : ℕ) (b : Bool) → CellsReach g first cells slba blocks → from ≡ zone_of g slba → to ≡ last_zone g slba blocks
    → b ≡ list_any (λ i. is_offline (cell_in cells i).state) (range_with_len (from - first) (to + 1 - from)) → b ≡ list_any (λ z. is_offline (state_from first cells z)) (zones_between (zone_of g slba) (last_zone g slba blocks))
offline-is g first cells slba blocks from to b reach from_is to_is is =
    let test = λ (i : ℕ). is_offline (cell_in cells i).state in
    is
    ∙ ap (λ (k : ℕ). list_any test (range_with_len (k - first) (to + 1 - k))) from_is
    ∙ ap (λ (k : ℕ). list_any test (range_with_len (zone_of g slba - first) (k + 1 - zone_of g slba))) to_is
    ∙ offline-places cells first (zone_of g slba) (last_zone g slba blocks + 1 - zone_of g slba) reach.from

pub read-refused : (g : GeometryFields) (first : ℕ) (cells : List Cell) (slba blocks : ℕ) (old new : List ℕ) (o : Outcome) → list_any (λ z. is_offline (state_from first cells z)) (zones_between (zone_of g slba) (last_zone g slba blocks)) ≡ true
    → o ≡ refusal_with zone_offline → new ≡ old → ReadServed g first cells slba blocks old new o
read-refused g first cells slba blocks old new o offline is same = record { refused = λ e. (is, same); done = λ e. absurd (cc (offline, e)) }

pub read-done : (g : GeometryFields) (first : ℕ) (cells : List Cell) (slba blocks : ℕ) (old new : List ℕ) (o : Outcome) → list_any (λ z. is_offline (state_from first cells z)) (zones_between (zone_of g slba) (last_zone g slba blocks)) ≡ false
    → o ≡ record plain_success { len = blocks * block_len g } → new ≡ blocks_from g first cells slba blocks ++ drop (blocks * block_len g) old → ReadServed g first cells slba blocks old new o
read-done g first cells slba blocks old new o none is read = record { refused = λ e. absurd (cc (none, e)); done = λ e. (is, read) }

-- ---- what the history says

state-cell : (g : GeometryFields) (h : List Place) (z : ℕ) → (cell_at g h z).state ≡ state g h z
unfolding cell_of
state-cell g h z = refl

-- a cell reads a block as the history says, even one past the capacity
bytes-cell : (g : GeometryFields) (acts : List Act) (z b : ℕ) → bytes_at (cell_at g (answered g acts) z) b 1 ≡ seen g (answered g acts) z b
unfolding cell_of
bytes-cell g acts z b =
    let ds = deeds (answered g acts) z in
    let blocks = map (block_of g ds) (range_with_len 0 g.capacity) in
    let there : get_or blocks b None ≡ block_of g ds b = elim (cases_lt b g.capacity) [
      | inl below ↦ get_or-map-range_with_len (block_of g ds) 0 g.capacity b b None below (omega arith)
      | inr beyond ↦ get_or_past blocks b None (omega (arith, length-map-range_with_len (block_of g ds) 0 g.capacity)) ∙ sym (blocks_within g ds b (all_admitted g acts z) (omega arith))
    ] in
    append-nil (seen_block (block_len g) (get_or blocks b None)) ∙ ap (seen_block (block_len g)) there

-- The lent cells, of consecutive zones, are those of a history, and include the zones of the blocks.
pub record AreLentFor (g : GeometryFields) (acts : List Act) (first n : ℕ) (cells : List Cell) (slba blocks : ℕ) : Type 0 where
  pub geometry : IsGeometry g
  pub lent : cells ≡ cells_at g (answered g acts) (range_with_len first n)
  pub from : first ≤ zone_of g slba
  pub to : last_zone g slba blocks < first + n

-- A Read from the cells is a Read at the history.
pub record ReadsThere (g : GeometryFields) (acts : List Act) (first : ℕ) (cells : List Cell) (slba blocks : ℕ) : Type 0 where
  pub offline : list_any (λ z. is_offline (state_from first cells z)) (zones_between (zone_of g slba) (last_zone g slba blocks))
      ≡ list_any (λ z. is_offline (state g (answered g acts) z)) (zones_between (zone_of g slba) (last_zone g slba blocks))
  pub bytes : blocks_from g first cells slba blocks ≡ blocks_read g (answered g acts) slba blocks

cell-from : (g : GeometryFields) (h : List Place) (cells : List Cell) (first n z : ℕ) → cells ≡ cells_at g h (range_with_len first n) → first ≤ z → z < first + n → cell_from first cells z ≡ cell_at g h z
cell-from g h cells first n z is low high = cell-at g h cells first n (z - first) is (omega arith) ∙ ap (cell_at g h) (omega arith)

pub reads-of : (g : GeometryFields) (acts : List Act) (first n : ℕ) (cells : List Cell) (slba blocks : ℕ) → AreLentFor g acts first n cells slba blocks → ReadsThere g acts first cells slba blocks
reads-of g acts first n cells slba blocks l =
    let h = answered g acts in
    record {
      offline = list_any-range_same _ _ (zone_of g slba) (last_zone g slba blocks + 1 - zone_of g slba)
          (λ z low high. ap is_offline (ap (λ (c : Cell). c.state) (cell-from g h cells first n z l.lent (omega (arith, l.from)) (omega (arith, l.to))) ∙ state-cell g h z));
      bytes = pieces-same _ _ slba blocks
          (λ lba low high.
          let z = zone_of g lba in
          let at = zone-between g slba blocks lba l.geometry low high in
          ap (λ (c : Cell). bytes_at c (offset_of g lba) 1) (cell-from g h cells first n z l.lent (omega (arith, l.from, at.from)) (omega (arith, l.to, at.to))) ∙ bytes-cell g acts z (offset_of g lba));
    }
