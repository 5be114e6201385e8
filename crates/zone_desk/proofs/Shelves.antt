-- The cells are taken out of their places one after another.
use Rattle.std.proofs.Common.{◌≡◌, ◌≢◌, ℕ, zero, suc, ◌+◌, ◌<◌, ◌≤◌, Bool, true, false, List, [], ◌∷◌, ◌++◌, get_or, set, leb, ⊎_elim, refl, ap, sym, ◌∙◌, arith, add-one}
use Rattle.std.specs.List.{range_with_len}
use Rattle.std.proofs.lemmas.List.{get_or-set_other}
use Rattle.std.proofs.lemmas.List.FromFn.{map-range_with_len_more}
use Rattle.std.proofs.lemmas.Bool.Decides.{leb_tells}
use mathlib.Core.Option.{some, some-injective}
use lib.ListN.{get_elem?}
use Rattle.zns_types.specs.declared.fields.GeometryFields.{GeometryFields}
use Rattle.zone_cell.specs.Cells.{Cell}
use Rattle.zone_model.specs.declared.act.Act.{Act}
use Rattle.zone_desk.specs.Parts.{zone_at, zones_at}
use Rattle.zone_desk.specs.Passes.{AreShelved, HaveCells}
use Rattle.zone_desk.specs.declared.slot.Slot.{Slot}
use Rattle.zone_desk.specs.declared.slot.Slot.TheVariants.{Zone}

pub set_off : (fs : List Bool) (i : ℕ) → get_or (set fs i false) i false ≡ false
set_off [] i = refl
set_off (x ∷ xs) zero = refl
set_off (x ∷ xs) (suc i) = set_off xs i

pub set_on : (fs : List Bool) (i k : ℕ) (b : Bool) → k ≢ i → get_or fs k false ≡ b → get_or (set fs i false) k false ≡ b
set_on fs i k b ne e = get_or-set_other fs i k false false ne ∙ e

-- the value of a zone's place is a cell
pub got_cell : (parts : List Slot) (zones z : ℕ) (y : Slot) → HaveCells parts zones → z < zones → get_elem? parts (z + 1) ≡ some y → (c : Cell) × (y ≡ Zone c)
got_cell parts zones z y all near e =
    let h = all z near in
    (h.0, some-injective y (Zone h.0) (sym e ∙ (ap (get_elem? parts) (add-one z) ∙ h.1)))

pub got_this : (g : GeometryFields) (log : List Act) (parts : List Slot) (zones z : ℕ) (c : Cell) → AreShelved g log parts zones → z < zones → get_elem? parts (z + 1) ≡ some (Zone c) → c ≡ zone_at g log z
got_this g log parts zones z c all near e =
    let h : Zone c ≡ Zone (zone_at g log z) = some-injective (Zone c) (Zone (zone_at g log z)) (sym e ∙ (ap (get_elem? parts) (add-one z) ∙ all z near)) in
    cc h

pub row_more : (g : GeometryFields) (log : List Act) (n : ℕ) → zones_at g log (range_with_len 0 n) ++ zone_at g log n ∷ [] ≡ zones_at g log (range_with_len 0 (n + 1))
row_more g log n = sym (map-range_with_len_more (zone_at g log) 0 n n (omega arith))

pub off_more : (fs : List Bool) (z k : ℕ) → ((j : ℕ) → j < z → get_or fs (suc j) false ≡ false) → k < z + 1 → get_or (set fs (z + 1) false) (suc k) false ≡ false
off_more fs z k gone h =
    ⊎_elim
    (λ (t : (leb (suc k) z ≡ true) × (suc k ≤ z)). let below = t.1 in set_on fs (z + 1) (suc k) false (λ e. omega arith) (gone k (omega arith)))
    (λ (t : (leb (suc k) z ≡ false) × (z < suc k)). let past = t.1 in let e : z + 1 ≡ suc k = omega arith in ap (λ (j : ℕ). get_or (set fs (z + 1) false) j false) (sym e) ∙ set_off fs (z + 1))
    (leb_tells (suc k) z)
