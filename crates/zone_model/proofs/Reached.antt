-- An act does nothing to a zone outside its reach, unless the zone gives way to another.
use Rattle.std.proofs.Common.{◌≡◌, ℕ, zero, suc, ◌+◌, ◌*◌, ◌-◌, ◌<◌, ◌≤◌, Bool, true, false, cond, List, Option, Some, None, get_or, refl, ap, ◌∙◌, arith, inl, inr}
use Rattle.std.specs.Prelude.{◌==◌}
use Rattle.std.specs.List.{list_any, range_with_len}
use Rattle.std.proofs.Math.Nat.{div-mul-le_self}
use Rattle.std.proofs.lemmas.Nat.{le-div}
use Rattle.std.proofs.lemmas.List.Folds.{list_any_at}
use Rattle.std.proofs.lemmas.List.FromFn.{length-range_with_len, get_or-range_with_len}
use Rattle.std.proofs.lemmas.Bool.{cases_Bool, eq-eqb, eqb-true, leb-false, lt-ltb, le-leb}
use Rattle.zns_types.specs.declared.fields.GeometryFields.{GeometryFields}
use Rattle.zns_types.specs.Geometry.{all_blocks, zone_of, offset_of}
use Rattle.zns_types.specs.Rows.{first_holding}
use Rattle.zns_types.specs.Statuses.{is_success}
use Rattle.sqe_codec.specs.declared.cmd.Cmd.{Cmd}
use Rattle.sqe_codec.specs.declared.cmd.Cmd.TheVariants as cmd
use Rattle.drive_rules.specs.declared.deed.Deed.{Deed}
use Rattle.drive_rules.specs.declared.deed.Deed.TheVariants as deed
use Rattle.drive_rules.specs.Aims.{sent_deed, aimed_at, sweep_of}
use Rattle.drive_rules.specs.Tables.{last_zone, front_rows}
use Rattle.zone_model.specs.declared.act.Act.{Act}
use Rattle.zone_model.specs.Places.{Place, command_of}
use Rattle.zone_model.specs.Zones.{zones}
use Rattle.zone_model.specs.Answers.{status, commanded_by, commanded, zone_deed, is_zone, evicted, and_then}
use Rattle.zone_model.specs.Reach.{zone_with, zones_with, reach_of}
use Rattle.zone_model.specs.Laws.{is_reached, IsUnchanged}
use Rattle.zone_model.proofs.Passing.{success-front}
use Rattle.zone_model.proofs.Fronts.{write_front-within, append_front-within, excursion_front-within, send_front-passes}
use Rattle.zone_model.proofs.Sends.{HasBlocks, some_blocks}
use Rattle.zone_model.proofs.Deeds.{deed-success, deed-refused}
use Rattle.zone_model.proofs.Refused.{idle-unchanged}

-- ---- ranges of zones

abbrev pub is_among : ℕ → List ℕ → Bool
is_among z zs = list_any (λ y. y == z) zs

pub range-has : (from n z : ℕ) → from ≤ z → z < from + n → is_among z (range_with_len from n) ≡ true
range-has from n z low high =
    let within : z - from < n = omega arith in
    let at : get_or (range_with_len from n) (z - from) 0 ≡ z = get_or-range_with_len from n (z - from) 0 within ∙ above from z low in
    list_any_at (λ y. y == z) (range_with_len from n) (z - from) 0 (omega (arith, length-range_with_len from n)) (eq-eqb _ _ at)
  where
    above : (from z : ℕ) → from ≤ z → from + (z - from) ≡ z
    above from z low = omega arith

some_size : (zones size n : ℕ) → 1 ≤ n → n ≤ zones * size → 0 < size
some_size zones zero n some le = absurd (omega arith)
some_size zones (suc size) n some le = omega arith

-- the zone of the first block is among the zones of blocks that the namespace has
zones_with-has : (g : GeometryFields) (slba blocks : ℕ) → 1 ≤ blocks → slba + blocks ≤ all_blocks g → is_among (zone_of g slba) (zones_with g slba blocks) ≡ true
zones_with-has g slba blocks some within =
    let size = some_size g.zones g.zone_size (slba + blocks) (omega arith) within in
    let le : zone_of g slba ≤ last_zone g slba blocks = le-div (zone_of g slba) (slba + blocks - 1) g.zone_size size (omega (arith, div-mul-le_self slba g.zone_size)) in
    rw (le-leb (slba + blocks) (all_blocks g) within) (range-has (zone_of g slba) (last_zone g slba blocks + 1 - zone_of g slba) (zone_of g slba) (omega arith) (omega arith))

zone_with-has : (g : GeometryFields) (lba : ℕ) → lba < all_blocks g → is_among (zone_of g lba) (zone_with g lba) ≡ true
zone_with-has g lba within = rw (lt-ltb lba (all_blocks g) within, eq-eqb (zone_of g lba) (zone_of g lba) refl) refl

-- a zone outside the list differs from one in the list
other_zone : {A : Type 0} (y z : ℕ) (zs : List ℕ) (a : A) → is_among y zs ≡ true → is_among z zs ≡ false → cond (y == z) (Some a) None ≡ None
other_zone {A} y z zs a here away = by_case (y == z) refl
  where
    by_case : (b : Bool) → (y == z) ≡ b → cond b (Some a) None ≡ None
    by_case true is = let same = eqb-true y z is in absurd (cc (here, away, ap (λ (x : ℕ). is_among x zs) same))
    by_case false is = refl

-- ---- commands

aimed-away : (g : GeometryFields) (h : List Place) (k : Cmd) (y z : ℕ) (zs : List ℕ) (o : Option Deed) → sweep_of k ≡ None → is_among y zs ≡ true → is_among z zs ≡ false → commanded_by g h k (aimed_at y o) z ≡ None
aimed-away g h k y z zs None none here away = rw none refl
aimed-away g h k y z zs (Some d) none here away = other_zone y z zs d here away

not_reached : (g : GeometryFields) (h : List Place) (k : Cmd) (z : ℕ) → first_holding (front_rows g k) ≡ None → HasBlocks k → z < g.zones → is_among z (reach_of g k) ≡ false → commanded g h k z ≡ None
not_reached g h (cmd.Write nsid slba blocks) z front has lt away =
    other_zone (zone_of g slba) z (zones_with g slba blocks) (deed.Write (offset_of g slba) blocks) (zones_with-has g slba blocks has.some (write_front-within g nsid slba blocks front)) away
not_reached g h (cmd.Append nsid zslba blocks) z front has lt away =
    other_zone (zone_of g zslba) z (zone_with g zslba) (deed.Append blocks) (zone_with-has g zslba (append_front-within g nsid zslba blocks front)) away
not_reached g h (cmd.Send nsid slba act true option) z front has lt away = absurd (cc (away, range-has 0 g.zones z (omega arith) (omega arith)))
not_reached g h (cmd.Send nsid slba act false option) z front has lt away =
    let here = zone_with-has g slba (leb-false _ _ (send_front-passes g nsid slba act false option front).has_block) in
    aimed-away g h (cmd.Send nsid slba act false option) (zone_of g slba) z (zone_with g slba) (sent_deed act option (offset_of g slba)) refl here away
not_reached g h (cmd.Excursion nsid slba kind) z front has lt away =
    other_zone (zone_of g slba) z (zone_with g slba) (deed.Excursion kind) (zone_with-has g slba (excursion_front-within g nsid slba kind front)) away
not_reached g h _ z front has lt away = refl

-- An act does nothing to a zone outside its reach that doesn't give way.
pub untouched_is_idle : (g : GeometryFields) (h : List Place) (a : Act) (z : ℕ) → z < g.zones → is_reached g a z ≡ false → is_zone z (evicted g h a) ≡ false → zone_deed g h a z ≡ None
untouched_is_idle g h a z lt away stays = elim (cases_Bool (is_success (status g h a))) [
  | inl ok ↦
      let none = not_reached g h (command_of a) z (success-front g h a ok) (some_blocks a) lt away in
      deed-success g h a z ok ∙ rw (none, stays) refl
  | inr refused ↦ deed-refused g h a z refused
]

pub untouched_stays : (g : GeometryFields) (h : List Place) (a : Act) (z : ℕ) → z < g.zones → is_reached g a z ≡ false → is_zone z (evicted g h a) ≡ false → IsUnchanged g h (and_then g h a) z
untouched_stays g h a z lt away stays = idle-unchanged g h a z (untouched_is_idle g h a z lt away stays)
