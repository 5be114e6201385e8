-- The lent cells are those of a range of zones, and the zone that an act goes to is among them.
use Rattle.std.proofs.Common.{◌≡◌, ℕ, ◌+◌, ◌-◌, ◌<◌, ◌≤◌, true, false, List, Some, None, length, refl, sym, ap, ◌∙◌, subst, arith, inl, inr}
use Rattle.std.specs.List.{range_with_len}
use Rattle.std.proofs.Math.Nat.{div-mul-le_self}
use Rattle.std.proofs.lemmas.Nat.{le-div, div_below}
use Rattle.std.proofs.lemmas.Bool.{lt-ltb, le-leb, leb-false}
use Rattle.std.proofs.lemmas.List.FromFn.{length-map-range_with_len}
use Rattle.zns_types.specs.declared.fields.GeometryFields.{GeometryFields}
use Rattle.zns_types.specs.Geometry.{IsGeometry, all_blocks, zone_of, offset_of}
use Rattle.zns_types.specs.Rows.{first_holding}
use Rattle.sqe_codec.specs.declared.cmd.Cmd.{Cmd}
use Rattle.sqe_codec.specs.declared.cmd.Cmd.TheVariants as cmd
use Rattle.drive_rules.specs.declared.aim.Aim.{Aim}
use Rattle.drive_rules.specs.Aims.{aim_of, sent_deed}
use Rattle.drive_rules.specs.Tables.{front_rows, last_zone}
use Rattle.zone_cell.specs.Cells.{Cell}
use Rattle.zone_model.specs.declared.act.Act.{Act}
use Rattle.zone_model.specs.Places.{Place, command_of}
use Rattle.zone_model.specs.Reach.{zone_with, zones_with, reach_of}
use Rattle.zone_model.proofs.Fronts.{write_front-within, append_front-within, excursion_front-within, send_front-passes}
use Rattle.zone_model.proofs.Sends.{HasBlocks, some_blocks, aimed-deed}
use Rattle.solo_drive.specs.Parts.{cells_at, zones_in, CellsStand, AreLent}

-- consecutive zones of the drive
pub record IsRangeFrom (g : GeometryFields) (zone : ℕ) (zs : List ℕ) : Type 0 where
  pub count : ℕ
  pub all : zs ≡ range_with_len zone count
  pub some : 1 ≤ count
  pub within : zone + count ≤ g.zones

zone_below : (g : GeometryFields) (lba : ℕ) → IsGeometry g → lba < all_blocks g → zone_of g lba < g.zones
zone_below g lba is within = div_below lba g.zone_size g.zones is.zones.zone_size within

one-range : (g : GeometryFields) (lba : ℕ) → IsGeometry g → lba < all_blocks g → IsRangeFrom g (zone_of g lba) (zone_with g lba)
one-range g lba is within = let below = zone_below g lba is within in record { count = 1; all = rw (lt-ltb lba (all_blocks g) within) refl; some = omega arith; within = omega arith }

pub blocks-range : (g : GeometryFields) (slba blocks : ℕ) → IsGeometry g → 1 ≤ blocks → slba + blocks ≤ all_blocks g → IsRangeFrom g (zone_of g slba) (zones_with g slba blocks)
blocks-range g slba blocks is some within =
    let below : last_zone g slba blocks < g.zones = zone_below g (slba + blocks - 1) is (omega arith) in
    let le : zone_of g slba ≤ last_zone g slba blocks = le-div (zone_of g slba) (slba + blocks - 1) g.zone_size is.zones.zone_size (omega (arith, div-mul-le_self slba g.zone_size)) in
    record { count = last_zone g slba blocks + 1 - zone_of g slba; all = rw (le-leb (slba + blocks) (all_blocks g) within) refl; some = omega arith; within = omega arith }

-- the zones that a command for a deed to one zone may read or change start with that zone
aim-range : (g : GeometryFields) (k : Cmd) (aim : Aim) → IsGeometry g → HasBlocks k → first_holding (front_rows g k) ≡ None → aim_of g k ≡ Some aim → IsRangeFrom g aim.zone (reach_of g k)
aim-range g (cmd.Write nsid slba blocks) aim is some none e =
    let same : zone_of g slba ≡ aim.zone = cc in
    subst (λ (z : ℕ). IsRangeFrom g z (zones_with g slba blocks)) same (blocks-range g slba blocks is some.some (write_front-within g nsid slba blocks none))
aim-range g (cmd.Append nsid zslba blocks) aim is some none e =
    let same : zone_of g zslba ≡ aim.zone = cc in
    subst (λ (z : ℕ). IsRangeFrom g z (zone_with g zslba)) same (one-range g zslba is (append_front-within g nsid zslba blocks none))
aim-range g (cmd.Send nsid slba act true option) aim is some none e = absurd (cc e)
aim-range g (cmd.Send nsid slba act false option) aim is some none e =
    let same : zone_of g slba ≡ aim.zone = sym (aimed-deed (zone_of g slba) (sent_deed act option (offset_of g slba)) aim e).0 in
    let within : slba < all_blocks g = leb-false (all_blocks g) slba (send_front-passes g nsid slba act false option none).has_block in
    subst (λ (z : ℕ). IsRangeFrom g z (zone_with g slba)) same (one-range g slba is within)
aim-range g (cmd.Excursion nsid slba kind) aim is some none e =
    let same : zone_of g slba ≡ aim.zone = cc in
    subst (λ (z : ℕ). IsRangeFrom g z (zone_with g slba)) same (one-range g slba is (excursion_front-within g nsid slba kind none))
aim-range g _ aim is some none e = absurd (cc e)

-- ---- lent cells

-- the cells are those of consecutive zones, and a zone is among them
pub record IsAmong (g : GeometryFields) (h : List Place) (cells : List Cell) (zone : ℕ) : Type 0 where
  pub first : ℕ
  pub count : ℕ
  pub stand : cells ≡ cells_at g h (range_with_len first count)
  pub zones_are : zones_in cells ≡ range_with_len first count
  pub within : first + count ≤ g.zones
  pub low : first ≤ zone
  pub high : zone < first + count

-- the zone of a command's aim
pub aim-among : (g : GeometryFields) (h : List Place) (a : Act) (aim : Aim) (cells : List Cell) → IsGeometry g → first_holding (front_rows g (command_of a)) ≡ None → aim_of g (command_of a) ≡ Some aim → aim.zone < g.zones
    → CellsStand g h cells → AreLent g a (zones_in cells) → IsAmong g h cells aim.zone
aim-among g h a aim cells is none e below stand (inl reached) =
    let range = aim-range g (command_of a) aim is (some_blocks a) none e in
    let zones_are = reached ∙ range.all in
    record {
      first = aim.zone;
      count = range.count;
      stand = stand ∙ ap (cells_at g h) zones_are;
      zones_are = zones_are;
      within = range.within;
      low = omega arith;
      high = omega (arith, range.some);
    }
aim-among g h a aim cells is none e below stand (inr all) = record { first = 0; count = g.zones; stand = stand ∙ ap (cells_at g h) all; zones_are = all; within = omega arith; low = omega arith; high = omega arith }

pub length-among : (g : GeometryFields) (h : List Place) (cells : List Cell) (zone : ℕ) (m : IsAmong g h cells zone) → length cells ≡ m.count
length-among g h cells zone m = ap length m.stand ∙ length-map-range_with_len _ m.first m.count
