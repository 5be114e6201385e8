-- A zone that is opened according to its lent cell is opened after each history that the cells stand for.
use Rattle.std.proofs.Common.{◌≡◌, ℕ, Bool, true, false, List, [], ◌∷◌, refl, sym, ap, ◌∙◌}
use Rattle.std.specs.Prelude.{◌==◌, ◌&&◌, ◌||◌, nat_lt}
use Rattle.std.proofs.lemmas.Bool.{and_parts, and_from, eqb-true}
use Rattle.zns_types.specs.declared.fields.GeometryFields.{GeometryFields}
use Rattle.zns_types.specs.States.{is_opened}
use Rattle.zns_types.specs.Geometry.{all_blocks, zone_of}
use Rattle.sqe_codec.specs.declared.cmd.Cmd.{Cmd}
use Rattle.sqe_codec.specs.declared.cmd.Cmd.TheVariants as cmd
use Rattle.cell_history.specs.Cells.{cell_of}
use Rattle.zone_cell.specs.Cells.{Cell}
use Rattle.zone_model.specs.Places.{Place}
use Rattle.zone_model.specs.Zones.{state}
use Rattle.solo_drive.specs.Parts.{cell_at, cells_at, zones_in, CellsStand}
use Rattle.solo_drive.specs.Ahead.{is_in_opened, goes_ahead, opened_in, opened_at}

opened-cell : (g : GeometryFields) (h : List Place) (y z : ℕ) → (((cell_at g h y).zone == z) && is_opened (cell_at g h y).state) ≡ true → opened_at g h z ≡ true
unfolding cell_of
opened-cell g h y z is =
    let parts = and_parts (y == z) (is_opened (state g h y)) is in
    ap (opened_at g h) (sym (eqb-true y z parts.0)) ∙ parts.1

opened-cells : (g : GeometryFields) (h : List Place) (zs : List ℕ) (z : ℕ) → opened_in (cells_at g h zs) z ≡ true → opened_at g h z ≡ true
opened-cells g h [] z is = absurd (cc is)
opened-cells g h (y ∷ zs) z is = by_first (((cell_at g h y).zone == z) && is_opened (cell_at g h y).state) refl is (λ others. opened-cells g h zs z others)
  where
    by_first : (b : Bool) → (((cell_at g h y).zone == z) && is_opened (cell_at g h y).state) ≡ b → (b || opened_in (cells_at g h zs) z) ≡ true → (opened_in (cells_at g h zs) z ≡ true → opened_at g h z ≡ true) → opened_at g h z ≡ true
    by_first true e all rest = opened-cell g h y z e
    by_first false e all rest = rest all

pub opened-there : (g : GeometryFields) (h : List Place) (cells : List Cell) (z : ℕ) → CellsStand g h cells → opened_in cells z ≡ true → opened_at g h z ≡ true
opened-there g h cells z stand is = opened-cells g h (zones_in cells) z (ap (λ (cs : List Cell). opened_in cs z) (sym stand) ∙ is)

block-there : (g : GeometryFields) (h : List Place) (cells : List Cell) (lba : ℕ) → CellsStand g h cells → is_in_opened g (opened_in cells) lba ≡ true → is_in_opened g (opened_at g h) lba ≡ true
block-there g h cells lba stand is =
    let parts = and_parts (nat_lt lba (all_blocks g)) (opened_in cells (zone_of g lba)) is in
    and_from _ _ parts.0 (opened-there g h cells (zone_of g lba) stand parts.1)

-- A command that goes ahead according to the cells goes ahead at the history.
pub ahead-at : (g : GeometryFields) (h : List Place) (cells : List Cell) (k : Cmd) → CellsStand g h cells → goes_ahead g (opened_in cells) k ≡ true → goes_ahead g (opened_at g h) k ≡ true
ahead-at g h cells (cmd.Read nsid slba blocks) stand is = refl
ahead-at g h cells (cmd.Write nsid slba blocks) stand is = block-there g h cells slba stand is
ahead-at g h cells (cmd.Append nsid zslba blocks) stand is = block-there g h cells zslba stand is
ahead-at g h cells _ stand is = absurd (cc is)
