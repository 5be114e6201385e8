-- The rows of a command that don't depend on any zone, by their names.
use Rattle.std.proofs.Common.{◌≡◌, ℕ, ◌+◌, ◌<◌, ◌≤◌, Bool, false, None}
use Rattle.std.specs.Prelude.{◌&&◌, ◌||◌, ◌==◌, not, nat_le}
use Rattle.std.proofs.lemmas.Bool.{ltb-false, leb-false}
use Rattle.zns_types.specs.declared.fields.GeometryFields.{GeometryFields}
use Rattle.zns_types.specs.Geometry.{all_blocks}
use Rattle.zns_types.specs.Rows.{first_holding}
use Rattle.zns_types.proofs.RowLemmas.{none_holds}
use Rattle.drive_rules.specs.Aims.{open_code, commit_code}
use Rattle.drive_rules.specs.Tables.{write_front, read_front, append_front, send_front, excursion_front}

-- the blocks of a Write are within the namespace
pub write_front-within : (g : GeometryFields) (nsid slba blocks : ℕ) → first_holding (write_front g nsid slba blocks) ≡ None → slba + blocks ≤ all_blocks g
write_front-within g nsid slba blocks e = let (_, (_, (beyond, _))) = none_holds (write_front g nsid slba blocks) e in ltb-false _ _ beyond

-- and so are those of a Read
pub read_front-within : (g : GeometryFields) (nsid slba blocks : ℕ) → first_holding (read_front g nsid slba blocks) ≡ None → slba + blocks ≤ all_blocks g
read_front-within g nsid slba blocks e = let (_, (_, (beyond, _))) = none_holds (read_front g nsid slba blocks) e in ltb-false _ _ beyond

-- the first block of an Append is within the namespace
pub append_front-within : (g : GeometryFields) (nsid zslba blocks : ℕ) → first_holding (append_front g nsid zslba blocks) ≡ None → zslba < all_blocks g
append_front-within g nsid zslba blocks e = let (_, (_, (beyond, _))) = none_holds (append_front g nsid zslba blocks) e in leb-false _ _ beyond

-- and so is that of an excursion
pub excursion_front-within : (g : GeometryFields) (nsid slba kind : ℕ) → first_holding (excursion_front g nsid slba kind) ≡ None → slba < all_blocks g
excursion_front-within g nsid slba kind e = let (_, (_, (beyond, _))) = none_holds (excursion_front g nsid slba kind) e in leb-false _ _ beyond

-- a Send that no row of its front refuses
pub record PassesSend (g : GeometryFields) (slba act : ℕ) (all option : Bool) : Type 0 where
  pub not_for_all : (all && ((act == commit_code) || ((act == open_code) && option))) ≡ false
  pub has_block : (not all && nat_le (all_blocks g) slba) ≡ false

pub send_front-passes : (g : GeometryFields) (nsid slba act : ℕ) (all option : Bool) → first_holding (send_front g nsid slba act all option) ≡ None → PassesSend g slba act all option
send_front-passes g nsid slba act all option e =
    let (_, (_, (for_all, (blockless, _)))) = none_holds (send_front g nsid slba act all option) e in
    record { not_for_all = for_all; has_block = blockless }
