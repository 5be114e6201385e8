-- The cells of a history with one more act.
use Rattle.std.proofs.Common.{◌≡◌, ℕ, ◌*◌, ◌<◌, true, false, List, Some, None, length, refl, sym, ap, ◌∙◌}
use Rattle.zns_types.specs.declared.fields.GeometryFields.{GeometryFields}
use Rattle.zns_types.specs.Geometry.{IsGeometry, block_len, zone_of, offset_of}
use Rattle.sqe_codec.specs.declared.cmd.Cmd.{Cmd}
use Rattle.sqe_codec.specs.declared.cmd.Cmd.TheVariants as cmd
use Rattle.sqe_codec.specs.Commands.{transfer_len}
use Rattle.drive_rules.specs.declared.deed.Deed.{Deed}
use Rattle.drive_rules.specs.declared.deed.Deed.TheVariants as deed
use Rattle.drive_rules.specs.declared.aim.Aim.{Aim}
use Rattle.drive_rules.specs.Deeds.{blocks_of}
use Rattle.drive_rules.specs.Aims.{aim_of, sent_deed}
use Rattle.zone_history.specs.Histories.{Done}
use Rattle.zone_history.specs.Admitted.{is_write}
use Rattle.zone_cell.specs.Cells.{IsOf, sight}
use Rattle.zone_cell.specs.Deeds.{after_deed}
use Rattle.cell_history.specs.Cells.{cell_of, IsWhole}
use Rattle.cell_history.proofs.Follows.{cell-follows}
use Rattle.cell_history.proofs.OfDrive.{cell-of_drive}
use Rattle.zone_model.specs.declared.act.Act.{Act}
use Rattle.zone_model.specs.Places.{Place, command_of, deeds}
use Rattle.zone_model.specs.Zones.{zone}
use Rattle.zone_model.specs.Answers.{zone_deed, and_then, answered}
use Rattle.zone_model.proofs.Deeds.{done_by, deeds-idle, deeds-done, admitted, all_admitted, deed-cause, Cause, by_aim, by_sweep, by_close}
use Rattle.zone_model.proofs.Sends.{sent-no_write, aimed-deed}
use Rattle.zone_model.proofs.Sweeps.{sweep-no_write}
use Rattle.solo_drive.specs.Parts.{cell_at}

-- ---- what a cell shows

pub sight-cell : (g : GeometryFields) (h : List Place) (z : ℕ) → sight (cell_at g h z) ≡ zone g h z
unfolding cell_of
sight-cell g h z = refl

pub zone-cell : (g : GeometryFields) (h : List Place) (z : ℕ) → (cell_at g h z).zone ≡ z
unfolding cell_of
zone-cell g h z = refl

-- ---- one more act

-- a zone to which the act does nothing
pub cell-idle : (g : GeometryFields) (h : List Place) (a : Act) (z : ℕ) → zone_deed g h a z ≡ None → cell_at g (and_then g h a) z ≡ cell_at g h z
cell-idle g h a z none = ap (cell_of g z) (deeds-idle g h a z none)

whole_nothing : (g : GeometryFields) (d : Done) → is_write d.deed ≡ false → IsWhole g d
whole_nothing g d none write = absurd (cc (none, write))

-- a write comes with the bytes of its blocks
pub aim-whole : (g : GeometryFields) (k : Cmd) (aim : Aim) (payload : List ℕ) → aim_of g k ≡ Some aim → length payload ≡ transfer_len g k → is_write aim.deed ≡ true → length payload ≡ blocks_of aim.deed * block_len g
aim-whole g (cmd.Write nsid slba blocks) aim payload e len write = let is : record { zone = zone_of g slba; deed = deed.Write (offset_of g slba) blocks } ≡ aim = cc in len ∙ ap (λ (x : Aim). blocks_of x.deed * block_len g) is
aim-whole g (cmd.Append nsid zslba blocks) aim payload e len write = let is : record { zone = zone_of g zslba; deed = deed.Append blocks } ≡ aim = cc in len ∙ ap (λ (x : Aim). blocks_of x.deed * block_len g) is
aim-whole g (cmd.Send nsid slba act true option) aim payload e len write = absurd (cc e)
aim-whole g (cmd.Send nsid slba act false option) aim payload e len write =
    let is = aimed-deed (zone_of g slba) (sent_deed act option (offset_of g slba)) aim e in
    absurd (cc (write, sent-no_write act option (offset_of g slba) aim.deed is.1))
aim-whole g (cmd.Excursion nsid slba kind) aim payload e len write = let is : record { zone = zone_of g slba; deed = deed.Excursion kind } ≡ aim = cc in absurd (cc (write, ap (λ (x : Aim). is_write x.deed) is))
aim-whole g _ aim payload e len write = absurd (cc e)

-- so does what it does to a zone
deed-whole : (g : GeometryFields) (h : List Place) (a : Act) (z : ℕ) (d : Deed) → length a.payload ≡ transfer_len g (command_of a) → zone_deed g h a z ≡ Some d → IsWhole g (done_by a d)
deed-whole g h a z d len e = of_cause (deed-cause g h a z d e).cause
  where
    of_cause : Cause g h a z d → IsWhole g (done_by a d)
    of_cause (by_aim aim is here same) = λ write. aim-whole g (command_of a) aim a.payload is len (ap is_write same ∙ write) ∙ ap (λ (o : Deed). blocks_of o * block_len g) same
    of_cause (by_sweep none is taken) = whole_nothing g (done_by a d) (sweep-no_write (command_of a) d is)
    of_cause (by_close is opened) = whole_nothing g (done_by a d) (ap is_write is)

-- a zone to which the act does a deed
pub cell-done : (g : GeometryFields) (acts : List Act) (a : Act) (z : ℕ) (d : Deed) → IsGeometry g → length a.payload ≡ transfer_len g (command_of a) → zone_deed g (answered g acts) a z ≡ Some d
    → after_deed g d a.payload (cell_at g (answered g acts) z) ≡ cell_at g (and_then g (answered g acts) a) z
cell-done g acts a z d is len e =
    let h = answered g acts in
    cell-follows g z (deeds h z) (done_by a d) is (admitted g h a z d e, all_admitted g acts z) (deed-whole g h a z d len e) ∙ ap (cell_of g z) (sym (deeds-done g h a z d e))

-- ---- the cells of a drive

pub cell-is_of : (g : GeometryFields) (acts : List Act) (z : ℕ) → IsGeometry g → z < g.zones → IsOf g (cell_at g (answered g acts) z)
cell-is_of g acts z is lt = cell-of_drive g z (deeds (answered g acts) z) is lt (all_admitted g acts z)
