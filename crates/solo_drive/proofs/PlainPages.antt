-- An Identify.
use Rattle.std.proofs.Common.{◌≡◌, ℕ, ◌≤◌, true, false, List, [], ◌++◌, Option, Some, None, length, drop, refl, arith}
use Rattle.std.specs.Prelude.{is_some, is_none, unwrap_or}
use Rattle.zns_types.specs.declared.fields.GeometryFields.{GeometryFields}
use Rattle.zns_types.specs.Geometry.{IsGeometry}
use Rattle.zns_types.specs.Rows.{first_holding}
use Rattle.zns_types.proofs.RowLemmas.{none_holds}
use Rattle.sqe_codec.specs.declared.cmd.Cmd.TheVariants as cmd
use Rattle.sqe_codec.specs.Commands.{cid_of, reply_len}
use Rattle.identify_zns.specs.Pages.{page_of}
use Rattle.drive_rules.specs.Tables.{is_too_long, front_rows, identify_rows}
use Rattle.zone_model.specs.declared.act.Act.{Act}
use Rattle.zone_model.specs.Places.{command_of}
use Rattle.drive_book.specs.declared.book.Book.{Book}
use Rattle.drive_book.specs.declared.outcome.Outcome.{Outcome}
use Rattle.drive_book.specs.Outcomes.{plain_success}
use Rattle.zone_cell.specs.Cells.{Cell}
use Rattle.solo_drive.specs.Parts.{PartsStand}
use Rattle.solo_drive.specs.Applying.{history_of, IsDone}
use Rattle.solo_drive.proofs.Transfers.{page-fits}
use Rattle.solo_drive.proofs.Giving.{OnlyGives, gives-done}

some_page : (o : Option (List ℕ)) → is_none o ≡ false → is_some o ≡ true
some_page None e = absurd cc
some_page (Some page) e = refl

-- there is a page, if no row of the front refuses the command
pub has-page : (g : GeometryFields) (a : Act) (nsid cns csi : ℕ) → command_of a ≡ cmd.Identify nsid cns csi → first_holding (front_rows g (command_of a)) ≡ None → is_some (page_of cns csi g) ≡ true
has-page g a nsid cns csi e passes = some_page (page_of cns csi g) (none_holds (identify_rows g nsid cns csi) (rw e at passes)).0

-- and room for it
pub page-room : (g : GeometryFields) (a : Act) (nsid cns csi room : ℕ) → command_of a ≡ cmd.Identify nsid cns csi → reply_len g (command_of a) ≤ room → 4096 ≤ room
page-room g a nsid cns csi room e le =
    let short : is_too_long g 4096 ≡ false = page-fits g in
    let asks : reply_len g (command_of a) ≡ 4096 = rw (e, short) refl in
    omega (arith, asks)

pub identify-done : (g : GeometryFields) (a : Act) (cells : List Cell) (book : Book) (nsid cns csi : ℕ) (out out' : List ℕ) (o : Outcome) → IsGeometry g → PartsStand g a cells book → command_of a ≡ cmd.Identify nsid cns csi
    → first_holding (front_rows g (command_of a)) ≡ None → length out' ≡ length out → 4096 ≤ length out → o ≡ record plain_success { len = 4096 } → out' ≡ unwrap_or (page_of cns csi g) [] ++ drop 4096 out → IsDone g a o cells cells book book out out'
identify-done g a cells book nsid cns csi out out' o valid p e passes same room is reads =
    let only : OnlyGives g (history_of g book) (cid_of a.sqe.bytes) (cmd.Identify nsid cns csi) = record { aim = refl; own = refl; sweep = refl; outcome = refl; log = refl; marks = refl } in
    gives-done g a (cmd.Identify nsid cns csi) cells book 4096 out out' o valid p e passes only same room is reads
