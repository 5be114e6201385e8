-- A Zone Management Receive on the cells of all zones.
use Rattle.std.proofs.Common.{◌≡◌, ℕ, ◌^◌, ◌<◌, ◌≤◌, Bool, false, List, ◌++◌, None, length, map, drop, refl, ap, ◌∙◌, arith, inl, inr}
use Rattle.std.specs.Prelude.{All}
use Rattle.std.proofs.lemmas.Bool.{leb-false}
use Rattle.std.proofs.lemmas.Nat.{div_below}
use Rattle.std.proofs.lemmas.Simd.{map-map}
use Rattle.zns_types.specs.declared.fields.GeometryFields.{GeometryFields}
use Rattle.zns_types.specs.Geometry.{IsGeometry, all_blocks, zone_of}
use Rattle.zns_types.specs.Rows.{first_holding}
use Rattle.zns_types.proofs.RowLemmas.{none_holds}
use Rattle.sqe_codec.specs.declared.cmd.Cmd.TheVariants as cmd
use Rattle.sqe_codec.specs.Commands.{cid_of, reply_len}
use Rattle.zone_descriptor.specs.declared.descriptor.Descriptor.{Descriptor}
use Rattle.drive_rules.specs.Tables.{is_too_long, front_rows, receive_rows}
use Rattle.drive_rules.specs.Reports.{report}
use Rattle.zone_history.specs.Histories.{attributes_of}
use Rattle.zone_cell.specs.Cells.{Cell, IsOf, descriptor_of}
use Rattle.cell_history.specs.Cells.{cell_of}
use Rattle.zone_model.specs.declared.act.Act.{Act}
use Rattle.zone_model.specs.Places.{Place, command_of}
use Rattle.zone_model.specs.Zones.{zones, descriptor}
use Rattle.zone_model.specs.Reach.{reach_of}
use Rattle.zone_model.specs.Replies.{descriptors}
use Rattle.drive_book.specs.declared.book.Book.{Book}
use Rattle.drive_book.specs.declared.outcome.Outcome.{Outcome}
use Rattle.drive_book.specs.Outcomes.{plain_success}
use Rattle.mgmt_receive.specs.Receiving.{report_of}
use Rattle.solo_drive.specs.Parts.{cells_at, zones_in, AreLent, PartsStand}
use Rattle.solo_drive.specs.Applying.{history_of, IsDone}
use Rattle.solo_drive.proofs.Asking.{each-is_of}
use Rattle.solo_drive.proofs.Lent.{IsAmong, length-among}
use Rattle.solo_drive.proofs.Transfers.{few-bytes}
use Rattle.solo_drive.proofs.Giving.{OnlyGives, gives-done}

-- ---- the lent cells are of all zones

lent-zones : (g : GeometryFields) (a : Act) (zs : List ℕ) (nsid slba bytes act filter : ℕ) (partial : Bool) → command_of a ≡ cmd.Receive nsid slba bytes act filter partial → AreLent g a zs → zs ≡ zones g
lent-zones g a zs nsid slba bytes act filter partial e (inl reached) = reached ∙ ap (reach_of g) e
lent-zones g a zs nsid slba bytes act filter partial e (inr all) = all

all-stand : (g : GeometryFields) (a : Act) (cells : List Cell) (book : Book) → PartsStand g a cells book → zones_in cells ≡ zones g → cells ≡ cells_at g (history_of g book) (zones g)
all-stand g a cells book p all = p.cells_stand ∙ ap (cells_at g (history_of g book)) all

descriptors-at : (g : GeometryFields) (h : List Place) (zs : List ℕ) → map (descriptor_of g) (cells_at g h zs) ≡ map (descriptor g h) zs
unfolding cell_of attributes_of
descriptors-at g h zs = map-map (descriptor_of g) (λ z. cell_of g z _) zs

-- ---- what a report asks for

-- The report can be made from these cells, in `bytes` bytes.
pub record CanReport (g : GeometryFields) (cells : List Cell) (slba bytes size : ℕ) : Type 0 where
  pub all : length cells ≡ g.zones
  pub of : All (IsOf g) cells
  pub within : slba < all_blocks g
  pub few : bytes < 2 ^ 32
  pub room : bytes ≤ size

pub can-report : (g : GeometryFields) (a : Act) (cells : List Cell) (book : Book) (nsid slba bytes act filter : ℕ) (partial : Bool) (size : ℕ) → IsGeometry g → PartsStand g a cells book → command_of a ≡ cmd.Receive nsid slba bytes act filter partial
    → first_holding (front_rows g (command_of a)) ≡ None → reply_len g (command_of a) ≤ size → CanReport g cells slba bytes size
can-report g a cells book nsid slba bytes act filter partial size valid p e passes le =
    let h = history_of g book in
    let (_, (too_long, (_, (_, (no_block, _))))) = none_holds (receive_rows g nsid slba bytes act filter) (rw e at passes) in
    let within : slba < all_blocks g = leb-false (all_blocks g) slba no_block in
    let short : is_too_long g bytes ≡ false = too_long in
    let asks : reply_len g (command_of a) ≡ bytes = rw (e, short) refl in
    let all = lent-zones g a (zones_in cells) nsid slba bytes act filter partial e p.lent in
    let below : zone_of g slba < g.zones = div_below slba g.zone_size g.zones valid.zones.zone_size within in
    let among : IsAmong g h cells (zone_of g slba) = record { first = 0; count = g.zones; stand = all-stand g a cells book p all; zones_are = all; within = omega arith; low = omega arith; high = omega (arith, below) } in
    record {
      all = length-among g h cells (zone_of g slba) among;
      of = each-is_of g book cells (zone_of g slba) valid among;
      within = within;
      few = few-bytes g bytes valid short;
      room = omega (arith, asks);
    }

-- ---- what becomes of it

pub receive-done : (g : GeometryFields) (a : Act) (cells : List Cell) (book : Book) (nsid slba bytes act filter : ℕ) (partial : Bool) (out out' : List ℕ) (o : Outcome) → IsGeometry g → PartsStand g a cells book
    → command_of a ≡ cmd.Receive nsid slba bytes act filter partial → first_holding (front_rows g (command_of a)) ≡ None → length out' ≡ length out → bytes ≤ length out → o ≡ record plain_success { len = bytes }
    → out' ≡ report_of g cells slba bytes filter partial ++ drop bytes out → IsDone g a o cells cells book book out out'
receive-done g a cells book nsid slba bytes act filter partial out out' o valid p e passes same room is reads =
    let h = history_of g book in
    let k = cmd.Receive nsid slba bytes act filter partial in
    let all = lent-zones g a (zones_in cells) nsid slba bytes act filter partial e p.lent in
    let shown : map (descriptor_of g) cells ≡ descriptors g h = ap (map (descriptor_of g)) (all-stand g a cells book p all) ∙ descriptors-at g h (zones g) in
    let only : OnlyGives g h (cid_of a.sqe.bytes) k = record { aim = refl; own = refl; sweep = refl; outcome = refl; log = refl; marks = refl } in
    gives-done g a k cells book bytes out out' o valid p e passes only same room is (reads ∙ ap (λ (ds : List Descriptor). report bytes filter partial (drop (zone_of g slba) ds) ++ drop bytes out) shown)
