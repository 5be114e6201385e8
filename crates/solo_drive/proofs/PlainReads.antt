-- A Read from lent cells.
use Rattle.std.proofs.Common.{◌≡◌, ℕ, ◌+◌, ◌-◌, ◌*◌, ◌<◌, ◌≤◌, Bool, true, false, cond, List, ◌++◌, Some, None, length, drop, refl, sym, ap, ◌∙◌, subst, arith, inl, inr, length-append}
use Rattle.std.specs.Prelude.{unwrap_or}
use Rattle.std.specs.List.{list_any, range_with_len}
use Rattle.std.proofs.lemmas.Bool.{cases_Bool, le-leb}
use Rattle.std.proofs.lemmas.List.{length-drop}
use Rattle.std.proofs.lemmas.Nat.{div_below}
use Rattle.zns_types.specs.declared.fields.GeometryFields.{GeometryFields}
use Rattle.zns_types.specs.Geometry.{IsGeometry, block_len, all_blocks, zone_of}
use Rattle.zns_types.specs.Statuses.{Status, success, is_success, zone_offline}
use Rattle.zns_types.specs.States.{is_offline}
use Rattle.zns_types.specs.Rows.{Row, first_holding}
use Rattle.zns_types.proofs.RowLemmas.{none_holds}
use Rattle.sqe_codec.specs.declared.cmd.Cmd.TheVariants as cmd
use Rattle.sqe_codec.specs.Commands.{reply_len}
use Rattle.drive_rules.specs.Aims.{aim_of}
use Rattle.drive_rules.specs.Tables.{is_too_long, front_rows, read_front, read_rows, zones_between, last_zone}
use Rattle.zone_model.specs.declared.act.Act.{Act}
use Rattle.zone_model.specs.Places.{Place, command_of}
use Rattle.zone_model.specs.Zones.{state}
use Rattle.zone_model.specs.Answers.{status, own_rows}
use Rattle.zone_model.specs.Reach.{reach_of}
use Rattle.zone_model.specs.Replies.{reply_bytes, blocks_read}
use Rattle.zone_model.proofs.Fronts.{read_front-within}
use Rattle.zone_model.proofs.Sends.{HasBlocks, some_blocks}
use Rattle.drive_book.specs.declared.book.Book.{Book}
use Rattle.drive_book.specs.declared.outcome.Outcome.{Outcome}
use Rattle.drive_book.specs.Outcomes.{OutcomeStands, refusal_with, plain_success}
use Rattle.drive_book.proofs.Done as done
use Rattle.drive_book.proofs.Logs.{changed-step}
use Rattle.drive_book.proofs.Marks.{has_asked, marks-step}
use Rattle.drive_book.proofs.Outcomes.{done-stands}
use Rattle.zone_cell.specs.Cells.{Cell}
use Rattle.solo_drive.specs.Parts.{cells_at, zones_in, CellsStand, AreLent, PartsStand}
use Rattle.solo_drive.specs.Reading.{blocks_from, CellsReach, ReadServed}
use Rattle.solo_drive.specs.Applying.{history_of, IsDone}
use Rattle.solo_drive.proofs.Lent.{IsAmong, length-among}
use Rattle.solo_drive.proofs.LentReads.{AreLentFor, zone-between, reads-of}
use Rattle.solo_drive.proofs.Told.{IsSilent, silent-done, refused-done}
use Rattle.solo_drive.proofs.Plain.{plain-wants, plain-idle, plain-status}

-- the lent cells include all zones of a Read that no row of its front refuses
pub record IsLentRead (g : GeometryFields) (h : List Place) (cells : List Cell) (slba blocks : ℕ) : Type 0 where
  pub among : IsAmong g h cells (zone_of g slba)
  pub some : 1 ≤ blocks
  pub within : slba + blocks ≤ all_blocks g
  pub order : zone_of g slba ≤ last_zone g slba blocks
  pub to : last_zone g slba blocks < among.first + among.count

pub lent-read : (g : GeometryFields) (a : Act) (cells : List Cell) (book : Book) (nsid slba blocks : ℕ) → IsGeometry g → PartsStand g a cells book → command_of a ≡ cmd.Read nsid slba blocks → first_holding (front_rows g (command_of a)) ≡ None
    → IsLentRead g (history_of g book) cells slba blocks
lent-read g a cells book nsid slba blocks valid p e none =
    let h = history_of g book in
    let has : HasBlocks (cmd.Read nsid slba blocks) = subst HasBlocks e (some_blocks a) in
    let within : slba + blocks ≤ all_blocks g = read_front-within g nsid slba blocks (rw e at none) in
    let order : zone_of g slba ≤ last_zone g slba blocks = (zone-between g slba blocks slba valid (omega arith) (omega (arith, has.some))).to in
    let below : last_zone g slba blocks < g.zones = div_below (slba + blocks - 1) g.zone_size g.zones valid.zones.zone_size (omega (arith, within, has.some)) in
    by_lent h has.some within order below p.cells_stand p.lent
  where
    by_lent : (h : List Place) → 1 ≤ blocks → slba + blocks ≤ all_blocks g → zone_of g slba ≤ last_zone g slba blocks → last_zone g slba blocks < g.zones → CellsStand g h cells → AreLent g a (zones_in cells) → IsLentRead g h cells slba blocks
    by_lent h some within order below stand (inl reached) =
        let zones_are : zones_in cells ≡ range_with_len (zone_of g slba) (last_zone g slba blocks + 1 - zone_of g slba) = reached ∙ ap (reach_of g) e ∙ rw (le-leb (slba + blocks) (all_blocks g) within) refl in
        record {
          among = record { first = zone_of g slba; count = last_zone g slba blocks + 1 - zone_of g slba; stand = stand ∙ ap (cells_at g h) zones_are; zones_are = zones_are; within = omega arith; low = omega arith; high = omega arith };
          some = some;
          within = within;
          order = order;
          to = omega arith;
        }
    by_lent h some within order below stand (inr all) = record {
      among = record { first = 0; count = g.zones; stand = stand ∙ ap (cells_at g h) all; zones_are = all; within = omega arith; low = omega arith; high = omega arith };
      some = some;
      within = within;
      order = order;
      to = omega arith;
    }

pub cells-reach : (g : GeometryFields) (h : List Place) (cells : List Cell) (slba blocks n : ℕ) (l : IsLentRead g h cells slba blocks) → n ≡ l.among.first → CellsReach g n cells slba blocks
cells-reach g h cells slba blocks n l e = record { from = omega (arith, e, l.among.low); to = omega (arith, e, l.to, length-among g h cells (zone_of g slba) l.among); order = l.order }

-- there is room for its blocks
pub read-room : (g : GeometryFields) (a : Act) (nsid slba blocks room : ℕ) → command_of a ≡ cmd.Read nsid slba blocks → first_holding (front_rows g (command_of a)) ≡ None → reply_len g (command_of a) ≤ room → blocks * block_len g ≤ room
read-room g a nsid slba blocks room e none le =
    let short : is_too_long g (blocks * block_len g) ≡ false = (none_holds (read_front g nsid slba blocks) (rw e at none)).1.0 in
    let asks : reply_len g (command_of a) ≡ blocks * block_len g = rw (e, short) refl in
    omega (arith, asks)

-- ---- what becomes of it

-- the bytes that were read
pub read-len : (front old new : List ℕ) (n : ℕ) → new ≡ front ++ drop n old → length new ≡ length old → n ≤ length old → length front ≡ n
read-len front old new n is same within = omega (arith, ap length is ∙ length-append front (drop n old), length-drop n old)

own-read : (g : GeometryFields) (h : List Place) (a : Act) (nsid slba blocks : ℕ) → command_of a ≡ cmd.Read nsid slba blocks → own_rows g h (command_of a) ≡ read_rows g (state g h) slba blocks
own-read g h a nsid slba blocks e = rw e refl

pub lent-read-done : (g : GeometryFields) (a : Act) (cells : List Cell) (book : Book) (nsid slba blocks n : ℕ) (out out' : List ℕ) (o : Outcome) → IsGeometry g → PartsStand g a cells book → command_of a ≡ cmd.Read nsid slba blocks
    → first_holding (front_rows g (command_of a)) ≡ None → aim_of g (command_of a) ≡ None → (l : IsLentRead g (history_of g book) cells slba blocks) → n ≡ l.among.first → length out' ≡ length out → blocks * block_len g ≤ length out
    → ReadServed g n cells slba blocks out out' o → IsDone g a o cells cells book book out out'
unfolding reply_bytes
lent-read-done g a cells book nsid slba blocks n out out' o valid p e none plain l first same room served =
    let h = history_of g book in
    let acts = book.journal.acts in
    let lent : AreLentFor g acts n l.among.count cells slba blocks = record {
      geometry = valid;
      lent = l.among.stand ∙ ap (λ (k : ℕ). cells_at g h (range_with_len k l.among.count)) (sym first);
      from = omega (arith, first, l.among.low);
      to = omega (arith, first, l.to);
    } in
    let reads = reads-of g acts n l.among.count cells slba blocks lent in
    let any = list_any (λ z. is_offline (state g h z)) (zones_between (zone_of g slba) (last_zone g slba blocks)) in
    let status_is : status g h a ≡ unwrap_or (cond any (Some zone_offline) None) success =
    plain-status g h a plain none ∙ ap (λ (rows : List (Row Status)). unwrap_or (first_holding rows) success) (own-read g h a nsid slba blocks e) in
    elim (cases_Bool any) [
      | inl offline ↦ (
          let was = served.refused (reads.offline ∙ offline) in
          let is : status g h a ≡ zone_offline = status_is ∙ ap (λ (b : Bool). unwrap_or (cond b (Some zone_offline) None) success) offline in
          let d = refused-done g a zone_offline cells book out valid p is refl (inr (plain-wants g h a plain)) in
          subst (λ (x : Outcome). IsDone g a x cells cells book book out out') (sym was.0) (subst (λ (x : List ℕ). IsDone g a (refusal_with zone_offline) cells cells book book out x) (sym was.1) d)
          )
      | inr online ↦ (
          let was = served.done (reads.offline ∙ online) in
          let ok : is_success (status g h a) ≡ true = ap is_success (status_is ∙ ap (λ (b : Bool). unwrap_or (cond b (Some zone_offline) None) success) online) in
          let d : done.IsDone g h a (cmd.Read nsid slba blocks) = record { success = ok; command = e } in
          let silent : IsSilent g h a = record {
            idle = λ z. plain-idle g h a z plain (rw e refl);
            changed = changed-step g h a valid ∙ rw (ok, e) refl;
            marks = marks-step g h a (has_asked g acts) ∙ rw (ok, e) refl;
          } in
          let len : length (blocks_read g h slba blocks) ≡ blocks * block_len g = ap length (sym reads.bytes) ∙ read-len (blocks_from g n cells slba blocks) out out' (blocks * block_len g) was.1 same room in
          let is : record plain_success { len = length (blocks_read g h slba blocks) } ≡ o = ap (λ (m : ℕ). record plain_success { len = m }) len ∙ sym was.0 in
          let stands : OutcomeStands g h a o = subst (OutcomeStands g h a) is (done-stands g h a (cmd.Read nsid slba blocks) d) in
          let read : out' ≡ reply_bytes g h a ++ drop o.len out =
          was.1 ∙ ap (λ (front : List ℕ). front ++ drop (blocks * block_len g) out) reads.bytes ∙ rw (ok, e, was.0) refl in
          silent-done g a o cells book out out' p silent stands read (inr (plain-wants g h a plain))
          )
    ]
