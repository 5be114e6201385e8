-- A Send to all zones that no row of its front refuses: its command, and the cells and counts that it finds.
use Rattle.std.proofs.Common.{◌≡◌, ℕ, ◌+◌, ◌<◌, Bool, true, false, cond, List, [], ◌∷◌, Option, Some, None, length, map, get_or, refl, sym, ap, ◌∙◌, subst, arith, inl, inr}
use Rattle.std.specs.Prelude.{◌==◌, ◌&&◌, IsTrue, All}
use Rattle.std.specs.List.{count_by}
use Rattle.std.proofs.lemmas.Bool.{or_parts, eqb-true}
use Rattle.std.proofs.lemmas.List.Sums.{sum_by-cons}
use Rattle.std.proofs.lemmas.List.FromFn.{length-map-range_with_len, get_or-map-range_with_len}
use Rattle.zns_types.specs.declared.fields.GeometryFields.{GeometryFields}
use Rattle.zns_types.specs.Geometry.{IsGeometry}
use Rattle.zns_types.specs.States.{is_closed}
use Rattle.zns_types.specs.Rows.{first_holding}
use Rattle.sqe_codec.specs.declared.cmd.Cmd.{Cmd}
use Rattle.sqe_codec.specs.declared.cmd.Cmd.TheVariants as cmd
use Rattle.sqe_codec.specs.Commands.{transfer_len}
use Rattle.zone_limits.specs.declared.limits.Limits.{Limits}
use Rattle.zone_limits.specs.Resources.{AreWithin}
use Rattle.drive_rules.specs.declared.deed.Deed.{Deed}
use Rattle.drive_rules.specs.declared.deed.Deed.TheVariants as deed
use Rattle.drive_rules.specs.Aims.{open_code, commit_code, sent_deed, aim_of, sweep_of}
use Rattle.drive_rules.specs.Tables.{front_rows, send_all_rows}
use Rattle.zone_cell.specs.Cells.{Cell, IsOf}
use Rattle.zone_room.specs.Rooms.{cell_use}
use Rattle.mgmt_send.specs.Sweeping.{counts_in, AreAllZones, goes_to_all, closed_in, sweep_rows}
use Rattle.cell_history.specs.Cells.{cell_of}
use Rattle.zone_model.specs.declared.act.Act.{Act}
use Rattle.zone_model.specs.Places.{Place}
use Rattle.zone_model.specs.Zones.{zones, counted, counts, closed_zones}
use Rattle.zone_model.specs.Notices.{changed}
use Rattle.zone_model.specs.Answers.{own_rows, answered}
use Rattle.zone_model.specs.Reach.{reach_of, reach}
use Rattle.zone_model.specs.Replies.{read_by}
use Rattle.zone_model.proofs.Fronts.{send_front-passes}
use Rattle.zone_model.proofs.Limits.{within_limits}
use Rattle.drive_book.specs.declared.book.Book.{Book}
use Rattle.drive_book.specs.Books.{marks_of}
use Rattle.drive_book.specs.Outcomes.{plain_success}
use Rattle.drive_book.proofs.Logs.{log_by}
use Rattle.drive_book.proofs.Marks.{marks_by}
use Rattle.drive_book.proofs.Outcomes.{outcome_by}
use Rattle.solo_drive.specs.Parts.{cell_at, cells_at, zones_in, AreLent, PartsStand}
use Rattle.solo_drive.specs.Applying.{history_of}
use Rattle.solo_drive.proofs.Cells.{cell-is_of}

-- ---- the deed

-- a code asks for a deed that goes to all zones, and the rows that refuse it are those of a Send with the code
record IsCodeOf (code : ℕ) (d : Deed) : Type 0 where
  goes : IsTrue (goes_to_all d)
  rows : (g : GeometryFields) (cells : List Cell) (n : Limits) → send_all_rows g n (closed_in cells) true code ≡ sweep_rows g cells n d

code_of : (code option_code : ℕ) (d : Deed) → (code == option_code) ≡ true → IsCodeOf option_code d → IsCodeOf code d
code_of code option_code d e is = subst (λ (k : ℕ). IsCodeOf k d) (sym (eqb-true code option_code e)) is

open_without : (option : Bool) → option ≡ false → IsCodeOf open_code (deed.Open option)
open_without true none = absurd (cc none)
open_without false none = record { goes = refl; rows = λ g cells n. refl }

code-sent : (code : ℕ) (option : Bool) (d : Deed) → (code == commit_code) ≡ false → ((code == open_code) ≡ true → option ≡ false) → sent_deed code option 0 ≡ Some d → IsCodeOf code d
code-sent code option d no_commit no_window =
    either (code == 0x01) deed.Close _ (λ is. code_of code 0x01 deed.Close is (record { goes = refl; rows = λ g cells n. refl }))
    (either (code == 0x02) deed.Finish _ (λ is. code_of code 0x02 deed.Finish is (record { goes = refl; rows = λ g cells n. refl }))
    (either (code == open_code) (deed.Open option) _ (λ is. code_of code open_code (deed.Open option) is (open_without option (no_window is)))
    (either (code == 0x04) deed.Reset _ (λ is. code_of code 0x04 deed.Reset is (record { goes = refl; rows = λ g cells n. refl }))
    (either (code == 0x05) deed.Offline _ (λ is. code_of code 0x05 deed.Offline is (record { goes = refl; rows = λ g cells n. refl }))
    (either (code == commit_code) (deed.Commit 0) _ (λ is. absurd (cc (is, no_commit))) (λ e. absurd (cc e)))))))
  where
    either : (b : Bool) (x : Deed) (rest : Option Deed) → (b ≡ true → IsCodeOf code x) → (rest ≡ Some d → IsCodeOf code d) → cond b (Some x) rest ≡ Some d → IsCodeOf code d
    either true x rest first others e = let same : x ≡ d = cc in subst (IsCodeOf code) same (first refl)
    either false x rest first others e = others e

-- ---- the command

-- what a command is that asks for a deed to all zones
pub record IsSweep (g : GeometryFields) (h : List Place) (cid : ℕ) (k : Cmd) (d : Deed) : Type 0 where
  pub goes : IsTrue (goes_to_all d)
  pub aim : aim_of g k ≡ None
  pub reach : reach_of g k ≡ zones g
  pub rows : (cells : List Cell) → closed_in cells ≡ closed_zones g h → own_rows g h k ≡ sweep_rows g cells (counts g h) d
  pub len : transfer_len g k ≡ 0
  pub outcome : outcome_by g h cid k ≡ plain_success
  pub reads : read_by g h k ≡ []
  pub log : log_by g k (changed g h) ≡ changed g h
  pub marks : marks_by cid k (marks_of h) ≡ marks_of h

pub sweep-of : (g : GeometryFields) (h : List Place) (cid : ℕ) (k : Cmd) (d : Deed) → first_holding (front_rows g k) ≡ None → sweep_of k ≡ Some d → IsSweep g h cid k d
sweep-of g h cid (cmd.Send nsid slba act true option) d passes e =
    let parts = or_parts (act == commit_code) ((act == open_code) && option) (send_front-passes g nsid slba act true option passes).not_for_all in
    let code = code-sent act option d parts.0 (λ is. rw is at parts.1) e in
    record {
      goes = code.goes;
      aim = refl;
      reach = refl;
      rows = λ cells closed. ap (λ (n : ℕ). send_all_rows g (counts g h) n true act) (sym closed) ∙ code.rows g cells (counts g h);
      len = refl;
      outcome = refl;
      reads = refl;
      log = refl;
      marks = refl;
    }
sweep-of g h cid (cmd.Send nsid slba act false option) d passes e = absurd (cc e)
sweep-of g h cid _ d passes e = absurd (cc e)

-- ---- the cells of all zones

-- a count of cells is a count of their zones
count-map : (p : Cell → Bool) (f : ℕ → Cell) (zs : List ℕ) → count_by p (map f zs) ≡ count_by (λ z. p (f z)) zs
count-map p f [] = refl
count-map p f (z ∷ zs) = sum_by-cons (λ c. cond (p c) 1 0) (f z) (map f zs) ∙ ap (λ (n : ℕ). cond (p (f z)) 1 0 + n) (count-map p f zs) ∙ sym (sum_by-cons (λ x. cond (p (f x)) 1 0) z zs)

pub counts-cells : (g : GeometryFields) (h : List Place) → counts_in (cells_at g h (zones g)) ≡ counts g h
unfolding counted cell_of
counts-cells g h = rw (
  count-map (λ c. (cell_use c).active) (cell_at g h) (zones g),
  count-map (λ c. (cell_use c).opened) (cell_at g h) (zones g),
  count-map (λ c. (cell_use c).window) (cell_at g h) (zones g),
) refl

pub closed-cells : (g : GeometryFields) (h : List Place) → closed_in (cells_at g h (zones g)) ≡ closed_zones g h
unfolding closed_zones cell_of
closed-cells g h = count-map (λ c. is_closed c.state) (cell_at g h) (zones g)

-- they are lent
pub record AreAllLent (g : GeometryFields) (h : List Place) (cells : List Cell) : Type 0 where
  pub zones_are : zones_in cells ≡ zones g
  pub stand : cells ≡ cells_at g h (zones g)

pub all-lent : (g : GeometryFields) (a : Act) (cells : List Cell) (book : Book) → PartsStand g a cells book → reach g a ≡ zones g → AreAllLent g (history_of g book) cells
all-lent g a cells book p is =
    let zones_are = by_lent p.lent in
    record { zones_are = zones_are; stand = p.cells_stand ∙ ap (cells_at g (history_of g book)) zones_are }
  where
    by_lent : AreLent g a (zones_in cells) → zones_in cells ≡ zones g
    by_lent (inl reached) = reached ∙ is
    by_lent (inr all) = all

each-is_of : (g : GeometryFields) (acts : List Act) (cells : List Cell) → IsGeometry g → AreAllLent g (answered g acts) cells → All (IsOf g) cells
each-is_of g acts cells valid l k d lt =
    let h = answered g acts in
    let below : k < g.zones = omega (arith, lt, ap length l.stand, length-map-range_with_len (cell_at g h) 0 g.zones) in
    let there : get_or cells k d ≡ cell_at g h k = ap (λ (cs : List Cell). get_or cs k d) l.stand ∙ get_or-map-range_with_len (cell_at g h) 0 g.zones k k d below (omega arith) in
    subst (IsOf g) (sym there) (cell-is_of g acts k valid below)

pub all-zones : (g : GeometryFields) (a : Act) (cells : List Cell) (book : Book) → IsGeometry g → PartsStand g a cells book → AreAllLent g (history_of g book) cells → AreAllZones g cells book.limits
all-zones g a cells book valid p l =
    let h = history_of g book in
    let counted : book.limits ≡ counts g h = ap (λ (b : Book). b.limits) p.book_stands in
    record {
      zones = ap length l.stand ∙ length-map-range_with_len (cell_at g h) 0 g.zones;
      of = each-is_of g book.journal.acts cells valid l;
      counts = counted ∙ sym (counts-cells g h) ∙ ap counts_in (sym l.stand);
      within = subst (AreWithin g) (sym counted) (within_limits g valid book.journal.acts);
    }
