-- The effect of a Send to all zones on the book and on the cells of all zones.
use Rattle.std.proofs.Common.{◌≡◌, ℕ, Bool, true, false, cond, List, [], ◌∷◌, Option, Some, None, length, map, refl, sym, ap, ◌∙◌, subst, inl, inr}
use Rattle.std.specs.Prelude.{unwrap_or}
use Rattle.std.proofs.Math.Path.{transport}
use Rattle.std.proofs.lemmas.Bool.{cases_Bool}
use Rattle.std.proofs.lemmas.Simd.{map-map}
use Rattle.zns_types.specs.declared.fields.GeometryFields.{GeometryFields}
use Rattle.zns_types.specs.Geometry.{IsGeometry}
use Rattle.zns_types.specs.Statuses.{Status, success, is_success, too_many_open_zones}
use Rattle.zns_types.specs.Rows.{Row, first_holding}
use Rattle.sqe_codec.specs.Commands.{cid_of, transfer_len}
use Rattle.zone_limits.specs.declared.limits.Limits.{Limits}
use Rattle.drive_rules.specs.declared.deed.Deed.{Deed}
use Rattle.drive_rules.specs.declared.deed.Deed.TheVariants as deed
use Rattle.drive_rules.specs.Aims.{aim_of, sweep_of}
use Rattle.drive_rules.specs.Deeds.{takes_all}
use Rattle.drive_rules.specs.Tables.{front_rows}
use Rattle.zone_cell.specs.Cells.{Cell}
use Rattle.zone_cell.specs.Deeds.{after_deed}
use Rattle.mgmt_send.specs.Sweeping.{counts_in, AreAllZones, closed_in, sweep_refusal, swept_cell}
use Rattle.cell_history.specs.Cells.{cell_of}
use Rattle.zone_model.specs.declared.act.Act.{Act}
use Rattle.zone_model.specs.Places.{Place, command_of}
use Rattle.zone_model.specs.Zones.{state, zones, counts}
use Rattle.zone_model.specs.Answers.{status, swept, or_close, zone_deed, and_then, answered}
use Rattle.zone_model.specs.Replies.{reply_bytes}
use Rattle.zone_model.proofs.Deeds.{deed-success}
use Rattle.zone_model.proofs.LocalFacts.{none_gives_way}
use Rattle.drive_book.specs.declared.book.Book.{Book}
use Rattle.drive_book.specs.declared.outcome.Outcome.{Outcome}
use Rattle.drive_book.specs.Outcomes.{OutcomeStands, refusal_with, plain_success}
use Rattle.drive_book.proofs.Done as done
use Rattle.drive_book.proofs.Logs.{changed-step}
use Rattle.drive_book.proofs.Marks.{has_asked, marks-step}
use Rattle.drive_book.proofs.Outcomes.{done-stands}
use Rattle.solo_drive.specs.Parts.{cell_at, cells_at, PartsStand}
use Rattle.solo_drive.specs.Applying.{history_of, IsDone}
use Rattle.solo_drive.specs.Sweeping.{SweepServed}
use Rattle.solo_drive.proofs.Cells.{cell-idle, cell-done}
use Rattle.solo_drive.proofs.Told.{refused-done}
use Rattle.solo_drive.proofs.Plain.{plain-wants, plain-status}
use Rattle.solo_drive.proofs.AllZones.{IsSweep, sweep-of, AreAllLent, all-lent, all-zones, counts-cells, closed-cells}

-- ---- what is known of the act

-- an act that asks for a deed to all zones and that no row of its front refuses, and the cells that are lent for it
pub record Sweeps (g : GeometryFields) (a : Act) (d : Deed) (cells : List Cell) (book : Book) : Type 0 where
  pub valid : IsGeometry g
  pub parts : PartsStand g a cells book
  pub passes : first_holding (front_rows g (command_of a)) ≡ None
  pub asks : sweep_of (command_of a) ≡ Some d
  pub command : IsSweep g (history_of g book) (cid_of a.sqe.bytes) (command_of a) d
  pub lent : AreAllLent g (history_of g book) cells
  pub all : AreAllZones g cells book.limits

pub sweeps-of : (g : GeometryFields) (a : Act) (d : Deed) (cells : List Cell) (book : Book) → IsGeometry g → PartsStand g a cells book → first_holding (front_rows g (command_of a)) ≡ None → sweep_of (command_of a) ≡ Some d → Sweeps g a d cells book
sweeps-of g a d cells book valid p passes asks =
    let command = sweep-of g (history_of g book) (cid_of a.sqe.bytes) (command_of a) d passes asks in
    let lent = all-lent g a cells book p command.reach in
    record { valid = valid; parts = p; passes = passes; asks = asks; command = command; lent = lent; all = all-zones g a cells book valid p lent }

-- ---- its status

counts-are : (g : GeometryFields) (a : Act) (d : Deed) (cells : List Cell) (book : Book) → Sweeps g a d cells book → book.limits ≡ counts g (history_of g book)
counts-are g a d cells book k = ap (λ (b : Book). b.limits) k.parts.book_stands

status-sweep : (g : GeometryFields) (a : Act) (d : Deed) (cells : List Cell) (book : Book) → Sweeps g a d cells book → status g (history_of g book) a ≡ unwrap_or (sweep_refusal g cells book.limits d) success
status-sweep g a d cells book k =
    let h = history_of g book in
    let closed = ap closed_in k.lent.stand ∙ closed-cells g h in
    plain-status g h a k.command.aim k.passes ∙ ap (λ (rows : List (Row Status)). unwrap_or (first_holding rows) success) (k.command.rows cells closed)
    ∙ ap (λ (n : Limits). unwrap_or (sweep_refusal g cells n d) success) (sym (counts-are g a d cells book k))

-- a refusing status isn't success
row-fails : (b : Bool) (code : Status) → cond b (Some too_many_open_zones) None ≡ Some code → is_success code ≡ false
row-fails true code e = let same : too_many_open_zones ≡ code = cc in ap is_success (sym same)
row-fails false code e = absurd (cc e)

refusal-fails : (g : GeometryFields) (cells : List Cell) (n : Limits) (d : Deed) (code : Status) → sweep_refusal g cells n d ≡ Some code → is_success code ≡ false
refusal-fails g cells n (deed.Open window) code e = row-fails _ code e
refusal-fails g cells n _ code e = absurd (cc e)

-- ---- refused

sweep-refused : (g : GeometryFields) (a : Act) (d : Deed) (cells cells' : List Cell) (book book' : Book) (out : List ℕ) (o : Outcome) (code : Status) → Sweeps g a d cells book → SweepServed g d cells cells' book book' o
    → sweep_refusal g cells book.limits d ≡ Some code → IsDone g a o cells cells' book book' out out
sweep-refused g a d cells cells' book book' out o code k s e =
    let is : status g (history_of g book) a ≡ code = status-sweep g a d cells book k ∙ ap (λ (r : Option Status). unwrap_or r success) e in
    let outcome : o ≡ refusal_with code = s.outcome ∙ ap (λ (r : Option Status). refusal_with (unwrap_or r success)) e in
    let same_cells : cells' ≡ cells = s.zones ∙ rw e refl in
    let same_book : book' ≡ book = s.kept ∙ ap (λ (cs : List Cell). record book { limits = counts_in cs }) same_cells ∙ ap (λ (n : Limits). record book { limits = n }) (sym k.all.counts) in
    let served = refused-done g a code cells book out k.valid k.parts is (refusal-fails g cells book.limits d code e) (inr (plain-wants g (history_of g book) a k.command.aim)) in
    transport (λ i. IsDone g a (sym outcome i) cells (sym same_cells i) book (sym same_book i) out out) served

-- ---- done

-- it does its deed to a zone if the zone's state allows it
deed-swept : (g : GeometryFields) (h : List Place) (a : Act) (d : Deed) (z : ℕ) → is_success (status g h a) ≡ true → aim_of g (command_of a) ≡ None → sweep_of (command_of a) ≡ Some d → zone_deed g h a z ≡ swept (Some d) (state g h z)
deed-swept g h a d z ok aim asks =
    let alone = none_gives_way g h a (plain-wants g h a aim) in
    deed-success g h a z ok ∙ rw (aim, asks, alone.evicted) (no_close (swept (Some d) (state g h z)))
  where
    no_close : (o : Option Deed) → or_close o false ≡ o
    no_close None = refl
    no_close (Some x) = refl

no_payload : (xs : List ℕ) → length xs ≡ 0 → xs ≡ []
no_payload [] e = refl
no_payload (x ∷ xs) e = absurd (cc e)

cell-swept : (g : GeometryFields) (acts : List Act) (a : Act) (d : Deed) (z : ℕ) → IsGeometry g → length a.payload ≡ transfer_len g (command_of a) → transfer_len g (command_of a) ≡ 0 → ((y : ℕ) → zone_deed g (answered g acts) a y ≡ swept (Some d) (state g (answered g acts) y))
    → swept_cell g d (cell_at g (answered g acts) z) ≡ cell_at g (and_then g (answered g acts) a) z
unfolding cell_of
cell-swept g acts a d z valid len none deeds = elim (cases_Bool (takes_all d (state g h z))) [
  | inl takes ↦
      let deed : zone_deed g h a z ≡ Some d = deeds z ∙ rw takes refl in
      let nothing : [] ≡ a.payload = sym (no_payload a.payload (len ∙ none)) in
      rw takes (ap (λ (bytes : List ℕ). after_deed g d bytes (cell_at g h z)) nothing ∙ cell-done g acts a z d valid len deed)
  | inr stays ↦
      let deed : zone_deed g h a z ≡ None = deeds z ∙ rw stays refl in
      rw stays (sym (cell-idle g h a z deed))
]
  where
    h : List Place
    h = answered g acts

-- the cells, and the counts that follow from them
cells-swept : (g : GeometryFields) (a : Act) (d : Deed) (cells : List Cell) (book : Book) → Sweeps g a d cells book → length a.payload ≡ transfer_len g (command_of a) → is_success (status g (history_of g book) a) ≡ true
    → map (swept_cell g d) cells ≡ cells_at g (and_then g (history_of g book) a) (zones g)
cells-swept g a d cells book k len ok =
    let h = history_of g book in
    let each : (z : ℕ) → swept_cell g d (cell_at g h z) ≡ cell_at g (and_then g h a) z =
    λ z. cell-swept g book.journal.acts a d z k.valid len k.command.len (λ y. deed-swept g h a d y ok k.command.aim k.asks) in
    ap (map (swept_cell g d)) k.lent.stand ∙ map-map (swept_cell g d) (cell_at g h) (zones g) ∙ ap (λ (f : ℕ → Cell). map f (zones g)) (λ i z. each z i)

sweep-done_to_all : (g : GeometryFields) (a : Act) (d : Deed) (cells cells' : List Cell) (book book' : Book) (out : List ℕ) (o : Outcome) → Sweeps g a d cells book → length a.payload ≡ transfer_len g (command_of a) → SweepServed g d cells cells' book book' o
    → sweep_refusal g cells book.limits d ≡ None → IsDone g a o cells cells' book book' out out
unfolding reply_bytes
sweep-done_to_all g a d cells cells' book book' out o k len s e =
    let h = history_of g book in
    let h' = and_then g h a in
    let ok : is_success (status g h a) ≡ true = ap is_success (status-sweep g a d cells book k ∙ ap (λ (r : Option Status). unwrap_or r success) e) in
    let is : o ≡ plain_success = s.outcome ∙ ap (λ (r : Option Status). refusal_with (unwrap_or r success)) e in
    let new : cells' ≡ cells_at g h' (zones g) = s.zones ∙ rw e refl ∙ cells-swept g a d cells book k len ok in
    let command : done.IsDone g h a (command_of a) = record { success = ok; command = refl } in
    record {
      outcome = subst (OutcomeStands g h a) (k.command.outcome ∙ sym is) (done-stands g h a (command_of a) command);
      zones = new ∙ ap (cells_at g h') (sym k.lent.zones_are);
      limits = ap (λ (b : Book). b.limits) s.kept ∙ ap counts_in new ∙ counts-cells g h';
      log = ap (λ (b : Book). b.log) s.kept ∙ ap (λ (b : Book). b.log) k.parts.book_stands ∙ sym (changed-step g h a k.valid ∙ rw ok k.command.log);
      events = ap (λ (b : Book). b.events) s.kept ∙ ap (λ (b : Book). b.events) k.parts.book_stands ∙ sym (marks-step g h a (has_asked g book.journal.acts) ∙ rw ok k.command.marks);
      tallies = ap (λ (b : Book). b.tallies) s.kept;
      journal = ap (λ (b : Book). b.journal) s.kept;
      read = rw (ok, k.command.reads, is) refl;
      wide = inr (plain-wants g h a k.command.aim);
    }

-- ---- what becomes of it

pub sweep-done : (g : GeometryFields) (a : Act) (d : Deed) (cells cells' : List Cell) (book book' : Book) (out : List ℕ) (o : Outcome) → Sweeps g a d cells book → length a.payload ≡ transfer_len g (command_of a) → SweepServed g d cells cells' book book' o
    → IsDone g a o cells cells' book book' out out
sweep-done g a d cells cells' book book' out o k len s = by_refusal (sweep_refusal g cells book.limits d) refl
  where
    by_refusal : (r : Option Status) → sweep_refusal g cells book.limits d ≡ r → IsDone g a o cells cells' book book' out out
    by_refusal (Some code) e = sweep-refused g a d cells cells' book book' out o code k s e
    by_refusal None e = sweep-done_to_all g a d cells cells' book book' out o k len s e
