-- What the parts of a drive provide for serving an act on them.
use Rattle.std.proofs.Common.{◌≡◌, ℕ, ◌+◌, ◌-◌, ◌*◌, ◌<◌, ◌≤◌, Bool, true, List, Some, None, length, get_or, refl, sym, ap, ◌∙◌, subst, arith}
use Rattle.std.specs.Prelude.{◌==◌, All}
use Rattle.std.proofs.Math.Path.{transport}
use Rattle.std.proofs.lemmas.List.FromFn.{get_or-map-range_with_len}
use Rattle.zns_types.specs.declared.fields.GeometryFields.{GeometryFields}
use Rattle.zns_types.specs.Geometry.{IsGeometry, block_len}
use Rattle.zns_types.specs.Statuses.{Status, is_success}
use Rattle.zns_types.specs.Rows.{first_holding}
use Rattle.sqe_codec.specs.Commands.{transfer_len}
use Rattle.zone_limits.specs.declared.limits.Limits.{Limits}
use Rattle.drive_rules.specs.declared.deed.Deed.{Deed}
use Rattle.drive_rules.specs.declared.deed.Deed.TheVariants as deed
use Rattle.drive_rules.specs.declared.aim.Aim.{Aim}
use Rattle.drive_rules.specs.Aims.{aim_of}
use Rattle.drive_rules.specs.Deeds.{blocks_of, use_of}
use Rattle.zone_history.specs.Admitted.{is_write}
use Rattle.drive_rules.specs.Tables.{front_rows}
use Rattle.zone_cell.specs.Cells.{Cell, IsOf, sight}
use Rattle.zone_cell.specs.Deeds.{IsBlocksFor}
use Rattle.zone_room.specs.Using.{AreCounted, EachIsCounted}
use Rattle.zone_model.specs.declared.act.Act.{Act}
use Rattle.zone_model.specs.Places.{Place, command_of}
use Rattle.zone_model.specs.Zones.{pointer, uses, counts}
use Rattle.zone_model.specs.Notices.{changed}
use Rattle.zone_model.specs.Answers.{status}
use Rattle.zone_model.proofs.Counts.{counted-use}
use Rattle.zone_model.proofs.Limits.{within_limits}
use Rattle.zone_model.proofs.Sends.{some_blocks, aim-blocks}
use Rattle.drive_book.specs.declared.book.Book.{Book}
use Rattle.drive_book.specs.declared.outcome.Outcome.{Outcome}
use Rattle.drive_book.specs.Books.{marks_of}
use Rattle.drive_book.specs.Outcomes.{refusal_with}
use Rattle.drive_book.proofs.Done as done
use Rattle.cell_history.specs.Cells.{cell_of}
use Rattle.solo_drive.specs.Parts.{cell_at, PartsStand}
use Rattle.solo_drive.specs.Applying.{history_of, IsDone}
use Rattle.solo_drive.specs.Telling.{Tells}
use Rattle.solo_drive.proofs.Told.{told}
use Rattle.solo_drive.proofs.Cells.{aim-whole, cell-is_of, sight-cell, zone-cell}
use Rattle.solo_drive.proofs.Lent.{IsAmong, aim-among, length-among}
use Rattle.solo_drive.proofs.Deciding.{IsAsked, IsDeedDone, IsRefused}

pub among-of : (g : GeometryFields) (a : Act) (aim : Aim) (cells : List Cell) (book : Book) → IsGeometry g → first_holding (front_rows g (command_of a)) ≡ None → aim_of g (command_of a) ≡ Some aim → aim.zone < g.zones → PartsStand g a cells book
    → IsAmong g (history_of g book) cells aim.zone
among-of g a aim cells book valid passes aims below p = aim-among g (history_of g book) a aim cells valid passes aims below p.cells_stand p.lent

-- there are cells
pub some-cell : (g : GeometryFields) (h : List Place) (cells : List Cell) (zone : ℕ) → IsAmong g h cells zone → 0 < length cells
some-cell g h cells zone m = omega (arith, length-among g h cells zone m, m.low, m.high)

-- each of them is a cell of the drive
each-there : (g : GeometryFields) (h : List Place) (cells : List Cell) (zone k : ℕ) (d : Cell) (m : IsAmong g h cells zone) → k < length cells → get_or cells k d ≡ cell_at g h (m.first + k)
each-there g h cells zone k d m lt = ap (λ (cs : List Cell). get_or cs k d) m.stand ∙ get_or-map-range_with_len (cell_at g h) m.first m.count k (m.first + k) d (omega (arith, lt, length-among g h cells zone m)) refl

-- the first of them is that of the first zone
pub first-zone : (g : GeometryFields) (h : List Place) (cells : List Cell) (zone n : ℕ) (c : Cell) (m : IsAmong g h cells zone) → n ≡ (get_or cells 0 c).zone → n ≡ m.first
first-zone g h cells zone n c m e = e ∙ ap (λ (d : Cell). d.zone) (each-there g h cells zone 0 c m (some-cell g h cells zone m)) ∙ zone-cell g h (m.first + 0) ∙ omega arith

-- the zone's place is among them
pub place-within : (g : GeometryFields) (h : List Place) (cells : List Cell) (zone n : ℕ) (m : IsAmong g h cells zone) → n ≡ m.first → zone - n < length cells
place-within g h cells zone n m e = omega (arith, e, length-among g h cells zone m, m.low, m.high)

pub asked-of : (g : GeometryFields) (a : Act) (aim : Aim) (cells : List Cell) (book : Book) (n : ℕ) → IsGeometry g → length a.payload ≡ transfer_len g (command_of a) → aim_of g (command_of a) ≡ Some aim → first_holding (front_rows g (command_of a)) ≡ None
    → PartsStand g a cells book → (m : IsAmong g (history_of g book) cells aim.zone) → n ≡ m.first → IsAsked g a aim cells book (aim.zone - n) (length cells == g.zones)
asked-of g a aim cells book n valid len aims passes p m e = record { valid = valid; len = len; aims = aims; passes = passes; parts = p; among = m; there = omega (arith, e, m.low); whole = refl }

pub each-is_of : (g : GeometryFields) (book : Book) (cells : List Cell) (zone : ℕ) → IsGeometry g → IsAmong g (history_of g book) cells zone → All (IsOf g) cells
each-is_of g book cells zone valid m k d lt =
    let below : m.first + k < g.zones = omega (arith, lt, length-among g (history_of g book) cells zone m, m.within) in
    subst (IsOf g) (sym (each-there g (history_of g book) cells zone k d m lt)) (cell-is_of g book.journal.acts (m.first + k) valid below)

-- what it uses is counted
counted-at : (g : GeometryFields) (book : Book) (z : ℕ) → IsGeometry g → z < g.zones → AreCounted g (counts g (history_of g book)) (uses g (history_of g book) z)
counted-at g book z valid below =
    let counted = counted-use g (uses g (history_of g book)) z below in
    record {
      within = within_limits g valid book.journal.acts;
      active = record { used = counted.active.used; unused = counted.active.unused };
      opened = record { used = counted.opened.used; unused = counted.opened.unused };
      windows = record { used = counted.windows.used; unused = counted.windows.unused };
    }

pub each-counted : (g : GeometryFields) (book : Book) (cells : List Cell) (zone : ℕ) → IsGeometry g → book.limits ≡ counts g (history_of g book) → IsAmong g (history_of g book) cells zone → EachIsCounted g book.limits cells
each-counted g book cells zone valid is m k d lt =
    let h = history_of g book in
    let below : m.first + k < g.zones = omega (arith, lt, length-among g h cells zone m, m.within) in
    let shown : use_of (sight (get_or cells k d)) ≡ uses g h (m.first + k) = ap (λ (c : Cell). use_of (sight c)) (each-there g h cells zone k d m lt) ∙ ap use_of (sight-cell g h (m.first + k)) in
    subst (AreCounted g book.limits) (sym shown) (subst (λ (n : Limits). AreCounted g n (uses g h (m.first + k))) (sym is) (counted-at g book (m.first + k) valid below))

-- the host data is what the deed needs
blocks-for : (g : GeometryFields) (d : Deed) (payload : List ℕ) → (is_write d ≡ true → 1 ≤ blocks_of d) → (is_write d ≡ true → length payload ≡ blocks_of d * block_len g) → IsBlocksFor g d payload
blocks-for g (deed.Write from blocks) payload some whole = record { some = some refl; whole = whole refl }
blocks-for g (deed.Append blocks) payload some whole = record { some = some refl; whole = whole refl }
blocks-for g _ payload some whole = tt

pub blocks-of-aim : (g : GeometryFields) (a : Act) (aim : Aim) → aim_of g (command_of a) ≡ Some aim → length a.payload ≡ transfer_len g (command_of a) → IsBlocksFor g aim.deed a.payload
blocks-of-aim g a aim e len = blocks-for g aim.deed a.payload (aim-blocks g (command_of a) aim (some_blocks a) e) (aim-whole g (command_of a) aim a.payload e len)

-- its zone's pointer
pub pointer-is : (g : GeometryFields) (a : Act) (aim : Aim) (cells : List Cell) (book : Book) (place : ℕ) (all : Bool) (c : Cell) (n : ℕ) → IsAsked g a aim cells book place all → place < length cells → n ≡ (get_or cells place c).pointer
    → n ≡ pointer g (history_of g book) aim.zone
unfolding cell_of
pointer-is g a aim cells book place all c n k lt e =
    let h = history_of g book in
    e ∙ ap (λ (d : Cell). d.pointer) (each-there g h cells aim.zone place c k.among lt ∙ ap (cell_at g h) k.there)

-- ---- the deed is done

-- the command whose deed is done
pub done-command : (g : GeometryFields) (a : Act) (book : Book) → is_success (status g (history_of g book) a) ≡ true → done.IsDone g (history_of g book) a (command_of a)
done-command g a book ok = record { success = ok; command = refl }

-- with the new counts in the book, and what is reported noted there
pub noted : (g : GeometryFields) (a : Act) (aim : Aim) (cells cells' : List Cell) (book book' : Book) (n : Limits) (o : Outcome) (out : List ℕ) (at : ℕ) → IsGeometry g → aim_of g (command_of a) ≡ Some aim → PartsStand g a cells book
    → IsDeedDone g a cells cells' book n → at ≡ pointer g (history_of g book) aim.zone → Tells g aim.zone at (record book { limits = n }) book' o aim.deed → IsDone g a o cells cells' book book' out out
noted g a aim cells cells' book book' n o out at valid e p d there t =
    let h = history_of g book in
    let log : book.log ≡ changed g h = ap (λ (b : Book). b.log) p.book_stands in
    let events : book.events ≡ marks_of h = ap (λ (b : Book). b.events) p.book_stands in
    let k = told g book.journal.acts a (command_of a) aim at (record book { limits = n }) book' o valid (done-command g a book d.ok) e there log events t in
    record {
      outcome = k.outcome;
      zones = d.zones;
      limits = k.limits ∙ d.limits;
      log = k.log;
      events = k.events;
      tallies = k.tallies;
      journal = k.journal;
      read = rw (k.silent, k.len) refl;
      wide = d.wide;
    }

-- ---- the deed is refused

-- nothing changed
pub unchanged : (g : GeometryFields) (a : Act) (aim : Aim) (cells cells' : List Cell) (book : Book) (n : Limits) (o : Outcome) (out : List ℕ) (code : Status) → IsRefused g a cells cells' book n code → o ≡ refusal_with code
    → IsDone g a (refusal_with code) cells cells book book out out → IsDone g a o cells cells' book (record book { limits = n }) out out
unchanged g a aim cells cells' book n o out code d is done = transport (λ i. IsDone g a (sym is i) cells (sym d.cells_stay i) book (record book { limits = sym d.counts_stay i }) out out) done
