-- The parts of a journal: cells and book.
use Rattle.std.proofs.Common.{◌≡◌, ◌⊎◌, ℕ, suc, ◌+◌, ◌-◌, ◌^◌, ◌<◌, ◌==◌, true, false, List, [], ◌∷◌, ◌++◌, length, refl, ap, sym, ◌∙◌, subst, arith, inl, inr, ⊎_elim, length-append}
use Rattle.std.specs.List.{list_any}
use Rattle.std.proofs.lemmas.Bool.{cases_Bool, eqb-true}
use mathlib.Core.Option.{some}
use lib.ListN.{get_elem?}
use Rattle.zns_types.specs.declared.fields.GeometryFields.{GeometryFields}
use Rattle.zone_cell.specs.Cells.{Cell}
use Rattle.zone_model.specs.declared.act.Act.{Act}
use Rattle.zone_model.specs.Kept.{KeptActs}
use Rattle.zone_model.specs.Places.{Place}
use Rattle.zone_model.specs.Zones.{zones}
use Rattle.zone_model.specs.Answers.{answered, evicted, is_zone}
use Rattle.zone_model.specs.Laws.{is_reached}
use Rattle.zone_model.proofs.Histories.{answered-push}
use Rattle.zone_model.proofs.LocalFacts.{none_gives_way}
use Rattle.zone_model.proofs.Reached.{untouched_is_idle, range-has}
use Rattle.drive_book.specs.declared.book.Book.{Book}
use Rattle.drive_book.specs.Books.{BookStands, book_at}
use Rattle.solo_drive.specs.Drives.{Drive, drive_of}
use Rattle.solo_drive.specs.Parts.{cell_at, cells_at, zones_in, AreLent, PartsStand, DriveStands}
use Rattle.solo_drive.specs.Applying.{IsApplied, Applies}
use Rattle.solo_drive.specs.declared.applied.Applied.{Applied}
use Rattle.solo_drive.specs.declared.applied.Applied.TheVariants as applied
use Rattle.drive_book.specs.declared.posted.Posted.{Posted}
use Rattle.zone_desk.specs.Serving.{IsServed, HasServed}
use Rattle.solo_drive.proofs.Cells.{zone-cell, cell-idle}
use Rattle.zone_desk.specs.Parts.{zone_at, zones_at, AreAt, HasZone, Covers, wants_room, ledger_at, with_act, journal_at}

-- ---- the book

pub ledger-journal : (g : GeometryFields) (j : KeptActs) → (ledger_at g j).journal ≡ j
unfolding ledger_at
ledger-journal g j = refl

-- the book of a journal is the book of its own journal
pub ledger-own : (g : GeometryFields) (b : Book) (j : KeptActs) → b ≡ ledger_at g j → b ≡ ledger_at g b.journal
ledger-own g b j is = is ∙ ap (ledger_at g) (sym (ap (λ (x : Book). x.journal) is ∙ ledger-journal g j))

pub book-ledger : (g : GeometryFields) (b : Book) → BookStands g b → b ≡ ledger_at g b.journal
unfolding ledger_at
book-ledger g b is = is

pub ledger-book : (g : GeometryFields) (b : Book) → b ≡ ledger_at g b.journal → BookStands g b
unfolding ledger_at
ledger-book g b is = is

pub ledger-same : (g : GeometryFields) (j : KeptActs) → book_at g j.acts j.spare ≡ ledger_at g j
unfolding ledger_at
ledger-same g j = refl

pub journal-more : (room : ℕ) (log : List Act) (a : Act) → with_act (journal_at room log) a ≡ journal_at room (log ++ a ∷ [])
journal-more room log a =
    let n : room - length log - 1 ≡ room - length (log ++ a ∷ []) = omega (arith, length-append log (a ∷ [])) in
    λ i. record { acts = log ++ a ∷ []; spare = n i }

-- ---- cells

pub at-zone : (g : GeometryFields) (log : List Act) (z : ℕ) → (zone_at g log z).zone ≡ z
at-zone g log z = zone-cell g (answered g log) z

-- cells, each of which is its zone's
pub all-at : (g : GeometryFields) (log : List Act) (cells : List Cell) → ((i : ℕ) (c : Cell) → get_elem? cells i ≡ some c → c ≡ zone_at g log c.zone) → AreAt g log cells
all-at g log [] each = refl
all-at g log (c ∷ cs) each =
    let first : c ≡ zone_at g log c.zone = each 0 c refl in
    let others = all-at g log cs (λ i d e. each (suc i) d e) in
    λ i. first i ∷ others i

-- a zone is among the cells or isn't
pub has-zone : (z : ℕ) (cells : List Cell) → list_any (λ y. y == z) (zones_in cells) ≡ true → HasZone z cells
has-zone z [] e = absurd (cc e)
has-zone z (c ∷ cs) e = ⊎_elim (λ (is : (c.zone == z) ≡ true). (0, (c, refl, eqb-true c.zone z is))) (λ (ne : (c.zone == z) ≡ false). let rest : list_any (λ y. y == z) (zones_in cs) ≡ true = rw ne at e in let h = has-zone z cs rest in (suc h.0, h.1)) (cases_Bool (c.zone == z))

all-have : (g : GeometryFields) (z : ℕ) (cells : List Cell) → zones_in cells ≡ zones g → z < g.zones → HasZone z cells
all-have g z cells is lt = has-zone z cells (ap (list_any (λ y. y == z)) is ∙ range-has 0 g.zones z (omega arith) (omega arith))

-- a zone out of reach doesn't change, if no zone gives way
stays : (g : GeometryFields) (log : List Act) (a : Act) (z : ℕ) → z < g.zones → is_reached g a z ≡ false → wants_room g log a ≡ false → zone_at g (log ++ a ∷ []) z ≡ zone_at g log z
stays g log a z lt away none =
    let h : List Place = answered g log in
    let kept : is_zone z (evicted g h a) ≡ false = ap (is_zone z) (none_gives_way g h a none).evicted in
    ap (λ (x : List Place). cell_at g x z) (answered-push g log a) ∙ cell-idle g h a z (untouched_is_idle g h a z lt away kept)

-- the cells of an act's reach, if no zone gives way, and those of all zones, cover what the act changes
pub covering : (g : GeometryFields) (log : List Act) (a : Act) (cells : List Cell) → AreLent g a (zones_in cells) → (zones_in cells ≡ zones g) ⊎ (wants_room g log a ≡ false) → Covers g log a cells
covering g log a cells lent wide z lt = ⊎_elim (λ (all : zones_in cells ≡ zones g). inl (all-have g z cells all lt)) (λ (none : wants_room g log a ≡ false). reached lent none (cases_Bool (is_reached g a z))) wide
  where
    reached : AreLent g a (zones_in cells) → wants_room g log a ≡ false → (is_reached g a z ≡ true) ⊎ (is_reached g a z ≡ false) → HasZone z cells ⊎ (zone_at g (log ++ a ∷ []) z ≡ zone_at g log z)
    reached (inr all) none here = inl (all-have g z cells all lt)
    reached (inl own) none (inl here) = inl (has-zone z cells (ap (list_any (λ y. y == z)) own ∙ here))
    reached (inl own) none (inr away) = inr (stays g log a z lt away none)

-- ---- the parts of a drive

-- book and cells of one journal are a drive's
pub drive-stands : (g : GeometryFields) (cells : List Cell) (b : Book) (j : KeptActs) → b ≡ ledger_at g j → cells ≡ zones_at g j.acts (zones g) → length j.acts + j.spare < 2 ^ 32 → DriveStands g cells b
drive-stands g cells b j is cells_are small =
    let same : j ≡ b.journal = sym (ap (λ (x : Book). x.journal) is ∙ ledger-journal g j) in
    record {
      book_stands = ledger-book g b (ledger-own g b j is);
      all_stand = cells_are ∙ ap (λ (x : KeptActs). zones_at g x.acts (zones g)) same;
      small = subst (λ (x : KeptActs). length x.acts + x.spare < 2 ^ 32) same small;
    }

-- a drive's parts are the book and the cells of its journal
pub new-book : (g : GeometryFields) (j : KeptActs) (g' : GeometryFields) (cells : List Cell) (b : Book) → DriveStands g' cells b → drive_of g' b.journal ≡ drive_of g j → b ≡ ledger_at g j
new-book g j g' cells b s is =
    let fields : g' ≡ g = ap (λ (d : Drive). d.geometry) is in
    let journal : b.journal ≡ j = λ i. record { acts = (is i).acts; spare = (is i).spare } in
    book-ledger g' b s.book_stands ∙ (λ i. ledger_at (fields i) (journal i))

pub new-cells : (g : GeometryFields) (j : KeptActs) (g' : GeometryFields) (cells : List Cell) (b : Book) → DriveStands g' cells b → drive_of g' b.journal ≡ drive_of g j → cells ≡ zones_at g j.acts (zones g)
new-cells g j g' cells b s is = s.all_stand ∙ (λ i. zones_at (is i).geometry (is i).acts (zones (is i).geometry))

-- ---- one act

pub parts-stand : (g : GeometryFields) (a : Act) (cells : List Cell) (b : Book) → b ≡ ledger_at g b.journal → AreAt g b.journal.acts cells → AreLent g a (zones_in cells) → PartsStand g a cells b
parts-stand g a cells b is at lent = record { book_stands = ledger-book g b is; cells_stand = at; lent = lent }

applied-served : (g : GeometryFields) (a : Act) (p : Posted) (cells cells' : List Cell) (b b' : Book) (out out' : List ℕ) → IsApplied g a p cells cells' b b' out out' → IsServed g a p cells cells' b b' out out'
applied-served g a p cells cells' b b' out out' d = record {
  cells_are = d.zones ∙ ap (λ (h : List Place). cells_at g h (zones_in cells)) (sym (answered-push g b.journal.acts a));
  book_is = d.kept ∙ ledger-same g (with_act b.journal a);
  answer = record { entries = d.entries; len = d.len; read = d.read };
  wide = d.wide;
}

pub has-served : (g : GeometryFields) (a : Act) (cells cells' : List Cell) (b b' : Book) (out out' : List ℕ) (r : Applied) → Applies g a cells cells' b b' out out' r → HasServed g a cells cells' b b' out out' r
has-served g a cells cells' b b' out out' (applied.Done p) d = applied-served g a p cells cells' b b' out out' d
has-served g a cells cells' b b' out out' (applied.Widen payload) d = record { bytes = d.0; same_cells = d.1.same_cells; same_book = d.1.same_book; unread = d.1.same_out; narrow = d.1.narrow; wants = d.1.wants }
