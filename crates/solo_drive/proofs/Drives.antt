-- The parts of a drive that stand for its acts, and what they show.
use Rattle.std.proofs.Common.{◌≡◌, ℕ, zero, suc, ◌+◌, ◌-◌, ◌^◌, ◌<◌, ◌≤◌, List, [], ◌∷◌, ◌++◌, Option, None, length, map, get_or, refl, sym, ap, ◌∙◌, subst, arith, inr, length-append}
use Rattle.std.specs.Prelude.{All, replicate}
use Rattle.std.specs.List.{flat_map, range_with_len}
use Rattle.std.proofs.lemmas.Simd.{map-map}
use Rattle.std.proofs.lemmas.List.{map-id}
use Rattle.std.proofs.lemmas.List.Folds.{flat_map-map}
use Rattle.std.proofs.lemmas.List.FromFn.{length-map-range_with_len, get_or-map-range_with_len}
use Rattle.zns_types.specs.declared.fields.GeometryFields.{GeometryFields}
use Rattle.zns_types.specs.Geometry.{IsGeometry}
use Rattle.zone_descriptor.specs.Descriptors.{descriptor_bytes}
use Rattle.drive_rules.specs.Reports.{bytes_of_all}
use Rattle.zone_history.specs.Histories.{pointer_since, state_of, window_of, block_of, attributes_of}
use Rattle.zone_cell.specs.Cells.{Cell, IsOf, fresh, descriptor_of}
use Rattle.cell_history.specs.Cells.{cell_of}
use Rattle.cell_history.proofs.Lists.{map-range_same}
use Rattle.zone_model.specs.declared.act.Act.{Act}
use Rattle.zone_model.specs.Places.{Place, deeds}
use Rattle.zone_model.specs.Zones.{zones, pointer, descriptor}
use Rattle.zone_model.specs.Answers.{and_then, answered}
use Rattle.zone_model.specs.Replies.{descriptors}
use Rattle.zone_model.proofs.Histories.{answered-none, answered-push}
use Rattle.drive_book.specs.declared.book.Book.{Book}
use Rattle.drive_book.specs.declared.posted.Posted.{Posted}
use Rattle.drive_book.specs.Books.{book_at}
use Rattle.solo_drive.specs.Parts.{cell_at, cells_at, zones_in, PartsStand, DriveStands}
use Rattle.solo_drive.specs.Applying.{IsApplied}
use Rattle.solo_drive.specs.Reading.{descriptor_in}
use Rattle.solo_drive.proofs.Cells.{cell-is_of}
use Rattle.solo_drive.proofs.Aims.{cell-at}
use Rattle.solo_drive.proofs.Ranges.{pieces-same}

-- ---- zones

-- the cells of zones are those of these zones
pub zones_in-cells_at : (g : GeometryFields) (h : List Place) (zs : List ℕ) → zones_in (cells_at g h zs) ≡ zs
unfolding cell_of
zones_in-cells_at g h zs = map-map (λ (c : Cell). c.zone) (cell_at g h) zs ∙ map-id zs

pub drive-zones : (g : GeometryFields) (cells : List Cell) (book : Book) → DriveStands g cells book → zones_in cells ≡ zones g
drive-zones g cells book s = ap zones_in s.all_stand ∙ zones_in-cells_at g (answered g book.journal.acts) (zones g)

-- ---- a drive to which nothing was done

no_blocks : (n from : ℕ) (f : ℕ → Option (List ℕ)) → ((b : ℕ) → f b ≡ None) → replicate n None ≡ map f (range_with_len from n)
no_blocks zero from f none = refl
no_blocks (suc n) from f none = rw (none from, no_blocks n (from + 1) f none) refl

fresh-cell : (g : GeometryFields) (z : ℕ) → fresh g z ≡ cell_at g [] z
unfolding cell_of deeds pointer_since state_of window_of block_of
fresh-cell g z = ap (λ (blocks : List (Option (List ℕ))). record (fresh g z) { blocks = blocks }) (no_blocks g.capacity 0 (block_of g []) (λ b. refl))

fresh-cells : (g : GeometryFields) → map (fresh g) (zones g) ≡ cells_at g (answered g []) (zones g)
fresh-cells g = map-range_same (fresh g) (cell_at g []) 0 g.zones (λ z low high. fresh-cell g z) ∙ ap (λ (h : List Place). cells_at g h (zones g)) (sym (answered-none g))

-- parts that are those of these acts
stands-at : (g : GeometryFields) (acts : List Act) (spare : ℕ) (cells : List Cell) (book : Book) → book ≡ book_at g acts spare → cells ≡ cells_at g (answered g acts) (zones g) → length acts + spare < 2 ^ 32 → DriveStands g cells book
stands-at g acts spare cells book is cells_is small =
    let Small : Book → Type 0 = λ b. length b.journal.acts + b.journal.spare < 2 ^ 32 in
    record {
      book_stands = is ∙ ap (λ (b : Book). book_at g b.journal.acts b.journal.spare) (sym is);
      all_stand = cells_is ∙ ap (λ (b : Book). cells_at g (answered g b.journal.acts) (zones g)) (sym is);
      small = subst Small (sym is) small;
    }

pub fresh-stands : (g : GeometryFields) (room : ℕ) (cells : List Cell) (book : Book) → room ≤ 262144 → book ≡ book_at g [] room → cells ≡ map (fresh g) (zones g) → DriveStands g cells book
fresh-stands g room cells book few is cells_is = stands-at g [] room cells book is (cells_is ∙ fresh-cells g) (omega arith)

-- ---- one more act

-- All zones are lent.
pub all-lent : (g : GeometryFields) (a : Act) (cells : List Cell) (book : Book) → DriveStands g cells book → PartsStand g a cells book
all-lent g a cells book s =
    let of_zones = drive-zones g cells book s in
    record {
      book_stands = s.book_stands;
      cells_stand = s.all_stand ∙ ap (cells_at g (answered g book.journal.acts)) (sym of_zones);
      lent = inr of_zones;
    }

pub applied-stands : (g : GeometryFields) (a : Act) (p : Posted) (cells cells' : List Cell) (book book' : Book) (out out' : List ℕ) → DriveStands g cells book → 0 < book.journal.spare → IsApplied g a p cells cells' book book' out out' → DriveStands g cells' book'
applied-stands g a p cells cells' book book' out out' s spare d =
    let acts = book.journal.acts in
    let of_zones = drive-zones g cells book s in
    stands-at g (acts ++ a ∷ []) (book.journal.spare - 1) cells' book' d.kept
    (d.zones ∙ ap (cells_at g (and_then g (answered g acts) a)) of_zones ∙ ap (λ (h : List Place). cells_at g h (zones g)) (sym (answered-push g acts a)))
    (omega (arith, s.small, length-append acts (a ∷ [])))

-- ---- what the parts show

length-all : (g : GeometryFields) (h : List Place) (cells : List Cell) → cells ≡ cells_at g h (zones g) → length cells ≡ g.zones
length-all g h cells is = ap length is ∙ length-map-range_with_len (cell_at g h) 0 g.zones

pub drive-length : (g : GeometryFields) (cells : List Cell) (book : Book) → DriveStands g cells book → length cells ≡ g.zones
drive-length g cells book s = length-all g (answered g book.journal.acts) cells s.all_stand

pub drive-of : (g : GeometryFields) (cells : List Cell) (book : Book) → IsGeometry g → DriveStands g cells book → All (IsOf g) cells
drive-of g cells book is s = λ z d lt.
    let acts = book.journal.acts in
    let below : z < g.zones = omega (arith, drive-length g cells book s) in
    let there : get_or cells z d ≡ cell_at g (answered g acts) z = ap (λ (cs : List Cell). get_or cs z d) s.all_stand ∙ get_or-map-range_with_len (cell_at g (answered g acts)) 0 g.zones z z d below (omega arith) in
    subst (IsOf g) (sym there) (cell-is_of g acts z is below)

pub drive-pointer : (g : GeometryFields) (cells : List Cell) (book : Book) (z : ℕ) (c : Cell) → DriveStands g cells book → z < g.zones → c ≡ get_or cells z c → c.pointer ≡ pointer g (answered g book.journal.acts) z
unfolding cell_of
drive-pointer g cells book z c s lt is =
    let h = answered g book.journal.acts in
    ap (λ (x : Cell). x.pointer) (is ∙ ap (λ (cs : List Cell). get_or cs z c) s.all_stand ∙ get_or-map-range_with_len (cell_at g h) 0 g.zones z z c lt (omega arith))

descriptor-cell : (g : GeometryFields) (h : List Place) (z : ℕ) → descriptor_of g (cell_at g h z) ≡ descriptor g h z
unfolding cell_of attributes_of
descriptor-cell g h z = refl

pub drive-descriptors : (g : GeometryFields) (cells : List Cell) (book : Book) → DriveStands g cells book → flat_map (descriptor_in g cells) (zones g) ≡ bytes_of_all (descriptors g (answered g book.journal.acts))
drive-descriptors g cells book s =
    let h = answered g book.journal.acts in
    pieces-same (descriptor_in g cells) (λ z. descriptor_bytes (descriptor g h z)) 0 g.zones
    (λ z low high. ap (λ (c : Cell). descriptor_bytes (descriptor_of g c)) (cell-at g h cells 0 g.zones z s.all_stand (omega arith) ∙ ap (cell_at g h) (omega arith)) ∙ ap descriptor_bytes (descriptor-cell g h z))
    ∙ sym (flat_map-map descriptor_bytes (descriptor g h) (zones g))
