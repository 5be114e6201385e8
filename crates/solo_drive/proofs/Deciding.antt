-- The effect of the driver's verdict, on a deed to one of the lent cells, on the parts of a drive.
use Rattle.std.proofs.Common.{◌≡◌, ℕ, ◌+◌, Bool, true, false, cond, List, ◌++◌, Option, Some, None, length, set, refl, sym, ap, ◌∙◌, arith, inl, inr}
use Rattle.std.specs.Prelude.{◌==◌, ◌&&◌, ◌⊎◌, not, is_some, unwrap_or}
use Rattle.std.specs.List.{range_with_len}
use Rattle.std.proofs.lemmas.Bool.{cases_Bool, and_parts, and_from, not-true, eqb-true, eq-eqb}
use Rattle.std.proofs.lemmas.List.{length-map}
use Rattle.std.proofs.lemmas.List.Folds.{list_all-append}
use Rattle.std.proofs.lemmas.List.FromFn.{length-range_with_len}
use Rattle.zns_types.specs.declared.fields.GeometryFields.{GeometryFields}
use Rattle.zns_types.specs.Geometry.{IsGeometry}
use Rattle.zns_types.specs.Statuses.{Status, success, is_success}
use Rattle.zns_types.specs.Rows.{Row, first_holding}
use Rattle.sqe_codec.specs.Commands.{transfer_len}
use Rattle.zone_limits.specs.declared.limits.Limits.{Limits}
use Rattle.zone_limits.specs.declared.limits.Need.{Need}
use Rattle.zone_limits.specs.Resources.{need_rows, recounted}
use Rattle.drive_rules.specs.declared.aim.Aim.{Aim}
use Rattle.drive_rules.specs.Deeds.{rows_for, need_for}
use Rattle.drive_rules.specs.Aims.{aim_of}
use Rattle.drive_rules.specs.Tables.{front_rows, wants_room}
use Rattle.zone_cell.specs.Cells.{Cell}
use Rattle.zone_cell.specs.Deeds.{after_deed}
use Rattle.zone_room.specs.declared.serving.Served.{Served}
use Rattle.zone_room.specs.declared.serving.Served.TheVariants as served
use Rattle.zone_room.specs.Rooms.{cell_in, cell_use, with_closed, counts_after_close}
use Rattle.zone_room.specs.Verdicts.{rows_at, need_at, victim_at, refused_or_done, verdict_on, verdict, with_deed, counts_with_deed, new_if_done, cells_after, counts_after}
use Rattle.zone_model.specs.declared.act.Act.{Act}
use Rattle.zone_model.specs.Places.{command_of}
use Rattle.zone_model.specs.Zones.{zone, counts}
use Rattle.zone_model.specs.Answers.{status, evicted, and_then}
use Rattle.zone_model.proofs.Passing.{refuses, success-none, rows_for-refuse}
use Rattle.drive_book.specs.declared.book.Book.{Book}
use Rattle.solo_drive.specs.Parts.{cells_at, zones_in, PartsStand}
use Rattle.solo_drive.specs.Applying.{history_of, IsWideEnough, IsWidened}
use Rattle.solo_drive.proofs.Judging.{aim_rows, aim_need, aim_wants, aim_refusal, wants-aim, status-aim}
use Rattle.solo_drive.proofs.Aims as aims
use Rattle.solo_drive.proofs.Aims.{AimsAt, Wide, aim-sight, wants-at, victim-is, cells-done, counts-done}
use Rattle.solo_drive.proofs.Lent.{IsAmong, length-among}

-- ---- what is known when the driver is called

pub record IsAsked (g : GeometryFields) (a : Act) (aim : Aim) (cells : List Cell) (book : Book) (place : ℕ) (all : Bool) : Type 0 where
  pub valid : IsGeometry g
  pub len : length a.payload ≡ transfer_len g (command_of a)
  pub aims : aim_of g (command_of a) ≡ Some aim
  pub passes : first_holding (front_rows g (command_of a)) ≡ None
  pub parts : PartsStand g a cells book
  pub among : IsAmong g (history_of g book) cells aim.zone
  pub there : among.first + place ≡ aim.zone
  pub whole : all ≡ (length cells == g.zones)

pub counts-are : (g : GeometryFields) (a : Act) (cells : List Cell) (book : Book) → PartsStand g a cells book → book.limits ≡ counts g (history_of g book)
counts-are g a cells book p = ap (λ (b : Book). b.limits) p.book_stands

pub at-of : (g : GeometryFields) (a : Act) (aim : Aim) (cells : List Cell) (book : Book) (place : ℕ) (all : Bool) (k : IsAsked g a aim cells book place all) → AimsAt g (history_of g book) aim cells k.among.first k.among.count place
at-of g a aim cells book place all k = record { lent = k.among.stand; within = k.among.within; among = let high = k.among.high in omega (arith, k.there); zone = k.there }

-- all cells are lent
whole-range : (g : GeometryFields) (a : Act) (aim : Aim) (cells : List Cell) (book : Book) (place : ℕ) (all : Bool) (k : IsAsked g a aim cells book place all) → all ≡ true → (k.among.first ≡ 0) × (k.among.count ≡ g.zones)
whole-range g a aim cells book place all k e =
    let len : length cells ≡ g.zones = eqb-true (length cells) g.zones (sym k.whole ∙ e) in
    let count = length-among g (history_of g book) cells aim.zone k.among in
    let within = k.among.within in
    (omega (arith, len, count), omega (arith, len, count))

-- the room that the verdict looked for
wants-of : (g : GeometryFields) (a : Act) (aim : Aim) (cells : List Cell) (book : Book) (place : ℕ) (all : Bool) (k : IsAsked g a aim cells book place all)
    → wants_room g book.limits (rows_at g cells place aim.deed) (need_at cells place aim.deed) ≡ aim_wants g (history_of g book) aim
wants-of g a aim cells book place all k = wants-at g (history_of g book) aim cells book.limits k.among.first k.among.count place (at-of g a aim cells book place all k) (counts-are g a cells book k.parts)

-- ---- the verdict

not_widened : (b : Bool) (o : Option Status) → served.Done ≡ cond b served.Widens (refused_or_done o) → (b ≡ false) × (o ≡ None)
not_widened true o e = absurd (cc e)
not_widened false None e = (refl, refl)
not_widened false (Some code) e = absurd (cc e)

refused_by : (b : Bool) (o : Option Status) (code : Status) → served.Refused code ≡ cond b served.Widens (refused_or_done o) → (b ≡ false) × (o ≡ Some code)
refused_by true o code e = absurd (cc e)
refused_by false None code e = absurd (cc e)
refused_by false (Some s) code e = let same : code ≡ s = cc in (refl, ap Some (sym same))

widened : (b : Bool) (o : Option Status) → served.Widens ≡ cond b served.Widens (refused_or_done o) → b ≡ true
widened true o e = refl
widened false None e = absurd (cc e)
widened false (Some s) e = absurd (cc e)

-- what the verdict depends on
abbrev wants_all : GeometryFields → Aim → List Cell → Book → ℕ → Bool → Bool
wants_all g aim cells book place all = wants_room g book.limits (rows_at g cells place aim.deed) (need_at cells place aim.deed) && not all

abbrev refusal_at : GeometryFields → Aim → List Cell → Book → ℕ → Option Status
refusal_at g aim cells book place =
    first_holding (rows_at g cells place aim.deed ++ need_rows g book.limits (need_at cells place aim.deed) (is_some (victim_at g cells book.limits place aim.deed)))

verdict-is : (g : GeometryFields) (aim : Aim) (cells : List Cell) (book : Book) (place : ℕ) (all : Bool) → verdict g cells book.limits place all aim.deed ≡ cond (wants_all g aim cells book place all) served.Widens (refused_or_done (refusal_at g aim cells book place))
unfolding verdict_on
verdict-is g aim cells book place all = refl

unneeded_or_all : (wants all : Bool) → (wants && not all) ≡ false → (wants ≡ false) ⊎ (all ≡ true)
unneeded_or_all true true e = inr refl
unneeded_or_all true false e = absurd (cc e)
unneeded_or_all false all e = inl refl

pub wide-of : (g : GeometryFields) (a : Act) (aim : Aim) (cells : List Cell) (book : Book) (place : ℕ) (all : Bool) (k : IsAsked g a aim cells book place all) → wants_all g aim cells book place all ≡ false → Wide g (history_of g book) aim k.among.first k.among.count
wide-of g a aim cells book place all k e = by_case (unneeded_or_all _ all e)
  where
    by_case : (wants_room g book.limits (rows_at g cells place aim.deed) (need_at cells place aim.deed) ≡ false) ⊎ (all ≡ true) → Wide g (history_of g book) aim k.among.first k.among.count
    by_case (inl none) = inl (sym (wants-of g a aim cells book place all k) ∙ none)
    by_case (inr whole) = inr (whole-range g a aim cells book place all k whole)

pub wide-enough : (g : GeometryFields) (a : Act) (aim : Aim) (cells : List Cell) (book : Book) (place : ℕ) (all : Bool) (k : IsAsked g a aim cells book place all) → Wide g (history_of g book) aim k.among.first k.among.count → IsWideEnough g a cells book
wide-enough g a aim cells book place all k (inl unneeded) = inr (wants-aim g (history_of g book) a aim k.aims k.passes ∙ unneeded)
wide-enough g a aim cells book place all k (inr whole) = inl (k.among.zones_are ∙ ap (λ (n : ℕ). range_with_len n k.among.count) whole.0 ∙ ap (λ (n : ℕ). range_with_len 0 n) whole.1)

same_refusal : (g : GeometryFields) (rows rows' : List (Row Status)) (n n' : Limits) (need need' : Need) (v v' : Option ℕ) → rows ≡ rows' → n ≡ n' → need ≡ need' → v ≡ v' → first_holding (rows ++ need_rows g n need (is_some v)) ≡ first_holding (rows' ++ need_rows g n' need' (is_some v'))
same_refusal g rows rows' n n' need need' v v' p q r s = λ i. first_holding (p i ++ need_rows g (q i) (r i) (is_some (s i)))

refusal-is : (g : GeometryFields) (a : Act) (aim : Aim) (cells : List Cell) (book : Book) (place : ℕ) (all : Bool) (k : IsAsked g a aim cells book place all) → Wide g (history_of g book) aim k.among.first k.among.count
    → refusal_at g aim cells book place ≡ aim_refusal g (history_of g book) aim (evicted g (history_of g book) a)
refusal-is g a aim cells book place all k wide =
    let h = history_of g book in
    let at = at-of g a aim cells book place all k in
    let seen = aim-sight g h aim cells k.among.first k.among.count place at in
    same_refusal g (rows_at g cells place aim.deed) (aim_rows g h aim) book.limits (counts g h) (need_at cells place aim.deed) (aim_need g h aim) _ (evicted g h a)
    (ap (rows_for g aim.deed) seen) (counts-are g a cells book k.parts) (ap (need_for aim.deed) seen)
    (victim-is g h a aim cells book.limits k.among.first k.among.count place at (counts-are g a cells book k.parts) k.aims k.passes wide)

-- ---- refused

-- a refusing status isn't success
fails-of : (rows : List (Row Status)) (code : Status) → refuses rows ≡ true → first_holding rows ≡ Some code → is_success code ≡ false
fails-of rows code codes e = elim (cases_Bool (is_success code)) [
  | inl ok ↦ absurd (cc (e, success-none rows codes (ap (λ (o : Option Status). is_success (unwrap_or o success)) e ∙ ok)))
  | inr fails ↦ fails
]

pub record IsRefused (g : GeometryFields) (a : Act) (cells cells' : List Cell) (book : Book) (n : Limits) (code : Status) : Type 0 where
  pub cells_stay : cells' ≡ cells
  pub counts_stay : n ≡ book.limits
  pub code_is : status g (history_of g book) a ≡ code
  pub fails : is_success code ≡ false
  pub wide : IsWideEnough g a cells book

pub refused-of : (g : GeometryFields) (a : Act) (aim : Aim) (cells cells' : List Cell) (book : Book) (n : Limits) (place : ℕ) (all : Bool) (payload : List ℕ) (code : Status) → IsAsked g a aim cells book place all
    → served.Refused code ≡ verdict g cells book.limits place all aim.deed → cells' ≡ cells_after g cells book.limits place all aim.deed payload → n ≡ counts_after g cells book.limits place all aim.deed payload → IsRefused g a cells cells' book n code
refused-of g a aim cells cells' book n place all payload code k e cells-are limits-are =
    let h = history_of g book in
    let parts = refused_by (wants_all g aim cells book place all) (refusal_at g aim cells book place) code (e ∙ verdict-is g aim cells book place all) in
    let wide = wide-of g a aim cells book place all k parts.0 in
    let holds : aim_refusal g h aim (evicted g h a) ≡ Some code = sym (refusal-is g a aim cells book place all k wide) ∙ parts.1 in
    let rows = aim_rows g h aim ++ need_rows g (counts g h) (aim_need g h aim) (is_some (evicted g h a)) in
    let codes : refuses rows ≡ true = rw list_all-append (and_from _ _ (rows_for-refuse g aim.deed (zone g h aim.zone)) refl) in
    record {
      cells_stay = cells-are ∙ ap (λ (v : Served). new_if_done v (with_deed g cells book.limits place aim.deed payload) cells) (sym e);
      counts_stay = limits-are ∙ ap (λ (v : Served). new_if_done v (counts_with_deed g cells book.limits place aim.deed payload) book.limits) (sym e);
      code_is = status-aim g h a aim k.aims k.passes ∙ ap (λ (o : Option Status). unwrap_or o success) holds;
      fails = fails-of rows code codes holds;
      wide = wide-enough g a aim cells book place all k wide;
    }

-- ---- widened

pub widened-of : (g : GeometryFields) (a : Act) (aim : Aim) (cells cells' : List Cell) (book : Book) (n : Limits) (place : ℕ) (all : Bool) (payload out : List ℕ) → IsAsked g a aim cells book place all
    → served.Widens ≡ verdict g cells book.limits place all aim.deed → cells' ≡ cells_after g cells book.limits place all aim.deed payload → n ≡ counts_after g cells book.limits place all aim.deed payload
    → IsWidened g a cells cells' book (record book { limits = n }) out out
widened-of g a aim cells cells' book n place all payload out k e cells-are limits-are =
    let h = history_of g book in
    let both = widened (wants_all g aim cells book place all) (refusal_at g aim cells book place) (e ∙ verdict-is g aim cells book place all) in
    let parts = and_parts (wants_room g book.limits (rows_at g cells place aim.deed) (need_at cells place aim.deed)) (not all) both in
    let narrow : all ≡ false = not-true all parts.1 in
    let counts_stay : n ≡ book.limits = limits-are ∙ ap (λ (v : Served). new_if_done v (counts_with_deed g cells book.limits place aim.deed payload) book.limits) (sym e) in
    record {
      same_cells = cells-are ∙ ap (λ (v : Served). new_if_done v (with_deed g cells book.limits place aim.deed payload) cells) (sym e);
      same_book = ap (λ (m : Limits). record book { limits = m }) counts_stay;
      same_out = refl;
      narrow = λ all_zones.
          let len : length cells ≡ g.zones = sym (length-map cells (λ (c : Cell). c.zone)) ∙ ap length all_zones ∙ length-range_with_len 0 g.zones in
          absurd (cc (narrow, k.whole ∙ eq-eqb (length cells) g.zones len));
      wants = wants-aim g h a aim k.aims k.passes ∙ sym (wants-of g a aim cells book place all k) ∙ parts.0;
    }

-- ---- done

pub record IsDeedDone (g : GeometryFields) (a : Act) (cells cells' : List Cell) (book : Book) (n : Limits) : Type 0 where
  pub ok : is_success (status g (history_of g book) a) ≡ true
  pub zones : cells' ≡ cells_at g (and_then g (history_of g book) a) (zones_in cells)
  pub limits : n ≡ counts g (and_then g (history_of g book) a)
  pub wide : IsWideEnough g a cells book

pub done-of : (g : GeometryFields) (a : Act) (aim : Aim) (cells cells' : List Cell) (book : Book) (n : Limits) (place : ℕ) (all : Bool) → IsAsked g a aim cells book place all
    → served.Done ≡ verdict g cells book.limits place all aim.deed → cells' ≡ cells_after g cells book.limits place all aim.deed a.payload → n ≡ counts_after g cells book.limits place all aim.deed a.payload → IsDeedDone g a cells cells' book n
done-of g a aim cells cells' book n place all k e cells-are limits-are =
    let h = history_of g book in
    let h' = and_then g h a in
    let at = at-of g a aim cells book place all k in
    let counted = counts-are g a cells book k.parts in
    let parts = not_widened (wants_all g aim cells book place all) (refusal_at g aim cells book place) (e ∙ verdict-is g aim cells book place all) in
    let wide = wide-of g a aim cells book place all k parts.0 in
    let holds : aim_refusal g h aim (evicted g h a) ≡ None = sym (refusal-is g a aim cells book place all k wide) ∙ parts.1 in
    let ok : is_success (status g h a) ≡ true = ap is_success (status-aim g h a aim k.aims k.passes ∙ ap (λ (o : Option Status). unwrap_or o success) holds) in
    let d : aims.IsDone g book.journal.acts a aim = record { valid = k.valid; len = k.len; aims = k.aims; passes = k.passes; ok = ok } in
    let victim = victim-is g h a aim cells book.limits k.among.first k.among.count place at counted k.aims k.passes wide in
    let changed = after_deed g aim.deed a.payload (cell_in cells place) in
    record {
      ok = ok;
      zones =
          cells-are ∙ ap (λ (v : Served). new_if_done v (with_deed g cells book.limits place aim.deed a.payload) cells) (sym e) ∙ ap (λ (v : Option ℕ). set (with_closed g v cells) place changed) victim
          ∙ cells-done g book.journal.acts a aim cells k.among.first k.among.count place d at wide (evicted g h a) refl ∙ ap (cells_at g h') (sym k.among.zones_are);
      limits =
          limits-are ∙ ap (λ (v : Served). new_if_done v (counts_with_deed g cells book.limits place aim.deed a.payload) book.limits) (sym e)
          ∙ ap (λ (v : Option ℕ). recounted (cell_use (cell_in cells place)) (cell_use changed) (counts_after_close v cells book.limits)) victim
          ∙ counts-done g book.journal.acts a aim cells book.limits k.among.first k.among.count place d at counted wide (evicted g h a) refl;
      wide = wide-enough g a aim cells book place all k wide;
    }
