-- The result of a command that went ahead, for each history that its cells stand for.
use Rattle.std.proofs.Common.{◌≡◌, ℕ, ◌-◌, ◌*◌, ◌<◌, ◌≤◌, Bool, true, false, cond, List, ◌++◌, Option, Some, None, length, get_or, set, refl, sym, ap, ◌∙◌, subst}
use Rattle.std.specs.Prelude.{◌==◌, ◌&&◌, not, is_some}
use Rattle.std.proofs.Math.Bool.{and-false}
use Rattle.std.proofs.Math.Path.{transport}
use Rattle.std.proofs.lemmas.List.{set-get_or, get_or_default}
use Rattle.zns_types.specs.declared.fields.GeometryFields.{GeometryFields}
use Rattle.zns_types.specs.Geometry.{IsGeometry, block_len}
use Rattle.zns_types.specs.Statuses.{Status, is_success}
use Rattle.zns_types.specs.Rows.{Row, first_holding}
use Rattle.zns_types.proofs.RowLemmas.{first_holding-append_idle}
use Rattle.sqe_codec.specs.declared.cmd.Cmd.{Cmd}
use Rattle.sqe_codec.specs.declared.cmd.Cmd.TheVariants as cmd
use Rattle.sqe_codec.specs.Commands.{transfer_len}
use Rattle.zone_limits.specs.declared.limits.Limits.{Limits}
use Rattle.zone_limits.specs.declared.limits.Need.{Need}
use Rattle.zone_limits.specs.Resources.{no_need, need_rows}
use Rattle.drive_rules.specs.declared.deed.Deed.{Deed}
use Rattle.drive_rules.specs.declared.deed.Deed.TheVariants as deed
use Rattle.drive_rules.specs.declared.aim.Aim.{Aim}
use Rattle.drive_rules.specs.ZoneRows.{Zone}
use Rattle.drive_rules.specs.Deeds.{use_of, need_for}
use Rattle.drive_rules.specs.Aims.{aim_of}
use Rattle.drive_rules.specs.Tables.{front_rows, wants_room}
use Rattle.zone_history.specs.Admitted.{is_write}
use Rattle.zone_cell.specs.Cells.{Cell}
use Rattle.zone_cell.specs.Deeds.{after_deed}
use Rattle.zone_room.specs.declared.serving.Served.{Served}
use Rattle.zone_room.specs.declared.serving.Served.TheVariants as served
use Rattle.zone_room.specs.Rooms.{no_cell, cell_in, cell_use, evictable_in, with_closed}
use Rattle.zone_room.specs.Verdicts.{rows_at, need_at, victim_at, refused_or_done, verdict_on, verdict, with_deed, new_if_done, cells_after, counts_after}
use Rattle.zone_model.specs.declared.act.Act.{Act}
use Rattle.zone_model.specs.Places.{command_of}
use Rattle.zone_model.specs.Zones.{zone, uses}
use Rattle.zone_model.specs.Answers.{status, and_then, answered}
use Rattle.drive_book.specs.declared.book.Book.{Book}
use Rattle.drive_book.specs.declared.outcome.Outcome.{Outcome}
use Rattle.drive_book.specs.Books.{book_at}
use Rattle.drive_book.specs.Outcomes.{refusal_with}
use Rattle.solo_drive.specs.declared.ahead.Ready.{Ready}
use Rattle.solo_drive.specs.Parts.{zones_in, CellsStand, AreLent}
use Rattle.solo_drive.specs.Applying.{IsDone}
use Rattle.solo_drive.specs.Telling.{Tells}
use Rattle.solo_drive.specs.Reading.{ReadServed}
use Rattle.solo_drive.specs.Ahead.{goes_ahead, opened_in, opened_at, given_up, freed_by, IsMoved}
use Rattle.solo_drive.specs.Written.{ready_with, refusal_in, told_by, cell_by, ready_by, written_cell, written_ready}
use Rattle.solo_drive.proofs.Going.{aim-ahead, freed-aim, ahead-need}
use Rattle.solo_drive.proofs.OpenedCells.{ahead-at}
use Rattle.solo_drive.proofs.Moved.{refused-frees, read-frees, parts-of, moved-of}
use Rattle.solo_drive.proofs.Plain.{front-refuses, front-done}
use Rattle.solo_drive.proofs.PlainReads.{lent-read, lent-read-done}
use Rattle.solo_drive.proofs.Cells.{sight-cell}
use Rattle.solo_drive.proofs.Aims.{aim-sight, aim-done}
use Rattle.solo_drive.proofs.Aims as aims
use Rattle.solo_drive.proofs.Lent.{IsAmong}
use Rattle.solo_drive.proofs.Deciding.{IsAsked, IsDeedDone, IsRefused, at-of, done-of, refused-of}
use Rattle.solo_drive.proofs.Asking as asking
use Rattle.solo_drive.proofs.Told.{refused-done}

-- ---- refused by a row that no zone decides

pub front-moved : (g : GeometryFields) (acts : List Act) (a : Act) (code : Status) (cells : List Cell) (out : List ℕ) → IsGeometry g → CellsStand g (answered g acts) cells → AreLent g a (zones_in cells)
    → goes_ahead g (opened_in cells) (command_of a) ≡ true → first_holding (front_rows g (command_of a)) ≡ Some code → IsMoved g a (answered g acts) cells cells out out (ready_with (refusal_with code) no_need)
front-moved g acts a code cells out valid stand lent ahead e =
    let h = answered g acts in
    let book = book_at g acts 0 in
    let fails = front-refuses g h a code e in
    let refused : is_success (status g h a) ≡ false = ap is_success fails.code_is ∙ fails.fails in
    moved-of g acts a (refusal_with code) no_need cells cells book out out (ahead-at g h cells (command_of a) stand ahead) (front-done g a code cells book out (refusal_with code) valid (parts-of g acts a cells stand lent) e refl) (refused-frees g h a refused)

-- ---- a write to an opened zone

-- if nothing is needed, the rows of the zone decide
alone-on : (g : GeometryFields) (n : Limits) (rows : List (Row Status)) (all : Bool) (victim : Option ℕ) → verdict_on g n rows no_need all victim ≡ refused_or_done (first_holding rows)
unfolding verdict_on
alone-on g n rows all victim =
    ap (λ (b : Bool). cond (b && not all) served.Widens (refused_or_done (first_holding (rows ++ need_rows g n no_need (is_some victim))))) (and-false _)
    ∙ ap refused_or_done (first_holding-append_idle rows (need_rows g n no_need (is_some victim)) refl)

-- and no zone gives way
alone-victim : (g : GeometryFields) (cells : List Cell) (n : Limits) (rows : List (Row Status)) (place : ℕ) → cond (wants_room g n rows no_need) (evictable_in cells place) None ≡ None
alone-victim g cells n rows place = ap (λ (b : Bool). cond b (evictable_in cells place) None) (and-false _)

write-tells : (g : GeometryFields) (zone at : ℕ) (b : Book) (d : Deed) → is_write d ≡ true → Tells g zone at b b (told_by g zone at d) d
write-tells g zone at b (deed.Write from blocks) writes = (refl, refl)
write-tells g zone at b (deed.Append blocks) writes = (refl, refl)
write-tells g zone at b _ writes = absurd (cc writes)

-- what is known of it
pub record IsWrite (g : GeometryFields) (acts : List Act) (a : Act) (aim : Aim) (cells : List Cell) (place : ℕ) : Type 0 where
  pub asked : IsAsked g a aim cells (book_at g acts 0) place (length cells == g.zones)
  pub ahead : goes_ahead g (opened_at g (answered g acts)) (command_of a) ≡ true
  pub within : place < length cells

pub write-of : (g : GeometryFields) (acts : List Act) (a : Act) (aim : Aim) (cells : List Cell) (n : ℕ) (d : Cell) → IsGeometry g → CellsStand g (answered g acts) cells → AreLent g a (zones_in cells) → goes_ahead g (opened_in cells) (command_of a) ≡ true
    → length a.payload ≡ transfer_len g (command_of a) → aim_of g (command_of a) ≡ Some aim → aim.zone < g.zones → first_holding (front_rows g (command_of a)) ≡ None → n ≡ (get_or cells 0 d).zone → IsWrite g acts a aim cells (aim.zone - n)
write-of g acts a aim cells n d valid stand lent ahead len aims below passes e =
    let book = book_at g acts 0 in
    let parts = parts-of g acts a cells stand lent in
    let m = asking.among-of g a aim cells book valid passes aims below parts in
    let first = asking.first-zone g (answered g acts) cells aim.zone n d m e in
    record {
      asked = asking.asked-of g a aim cells book n valid len aims passes parts m first;
      ahead = ahead-at g (answered g acts) cells (command_of a) stand ahead;
      within = asking.place-within g (answered g acts) cells aim.zone n m first;
    }

need-none : (g : GeometryFields) (acts : List Act) (a : Act) (aim : Aim) (cells : List Cell) (place : ℕ) → IsWrite g acts a aim cells place → need_at cells place aim.deed ≡ no_need
need-none g acts a aim cells place w =
    let at = at-of g a aim cells (book_at g acts 0) place _ w.asked in
    ap (need_for aim.deed) (aim-sight g (answered g acts) aim cells w.asked.among.first w.asked.among.count place at) ∙ ahead-need g (answered g acts) a aim w.asked.aims w.ahead

verdict-alone : (g : GeometryFields) (acts : List Act) (a : Act) (aim : Aim) (cells : List Cell) (place : ℕ) (all : Bool) → IsWrite g acts a aim cells place → verdict g cells (book_at g acts 0).limits place all aim.deed ≡ refused_or_done (refusal_in g aim.deed (cell_in cells place))
verdict-alone g acts a aim cells place all w =
    let n = (book_at g acts 0).limits in
    ap (λ (need : Need). verdict_on g n (rows_at g cells place aim.deed) need all (victim_at g cells n place aim.deed)) (need-none g acts a aim cells place w) ∙ alone-on g n (rows_at g cells place aim.deed) all _

victim-none : (g : GeometryFields) (acts : List Act) (a : Act) (aim : Aim) (cells : List Cell) (place : ℕ) → IsWrite g acts a aim cells place → victim_at g cells (book_at g acts 0).limits place aim.deed ≡ None
victim-none g acts a aim cells place w =
    let n = (book_at g acts 0).limits in
    ap (λ (need : Need). cond (wants_room g n (rows_at g cells place aim.deed) need) (evictable_in cells place) None) (need-none g acts a aim cells place w) ∙ alone-victim g cells n (rows_at g cells place aim.deed) place

-- it gives back what its zone no longer uses
write-frees : (g : GeometryFields) (acts : List Act) (a : Act) (aim : Aim) (cells : List Cell) (place : ℕ) → IsWrite g acts a aim cells place → is_success (status g (answered g acts) a) ≡ true
    → given_up (cell_use (cell_in cells place)) (cell_use (after_deed g aim.deed a.payload (cell_in cells place))) ≡ freed_by g (answered g acts) a (command_of a)
write-frees g acts a aim cells place w ok =
    let h = answered g acts in
    let h' = and_then g h a in
    let k = w.asked in
    let at = at-of g a aim cells (book_at g acts 0) place _ k in
    let d : aims.IsDone g acts a aim = record { valid = k.valid; len = k.len; aims = k.aims; passes = k.passes; ok = ok } in
    let before : cell_use (cell_in cells place) ≡ uses g h aim.zone = ap use_of (aim-sight g h aim cells k.among.first k.among.count place at) in
    let after : cell_use (after_deed g aim.deed a.payload (cell_in cells place)) ≡ uses g h' aim.zone = ap cell_use (aim-done g acts a aim cells k.among.first k.among.count place d at) ∙ ap use_of (sight-cell g h' aim.zone) in
    ap (λ (u : Need). given_up u (cell_use (after_deed g aim.deed a.payload (cell_in cells place)))) before ∙ ap (given_up (uses g h aim.zone)) after ∙ sym (freed-aim g h a (opened_at g h) (command_of a) aim k.aims w.ahead)

done-moved : (g : GeometryFields) (acts : List Act) (a : Act) (aim : Aim) (cells : List Cell) (place : ℕ) (out : List ℕ) → IsWrite g acts a aim cells place → refusal_in g aim.deed (cell_in cells place) ≡ None
    → IsMoved g a (answered g acts) cells (set cells place (after_deed g aim.deed a.payload (cell_in cells place))) out out
    (ready_with (told_by g aim.zone (cell_in cells place).pointer aim.deed) (given_up (cell_use (cell_in cells place)) (cell_use (after_deed g aim.deed a.payload (cell_in cells place)))))
done-moved g acts a aim cells place out w none =
    let h = answered g acts in
    let book = book_at g acts 0 in
    let all = length cells == g.zones in
    let k = w.asked in
    let c = cell_in cells place in
    let at = at-of g a aim cells book place all k in
    let new = set cells place (after_deed g aim.deed a.payload c) in
    let n = counts_after g cells book.limits place all aim.deed a.payload in
    let done : verdict g cells book.limits place all aim.deed ≡ served.Done = verdict-alone g acts a aim cells place all w ∙ ap refused_or_done none in
    let new-is : new ≡ cells_after g cells book.limits place all aim.deed a.payload =
    ap (λ (v : Option ℕ). set (with_closed g v cells) place (after_deed g aim.deed a.payload c)) (sym (victim-none g acts a aim cells place w))
    ∙ ap (λ (v : Served). new_if_done v (with_deed g cells book.limits place aim.deed a.payload) cells) (sym done) in
    let d : IsDeedDone g a cells new book n = done-of g a aim cells new book n place all k (sym done) new-is refl in
    let there = ap (λ (z : Zone). z.pointer) (aim-sight g h aim cells k.among.first k.among.count place at) in
    let o = told_by g aim.zone c.pointer aim.deed in
    let ahead = aim-ahead g (opened_at g h) (command_of a) aim k.aims w.ahead in
    let moved : IsDone g a o cells new book (record book { limits = n }) out out = asking.noted g a aim cells new book (record book { limits = n }) n o out c.pointer k.valid k.aims k.parts d there (write-tells g aim.zone c.pointer (record book { limits = n }) aim.deed ahead.writes) in
    moved-of g acts a o _ cells new (record book { limits = n }) out out w.ahead moved (write-frees g acts a aim cells place w d.ok)

refused-moved : (g : GeometryFields) (acts : List Act) (a : Act) (aim : Aim) (cells : List Cell) (place : ℕ) (out : List ℕ) (code : Status) → IsWrite g acts a aim cells place → refusal_in g aim.deed (cell_in cells place) ≡ Some code
    → IsMoved g a (answered g acts) cells (set cells place (cell_in cells place)) out out (ready_with (refusal_with code) no_need)
refused-moved g acts a aim cells place out code w holds =
    let h = answered g acts in
    let book = book_at g acts 0 in
    let all = length cells == g.zones in
    let k = w.asked in
    let n = counts_after g cells book.limits place all aim.deed a.payload in
    let refused : verdict g cells book.limits place all aim.deed ≡ served.Refused code = verdict-alone g acts a aim cells place all w ∙ ap refused_or_done holds in
    let r : IsRefused g a cells (cells_after g cells book.limits place all aim.deed a.payload) book n code = refused-of g a aim cells _ book n place all a.payload code k (sym refused) refl refl in
    let done : IsDone g a (refusal_with code) cells cells book book out out = refused-done g a code cells book out k.valid k.parts r.code_is r.fails r.wide in
    let fails : is_success (status g h a) ≡ false = ap is_success r.code_is ∙ r.fails in
    let moved = moved-of g acts a (refusal_with code) no_need cells cells book out out w.ahead done (refused-frees g h a fails) in
    subst (λ (new : List Cell). IsMoved g a h cells new out out (ready_with (refusal_with code) no_need)) (sym (set-get_or cells place _)) moved

pub write-moved : (g : GeometryFields) (acts : List Act) (a : Act) (aim : Aim) (cells : List Cell) (place : ℕ) (out : List ℕ) → IsWrite g acts a aim cells place
    → IsMoved g a (answered g acts) cells (set cells place (written_cell g aim.deed a.payload (cell_in cells place))) out out (written_ready g aim a.payload (cell_in cells place))
write-moved g acts a aim cells place out w = by_rows (refusal_in g aim.deed (cell_in cells place)) refl
  where
    c : Cell
    c = cell_in cells place

    by_rows : (o : Option Status) → refusal_in g aim.deed c ≡ o
        → IsMoved g a (answered g acts) cells (set cells place (cell_by o (after_deed g aim.deed a.payload c) c)) out out
        (ready_by o (ready_with (told_by g aim.zone c.pointer aim.deed) (given_up (cell_use c) (cell_use (after_deed g aim.deed a.payload c)))))
    by_rows None e = done-moved g acts a aim cells place out w e
    by_rows (Some code) e = refused-moved g acts a aim cells place out code w e

-- by what the code does
pub write-told : (g : GeometryFields) (acts : List Act) (a : Act) (aim : Aim) (cells : List Cell) (place : ℕ) (d new : Cell) (payload out : List ℕ) (r : Ready) → IsWrite g acts a aim cells place → payload ≡ a.payload
    → new ≡ written_cell g aim.deed payload (get_or cells place d) → r ≡ written_ready g aim payload (get_or cells place d) → IsMoved g a (answered g acts) cells (set cells place new) out out r
write-told g acts a aim cells place d new payload out r w given new-is r-is =
    let h = answered g acts in
    let there : get_or cells place d ≡ cell_in cells place = get_or_default cells place d no_cell w.within in
    let new-is' : new ≡ written_cell g aim.deed a.payload (cell_in cells place) = new-is ∙ ap (written_cell g aim.deed payload) there ∙ ap (λ (p : List ℕ). written_cell g aim.deed p (cell_in cells place)) given in
    let r-is' : r ≡ written_ready g aim a.payload (cell_in cells place) = r-is ∙ ap (written_ready g aim payload) there ∙ ap (λ (p : List ℕ). written_ready g aim p (cell_in cells place)) given in
    transport (λ i. IsMoved g a h cells (set cells place (sym new-is' i)) out out (sym r-is' i)) (write-moved g acts a aim cells place out w)

-- the lent cells include the zone of its aim
pub aim-lent : (g : GeometryFields) (acts : List Act) (a : Act) (aim : Aim) (cells : List Cell) → IsGeometry g → CellsStand g (answered g acts) cells → AreLent g a (zones_in cells) → aim_of g (command_of a) ≡ Some aim → aim.zone < g.zones
    → first_holding (front_rows g (command_of a)) ≡ None → IsAmong g (answered g acts) cells aim.zone
aim-lent g acts a aim cells valid stand lent aims below passes = asking.among-of g a aim cells (book_at g acts 0) valid passes aims below (parts-of g acts a cells stand lent)

-- ---- what the code finds out

-- the command goes ahead
pub gone : (g : GeometryFields) (a : Act) (cells : List Cell) (k : Cmd) (b : Bool) → k ≡ command_of a → b ≡ goes_ahead g (opened_in cells) k → b ≡ true → goes_ahead g (opened_in cells) (command_of a) ≡ true
gone g a cells k b command is e = ap (goes_ahead g (opened_in cells)) (sym command) ∙ sym is ∙ e

-- no row of its front refuses it
pub passes-front : (g : GeometryFields) (a : Act) (k : Cmd) (o found : Option Status) → k ≡ command_of a → o ≡ first_holding (front_rows g k) → o ≡ found → first_holding (front_rows g (command_of a)) ≡ found
passes-front g a k o found command is e = ap (λ (c : Cmd). first_holding (front_rows g c)) (sym command) ∙ sym is ∙ e

pub aims-at : (g : GeometryFields) (a : Act) (k : Cmd) (o found : Option Aim) → k ≡ command_of a → o ≡ aim_of g k → o ≡ found → aim_of g (command_of a) ≡ found
aims-at g a k o found command is e = ap (aim_of g) (sym command) ∙ sym is ∙ e

-- ---- a Read

pub read-moved : (g : GeometryFields) (acts : List Act) (a : Act) (cells : List Cell) (nsid slba blocks n : ℕ) (c : Cell) (out out' : List ℕ) (o : Outcome) → IsGeometry g → CellsStand g (answered g acts) cells → AreLent g a (zones_in cells)
    → goes_ahead g (opened_in cells) (command_of a) ≡ true → command_of a ≡ cmd.Read nsid slba blocks → first_holding (front_rows g (command_of a)) ≡ None → aim_of g (command_of a) ≡ None → n ≡ (get_or cells 0 c).zone
    → length out' ≡ length out → blocks * block_len g ≤ length out → ReadServed g n cells slba blocks out out' o → IsMoved g a (answered g acts) cells cells out out' (ready_with o no_need)
read-moved g acts a cells nsid slba blocks n c out out' o valid stand lent ahead e passes plain at same room served =
    let h = answered g acts in
    let book = book_at g acts 0 in
    let parts = parts-of g acts a cells stand lent in
    let l = lent-read g a cells book nsid slba blocks valid parts e passes in
    let first = asking.first-zone g h cells _ n c l.among at in
    let done = lent-read-done g a cells book nsid slba blocks n out out' o valid parts e passes plain l first same room served in
    moved-of g acts a o no_need cells cells book out out' (ahead-at g h cells (command_of a) stand ahead) done (read-frees g h a nsid slba blocks e)
