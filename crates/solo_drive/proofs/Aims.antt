-- A deed to one of the lent cells turns all of them into those of the longer history, and the counts into its counts.
use Rattle.std.proofs.Common.{◌≡◌, ◌≢◌, ℕ, ◌+◌, ◌<◌, ◌≤◌, Bool, true, false, cond, List, Option, Some, None, length, set, refl, sym, ap, ◌∙◌, arith, inl, inr}
use Rattle.std.specs.Prelude.{◌==◌, ◌&&◌, ◌⊎◌, not}
use Rattle.std.specs.List.{range_with_len}
use Rattle.std.proofs.lemmas.Bool.{ne_eqb}
use Rattle.std.proofs.lemmas.List.FromFn.{length-map-range_with_len, get_or-map-range_with_len}
use Rattle.zns_types.specs.declared.fields.GeometryFields.{GeometryFields}
use Rattle.zns_types.specs.States.{is_implicitly_opened}
use Rattle.zns_types.specs.Geometry.{IsGeometry}
use Rattle.zns_types.specs.Statuses.{is_success}
use Rattle.zns_types.specs.Rows.{first_holding}
use Rattle.sqe_codec.specs.Commands.{transfer_len}
use Rattle.zone_limits.specs.declared.limits.Limits.{Limits}
use Rattle.zone_limits.specs.declared.limits.Need.{Need}
use Rattle.zone_limits.specs.Resources.{recounted}
use Rattle.drive_rules.specs.declared.deed.Deed.TheVariants as deed
use Rattle.drive_rules.specs.declared.aim.Aim.{Aim}
use Rattle.drive_rules.specs.Deeds.{use_of, closed_use}
use Rattle.drive_rules.specs.Aims.{aim_of}
use Rattle.drive_rules.specs.Tables.{front_rows, wants_room}
use Rattle.zone_cell.specs.Cells.{Cell, sight}
use Rattle.zone_cell.specs.Deeds.{after_deed}
use Rattle.zone_room.specs.Rooms.{no_cell, cell_in, cell_use, evictable_in, with_closed, counts_after_close}
use Rattle.zone_room.specs.Verdicts.{rows_at, need_at, victim_at}
use Rattle.cell_history.proofs.Lists.{set-map-range, set-two-map-range, find-range_same}
use Rattle.zone_model.specs.declared.act.Act.{Act}
use Rattle.zone_model.specs.Places.{Place, command_of}
use Rattle.zone_model.specs.Zones.{state, zone, zones, uses, counts}
use Rattle.zone_model.specs.Counting.{after_close}
use Rattle.zone_model.specs.Answers.{status, evictable, evicted, is_zone, or_close, zone_deed, and_then, answered}
use Rattle.zone_model.proofs.OneCounted.{aim-gives_way, deed-other, deed-aim, deed-evicted, one_is_counted}
use Rattle.solo_drive.specs.Parts.{cell_at, cells_at}
use Rattle.solo_drive.proofs.Cells.{sight-cell, cell-idle, cell-done}
use Rattle.solo_drive.proofs.Judging.{aim_wants, evicted-aim}

-- the cells of consecutive zones, with the zone of an aim at a place among them
pub record AimsAt (g : GeometryFields) (h : List Place) (aim : Aim) (cells : List Cell) (first n place : ℕ) : Type 0 where
  pub lent : cells ≡ cells_at g h (range_with_len first n)
  pub within : first + n ≤ g.zones
  pub among : place < n
  pub zone : first + place ≡ aim.zone

-- ---- what the lent cells show

pub cell-at : (g : GeometryFields) (h : List Place) (cells : List Cell) (first n i : ℕ) → cells ≡ cells_at g h (range_with_len first n) → i < n → cell_in cells i ≡ cell_at g h (first + i)
cell-at g h cells first n i is lt = ap (λ (cs : List Cell). cell_in cs i) is ∙ get_or-map-range_with_len (cell_at g h) first n i (first + i) no_cell lt refl

pub aim-cell : (g : GeometryFields) (h : List Place) (aim : Aim) (cells : List Cell) (first n place : ℕ) → AimsAt g h aim cells first n place → cell_in cells place ≡ cell_at g h aim.zone
aim-cell g h aim cells first n place at = cell-at g h cells first n place at.lent at.among ∙ ap (cell_at g h) at.zone

pub aim-sight : (g : GeometryFields) (h : List Place) (aim : Aim) (cells : List Cell) (first n place : ℕ) → AimsAt g h aim cells first n place → sight (cell_in cells place) ≡ zone g h aim.zone
aim-sight g h aim cells first n place at = ap sight (aim-cell g h aim cells first n place at) ∙ sight-cell g h aim.zone

-- among the cells of all zones the first that can give way is at the place of its number
pub evictable-all : (g : GeometryFields) (h : List Place) (cells : List Cell) (target : ℕ) → cells ≡ cells_at g h (zones g) → evictable_in cells target ≡ evictable g h (Some target)
evictable-all g h cells target is =
    let len : length cells ≡ g.zones = ap length is ∙ length-map-range_with_len (cell_at g h) 0 g.zones in
    rw len
    (find-range_same _ _ 0 g.zones (λ z low high.
    let there : (cell_in cells z).state ≡ state g h z = ap (λ (c : Cell). (sight c).state) (cell-at g h cells 0 g.zones z is (omega arith)) ∙ ap (λ x. x.state) (sight-cell g h (0 + z)) ∙ ap (state g h) (omega arith) in
    ap (λ s. is_implicitly_opened s && not (z == target)) there))

-- ---- the zone that gives way

pub wants-at : (g : GeometryFields) (h : List Place) (aim : Aim) (cells : List Cell) (n : Limits) (first count place : ℕ) → AimsAt g h aim cells first count place → n ≡ counts g h
    → wants_room g n (rows_at g cells place aim.deed) (need_at cells place aim.deed) ≡ aim_wants g h aim
wants-at g h aim cells n first count place at is = rw (is, aim-sight g h aim cells first count place at) refl

-- the lent cells are those of all zones, or no zone has to give way
abbrev pub Wide : GeometryFields → List Place → Aim → ℕ → ℕ → Type 0
Wide g h aim first count = (aim_wants g h aim ≡ false) ⊎ ((first ≡ 0) × (count ≡ g.zones))

pub victim-is : (g : GeometryFields) (h : List Place) (a : Act) (aim : Aim) (cells : List Cell) (n : Limits) (first count place : ℕ) → AimsAt g h aim cells first count place → n ≡ counts g h
    → aim_of g (command_of a) ≡ Some aim → first_holding (front_rows g (command_of a)) ≡ None → Wide g h aim first count → victim_at g cells n place aim.deed ≡ evicted g h a
victim-is g h a aim cells n first count place at is e none wide = ap (λ (b : Bool). cond b (evictable_in cells place) None) (wants-at g h aim cells n first count place at is) ∙ by_width wide ∙ sym (evicted-aim g h a aim e none)
  where
    by_width : Wide g h aim first count → cond (aim_wants g h aim) (evictable_in cells place) None ≡ cond (aim_wants g h aim) (evictable g h (Some aim.zone)) None
    by_width (inl unneeded) = rw unneeded refl
    by_width (inr all) =
        let whole : cells ≡ cells_at g h (zones g) = at.lent ∙ ap (λ (k : ℕ). cells_at g h (range_with_len k count)) all.0 ∙ ap (λ (k : ℕ). cells_at g h (range_with_len 0 k)) all.1 in
        let here : place ≡ aim.zone = omega (arith, at.zone, all.0) in
        ap (λ (o : Option ℕ). cond (aim_wants g h aim) o None) (evictable-all g h cells place whole ∙ ap (λ (z : ℕ). evictable g h (Some z)) here)

-- ---- the deed is done

-- what is known of an act that does a deed to one zone
pub record IsDone (g : GeometryFields) (acts : List Act) (a : Act) (aim : Aim) : Type 0 where
  pub valid : IsGeometry g
  pub len : length a.payload ≡ transfer_len g (command_of a)
  pub aims : aim_of g (command_of a) ≡ Some aim
  pub passes : first_holding (front_rows g (command_of a)) ≡ None
  pub ok : is_success (status g (answered g acts) a) ≡ true

-- the cell of its zone
pub aim-done : (g : GeometryFields) (acts : List Act) (a : Act) (aim : Aim) (cells : List Cell) (first count place : ℕ) → IsDone g acts a aim → AimsAt g (answered g acts) aim cells first count place
    → after_deed g aim.deed a.payload (cell_in cells place) ≡ cell_at g (and_then g (answered g acts) a) aim.zone
aim-done g acts a aim cells first count place d at =
    ap (after_deed g aim.deed a.payload) (aim-cell g (answered g acts) aim cells first count place at) ∙ cell-done g acts a aim.zone aim.deed d.valid d.len (deed-aim g (answered g acts) a aim d.aims d.ok)

-- nothing is done to any zone but these two
other-idle : (g : GeometryFields) (h : List Place) (a : Act) (aim : Aim) (z : ℕ) → aim_of g (command_of a) ≡ Some aim → is_success (status g h a) ≡ true → z ≢ aim.zone → is_zone z (evicted g h a) ≡ false → zone_deed g h a z ≡ None
other-idle g h a aim z is ok apart kept = deed-other g h a aim z is ok apart ∙ ap (or_close None) kept

not_zone : (z y : ℕ) → z ≢ y → is_zone z (Some y) ≡ false
not_zone z y apart = ne_eqb y z (λ is. apart (sym is))

-- all of them
pub cells-done : (g : GeometryFields) (acts : List Act) (a : Act) (aim : Aim) (cells : List Cell) (first count place : ℕ) → IsDone g acts a aim → AimsAt g (answered g acts) aim cells first count place
    → Wide g (answered g acts) aim first count → (v : Option ℕ) → evicted g (answered g acts) a ≡ v
    → set (with_closed g v cells) place (after_deed g aim.deed a.payload (cell_in cells place)) ≡ cells_at g (and_then g (answered g acts) a) (range_with_len first count)
cells-done g acts a aim cells first count place d at wide None e =
    let h = answered g acts in
    let h' = and_then g h a in
    let here : after_deed g aim.deed a.payload (cell_in cells place) ≡ cell_at g h' (first + place) = aim-done g acts a aim cells first count place d at ∙ ap (cell_at g h') (sym at.zone) in
    ap (λ (cs : List Cell). set cs place (after_deed g aim.deed a.payload (cell_in cells place))) at.lent
    ∙ ap (λ (c : Cell). set (cells_at g h (range_with_len first count)) place c) here
    ∙ set-map-range (cell_at g h) (cell_at g h') first count place at.among
    (λ x apart. let off : x ≢ aim.zone = λ here. apart (here ∙ sym at.zone) in cell-idle g h a x (other-idle g h a aim x d.aims d.ok off (ap (is_zone x) e)))
cells-done g acts a aim cells first count place d at (inl unneeded) (Some y) e =
    let none : evicted g (answered g acts) a ≡ None = evicted-aim g (answered g acts) a aim d.aims d.passes ∙ rw unneeded refl in
    absurd (cc (none, e))
cells-done g acts a aim cells first count place d at (inr all) (Some y) e =
    let h = answered g acts in
    let h' = and_then g h a in
    let way = aim-gives_way g h a aim y d.aims e in
    let apart : y ≢ aim.zone = way.other aim.zone refl in
    let y_lt : y < count = omega (arith, way.within, all.1) in
    let y_at : first + y ≡ y = omega (arith, all.0) in
    let there : after_deed g deed.Close a.payload (cell_in cells y) ≡ cell_at g h' (first + y) =
    ap (after_deed g deed.Close a.payload) (cell-at g h cells first count y at.lent y_lt ∙ ap (cell_at g h) y_at) ∙ cell-done g acts a y deed.Close d.valid d.len (deed-evicted g h a aim y d.aims d.ok e) ∙ ap (cell_at g h') (sym y_at) in
    let here : after_deed g aim.deed a.payload (cell_in cells place) ≡ cell_at g h' (first + place) = aim-done g acts a aim cells first count place d at ∙ ap (cell_at g h') (sym at.zone) in
    ap (λ (cs : List Cell). set (set cs y (after_deed g deed.Close a.payload (cell_in cells y))) place (after_deed g aim.deed a.payload (cell_in cells place))) at.lent
    ∙ ap (λ (c : Cell). set (set (cells_at g h (range_with_len first count)) y c) place (after_deed g aim.deed a.payload (cell_in cells place))) there
    ∙ ap (λ (c : Cell). set (set (cells_at g h (range_with_len first count)) y (cell_at g h' (first + y))) place c) here
    ∙ set-two-map-range (cell_at g h) (cell_at g h') first count y place y_lt at.among
    (λ x off_y off_t.
    let off : x ≢ aim.zone = λ here. off_t (here ∙ sym at.zone) in
    let other : x ≢ y = λ here. off_y (here ∙ sym y_at) in
    cell-idle g h a x (other-idle g h a aim x d.aims d.ok off (ap (is_zone x) e ∙ not_zone x y other)))

same_recount : (a b c d : Need) (n m : Limits) → a ≡ b → c ≡ d → n ≡ m → recounted a c n ≡ recounted b d m
same_recount a b c d n m p q r = ap (λ (x : Need). recounted x c n) p ∙ ap (λ (x : Need). recounted b x n) q ∙ ap (recounted b d) r

-- and the counts
pub counts-done : (g : GeometryFields) (acts : List Act) (a : Act) (aim : Aim) (cells : List Cell) (n : Limits) (first count place : ℕ) → IsDone g acts a aim → AimsAt g (answered g acts) aim cells first count place
    → n ≡ counts g (answered g acts) → Wide g (answered g acts) aim first count → (v : Option ℕ) → evicted g (answered g acts) a ≡ v
    → recounted (cell_use (cell_in cells place)) (cell_use (after_deed g aim.deed a.payload (cell_in cells place))) (counts_after_close v cells n) ≡ counts g (and_then g (answered g acts) a)
counts-done g acts a aim cells n first count place d at is wide v e =
    let h = answered g acts in
    let h' = and_then g h a in
    let before : cell_use (cell_in cells place) ≡ uses g h aim.zone = ap use_of (aim-sight g h aim cells first count place at) in
    let after : cell_use (after_deed g aim.deed a.payload (cell_in cells place)) ≡ uses g h' aim.zone = ap cell_use (aim-done g acts a aim cells first count place d at) ∙ ap use_of (sight-cell g h' aim.zone) in
    let lt : aim.zone < g.zones = omega (arith, at.zone, at.among, at.within) in
    same_recount (cell_use (cell_in cells place)) (uses g h aim.zone) (cell_use (after_deed g aim.deed a.payload (cell_in cells place))) (uses g h' aim.zone) (counts_after_close v cells n) (after_close g h v (counts g h)) before after (closing v wide e)
    ∙ (ap (λ (o : Option ℕ). recounted (uses g h aim.zone) (uses g h' aim.zone) (after_close g h o (counts g h))) (sym e) ∙ sym (one_is_counted g h a aim d.aims lt d.ok))
  where
    closing : (v : Option ℕ) → Wide g (answered g acts) aim first count → evicted g (answered g acts) a ≡ v → counts_after_close v cells n ≡ after_close g (answered g acts) v (counts g (answered g acts))
    closing None wide e = is
    closing (Some y) (inl unneeded) e = let none : evicted g (answered g acts) a ≡ None = evicted-aim g (answered g acts) a aim d.aims d.passes ∙ rw unneeded refl in absurd (cc (none, e))
    closing (Some y) (inr all) e =
        let h = answered g acts in
        let way = aim-gives_way g h a aim y d.aims e in
        let y_lt : y < count = omega (arith, way.within, all.1) in
        let y_at : first + y ≡ y = omega (arith, all.0) in
        let used : cell_use (cell_in cells y) ≡ uses g h y = ap cell_use (cell-at g h cells first count y at.lent y_lt ∙ ap (cell_at g h) y_at) ∙ ap use_of (sight-cell g h y) in
        same_recount (cell_use (cell_in cells y)) (uses g h y) (closed_use (cell_use (cell_in cells y))) (closed_use (uses g h y)) n (counts g h) used (ap closed_use used) is
