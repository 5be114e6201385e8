-- The outcome of a Send, from what is found out about it step by step.
use Rattle.std.proofs.Common.{◌≡◌, Bool, true, false, List, [], ◌∷◌, ◌++◌, length, Option, Some, None, refl, ap, ◌∙◌}
use Rattle.std.specs.Prelude.{◌&&◌, not, is_none, is_some, if◌then◌else◌, Ok, Err}
use Rattle.std.proofs.lemmas.Bool.{eq-eqb}
use Rattle.std.proofs.lemmas.List.{append_assoc}
use Rattle.zns_types.specs.declared.fields.GeometryFields.{GeometryFields}
use Rattle.zns_types.specs.Rows.{Row, first_holding}
use Rattle.zns_types.specs.Statuses.{Status}
use Rattle.zns_types.proofs.RowLemmas.{first_holding-append_none}
use Rattle.sqe_codec.specs.declared.cmd.Cmd.{Cmd}
use Rattle.zone_limits.specs.declared.limits.Limits.{Limits}
use Rattle.zone_limits.specs.declared.limits.Need.{Need}
use Rattle.zone_limits.specs.Resources.{no_active_left, evicts}
use Rattle.drive_rules.specs.declared.deed.Deed.{Deed}
use Rattle.drive_rules.specs.declared.aim.Aim.{Aim}
use Rattle.drive_rules.specs.Aims.{aim_of, sweep_of}
use Rattle.drive_rules.specs.Deeds.{rows_for, need_for}
use Rattle.drive_rules.specs.Tables.{front_rows, wants_room}
use Rattle.zone_cell.specs.Cells.{Cell, sight}
use Rattle.zone_cell.specs.Deeds.{judgement}
use Rattle.zone_room.specs.declared.serving.Served.TheVariants as served
use Rattle.zone_room.specs.Rooms.{cell_in}
use Rattle.zone_room.specs.Verdicts.{rows_at, need_at, refused_or_done, verdict_on, verdict}
use Rattle.zone_room.proofs.Judging.{wants-admitted, wants-refused}
use Rattle.zone_room.proofs.Verdicts.{admits, refuses}
use Rattle.mgmt_send.specs.Acting.{place_of, are_all, needs_all, AreLentFor, CanLook, no_change, outcome_of_aim, outcome_of_sweep, outcome}

pub refused_first : (g : GeometryFields) (cells : List Cell) (n : Limits) (k : Cmd) (s : Status) → first_holding (front_rows g k) ≡ Some s → outcome g cells n k ≡ no_change s cells n
unfolding outcome
refused_first g cells n k s e = rw e refl

pub done_to_one : (g : GeometryFields) (cells : List Cell) (n : Limits) (k : Cmd) (a : Aim) → first_holding (front_rows g k) ≡ None → aim_of g k ≡ Some a → outcome g cells n k ≡ outcome_of_aim g cells n a
unfolding outcome
done_to_one g cells n k a none aim = rw (none, aim) refl

pub done_to_all : (g : GeometryFields) (cells : List Cell) (n : Limits) (k : Cmd) (d : Deed) → first_holding (front_rows g k) ≡ None → aim_of g k ≡ None → sweep_of k ≡ Some d → outcome g cells n k ≡ outcome_of_sweep g cells n d
unfolding outcome
done_to_all g cells n k d none aim sweep = rw (none, aim, sweep) refl

-- ---- whether all zones are needed

-- rows that pass don't matter
same_wants : (g : GeometryFields) (n : Limits) (front rows : List (Row Status)) (need : Need) → first_holding front ≡ None → wants_room g n (front ++ rows) need ≡ wants_room g n rows need
same_wants g n front rows need none =
    ap (λ (o : Option Status). is_none o && evicts g n need) (ap first_holding (append_assoc front rows (no_active_left g n need ∷ [])) ∙ first_holding-append_none front (rows ++ no_active_left g n need ∷ []) none)

-- for the zone's own rows
needs-rows : (g : GeometryFields) (c : Cell) (n : Limits) (k : Cmd) (a : Aim) → first_holding (front_rows g k) ≡ None → aim_of g k ≡ Some a → needs_all g c n k ≡ wants_room g n (rows_for g a.deed (sight c)) (need_for a.deed (sight c))
needs-rows g c n k a none aim = rw aim (same_wants g n (front_rows g k) (rows_for g a.deed (sight c)) (need_for a.deed (sight c)) none)

pub needs-admitted : (g : GeometryFields) (c : Cell) (n : Limits) (k : Cmd) (a : Aim) (need : Need) → first_holding (front_rows g k) ≡ None → aim_of g k ≡ Some a → judgement g a.deed c ≡ Ok need
    → needs_all g c n k ≡ (not (no_active_left g n need).holds && evicts g n need)
needs-admitted g c n k a need none aim checked =
    let parts = admits _ _ need checked in
    needs-rows g c n k a none aim ∙ wants-admitted g n (rows_for g a.deed (sight c)) (need_for a.deed (sight c)) parts.0 ∙ ap (λ (u : Need). not (no_active_left g n u).holds && evicts g n u) parts.1

pub needs-refused : (g : GeometryFields) (c : Cell) (n : Limits) (k : Cmd) (a : Aim) (s : Status) → first_holding (front_rows g k) ≡ None → aim_of g k ≡ Some a → judgement g a.deed c ≡ Err s → needs_all g c n k ≡ false
needs-refused g c n k a s none aim checked = needs-rows g c n k a none aim ∙ wants-refused g n (rows_for g a.deed (sight c)) (need_for a.deed (sight c)) s (refuses _ _ s checked)

pub can_look : (g : GeometryFields) (cells : List Cell) (n : Limits) (k : Cmd) (a : Aim) → AreLentFor g cells n k → first_holding (front_rows g k) ≡ None → aim_of g k ≡ Some a → CanLook g cells n a
can_look g cells n k a lent none aim = λ wants. lent.room a aim (needs-rows g (cell_in cells (place_of cells a.zone)) n k a none aim ∙ wants)

-- if all zones are lent whenever they are needed, no verdict asks for them
pub never_widens : (g : GeometryFields) (cells : List Cell) (n : Limits) (a : Aim) → CanLook g cells n a → verdict g cells n (place_of cells a.zone) (are_all g cells) a.deed ≡ served.Widens → ⊥
unfolding verdict_on
never_widens g cells n a look e = by_case (wants_room g n (rows_at g cells (place_of cells a.zone) a.deed) (need_at cells (place_of cells a.zone) a.deed)) (are_all g cells) _ (λ wants. eq-eqb (length cells) g.zones (look wants)) e
  where
    by_case : (wants all : Bool) (o : Option Status) → (wants ≡ true → all ≡ true) → (if wants && not all then served.Widens else refused_or_done o) ≡ served.Widens → ⊥
    by_case true false o look e = cc (look refl)
    by_case true true None look e = cc e
    by_case true true (Some s) look e = cc e
    by_case false all None look e = cc e
    by_case false all (Some s) look e = cc e

pub not_refused : (o : Option Status) → is_some o ≡ false → o ≡ None
not_refused None e = refl
not_refused (Some s) e = absurd (cc e)
