-- The verdict, from what the driver finds out step by step.
use Rattle.std.proofs.Common.{◌≡◌, ℕ, ◌<◌, Bool, true, false, cond, List, Option, Some, None, length, refl, sym, ap, ◌∙◌, arith, get_or, set, get_or-set_other, length-set}
use Rattle.std.specs.Prelude.{◌&&◌, not, is_some, Ok, Err, All}
use Rattle.std.proofs.lemmas.List.{get_or_default}
use Rattle.std.proofs.lemmas.Bool.{and_parts}
use Rattle.zns_types.specs.declared.fields.GeometryFields.{GeometryFields}
use Rattle.zns_types.specs.Rows.{Row, first_holding}
use Rattle.zns_types.specs.Statuses.{Status}
use Rattle.zns_types.proofs.RowLemmas.{first_holding-append_some, first_holding-append_none}
use Rattle.zone_limits.specs.declared.limits.Limits.{Limits}
use Rattle.zone_limits.specs.declared.limits.Need.{Need}
use Rattle.zone_limits.specs.Resources.{at_limit, no_active_left, need_rows, evicts}
use Rattle.drive_rules.specs.declared.deed.Deed.{Deed}
use Rattle.drive_rules.specs.Deeds.{rows_for, need_for, Admits}
use Rattle.drive_rules.specs.Tables.{wants_room}
use Rattle.zone_cell.specs.Cells.{Cell, IsOf, sight}
use Rattle.zone_cell.specs.Deeds.{need_or_refusal, judgement, after_deed}
use Rattle.zone_room.specs.declared.serving.Served.TheVariants as served
use Rattle.zone_room.specs.Using.{AreCounted, EachIsCounted, HasNeeded}
use Rattle.zone_room.specs.Rooms.{no_cell, cell_in, cell_use, evictable_in, with_closed, counts_changed, counts_after_close}
use Rattle.zone_room.specs.Verdicts.{rows_at, need_at, victim_at, refused_or_done, verdict_on, verdict, cells_after, counts_after}
use Rattle.zone_room.proofs.Finding.{found_there}
use Rattle.zone_room.proofs.Judging.{wants-admitted, wants-refused}
use Rattle.zone_room.proofs.Making.{needed_left, one_fewer, fewer_counted, fewer_needed}
use Rattle.zone_room.proofs.Uses.{needs_unopened}

-- ---- by plain rows

on_refused : (g : GeometryFields) (n : Limits) (rows : List (Row Status)) (need : Need) (all : Bool) (victim : Option ℕ) (s : Status) → first_holding rows ≡ Some s → verdict_on g n rows need all victim ≡ served.Refused s
unfolding verdict_on
on_refused g n rows need all victim s e = rw (wants-refused g n rows need s e, first_holding-append_some rows (need_rows g n need (is_some victim)) s e) refl

on_widened : (g : GeometryFields) (n : Limits) (rows : List (Row Status)) (need : Need) (all : Bool) (victim : Option ℕ) → (wants_room g n rows need && not all) ≡ true → verdict_on g n rows need all victim ≡ served.Widens
unfolding verdict_on
on_widened g n rows need all victim e = rw e refl

on_admitted : (g : GeometryFields) (n : Limits) (rows : List (Row Status)) (need : Need) (all : Bool) (victim : Option ℕ) → first_holding rows ≡ None → (wants_room g n rows need && not all) ≡ false
    → verdict_on g n rows need all victim ≡ refused_or_done (first_holding (need_rows g n need (is_some victim)))
unfolding verdict_on
on_admitted g n rows need all victim none e = rw (e, first_holding-append_none rows (need_rows g n need (is_some victim)) none) refl

-- ---- what the check of the zone answers

pub admits : (o : Option Status) (need found : Need) → need_or_refusal o need ≡ Ok found → (o ≡ None) × (need ≡ found)
admits None need found e = (refl, cc)
admits (Some s) need found e = absurd cc

pub refuses : (o : Option Status) (need : Need) (s : Status) → need_or_refusal o need ≡ Err s → o ≡ Some s
refuses None need s e = absurd cc
refuses (Some r) need s e = let same : r ≡ s = cc in ap Some same

pub refused_at : (g : GeometryFields) (cells : List Cell) (n : Limits) (place : ℕ) (all : Bool) (d : Deed) (x : Cell) (s : Status) → place < length cells → judgement g d (get_or cells place x) ≡ Err s → verdict g cells n place all d ≡ served.Refused s
refused_at g cells n place all d x s lt e =
    let same = get_or_default cells place no_cell x lt in
    on_refused g n (rows_at g cells place d) (need_at cells place d) all (victim_at g cells n place d) s (ap (λ (c : Cell). first_holding (rows_for g d (sight c))) same ∙ refuses _ _ s e)

-- no row of the zone at a place refuses the deed, which has this need
record IsAdmitted (g : GeometryFields) (cells : List Cell) (place : ℕ) (d : Deed) (need : Need) : Type 0 where
  rows : first_holding (rows_at g cells place d) ≡ None
  need_is : need_at cells place d ≡ need

admitted_at : (g : GeometryFields) (cells : List Cell) (place : ℕ) (d : Deed) (x : Cell) (need : Need) → place < length cells → judgement g d (get_or cells place x) ≡ Ok need → IsAdmitted g cells place d need
admitted_at g cells place d x need lt e =
    let same = get_or_default cells place no_cell x lt in
    let parts = admits _ _ need e in
    record { rows = ap (λ (c : Cell). first_holding (rows_for g d (sight c))) same ∙ parts.0; need_is = ap (λ (c : Cell). need_for d (sight c)) same ∙ parts.1 }

-- ---- whether a zone has to give way

wants_at : (g : GeometryFields) (cells : List Cell) (n : Limits) (place : ℕ) (d : Deed) (need : Need) → IsAdmitted g cells place d need → wants_room g n (rows_at g cells place d) (need_at cells place d) ≡ (not (no_active_left g n need).holds && evicts g n need)
wants_at g cells n place d need a =
    wants-admitted g n (rows_at g cells place d) (need_at cells place d) a.rows ∙ ap (λ (u : Need). not (no_active_left g n u).holds && evicts g n u) a.need_is

pub widens_at : (g : GeometryFields) (cells : List Cell) (n : Limits) (place : ℕ) (all : Bool) (d : Deed) (need : Need) (wants : Bool) (x : Cell) → place < length cells → judgement g d (get_or cells place x) ≡ Ok need → wants ≡ (not (no_active_left g n need).holds && evicts g n need)
    → wants ≡ true → all ≡ false → verdict g cells n place all d ≡ served.Widens
widens_at g cells n place all d need wants x lt checked is on off =
    let a = admitted_at g cells place d x need lt checked in
    let wanted : wants_room g n (rows_at g cells place d) (need_at cells place d) ≡ true = wants_at g cells n place d need a ∙ sym is ∙ on in
    on_widened g n (rows_at g cells place d) (need_at cells place d) all (victim_at g cells n place d) (rw (wanted, off) refl)

-- the zone at y is the one that gives way, and an open resource is needed
pub record GivesWay (cells : List Cell) (place : ℕ) (need : Need) (y : ℕ) : Type 0 where
  pub found : evictable_in cells place ≡ Some y
  pub opened : need.opened ≡ true

-- what is known before the rows for the needed resources judge
pub record IsReady (g : GeometryFields) (cells : List Cell) (n : Limits) (place : ℕ) (all : Bool) (d : Deed) (need : Need) (victim : Option ℕ) : Type 0 where
  pub rows : first_holding (rows_at g cells place d) ≡ None
  pub need_is : need_at cells place d ≡ need
  pub narrow : (wants_room g n (rows_at g cells place d) (need_at cells place d) && not all) ≡ false
  pub victim_is : victim_at g cells n place d ≡ victim
  pub gives : (y : ℕ) → victim ≡ Some y → GivesWay cells place need y

only_where : (b : Bool) (o : Option ℕ) (y : ℕ) → cond b o None ≡ Some y → (b ≡ true) × (o ≡ Some y)
only_where true o y e = (refl, e)
only_where false o y e = absurd cc

pub ready : (g : GeometryFields) (cells : List Cell) (n : Limits) (place : ℕ) (all : Bool) (d : Deed) (need : Need) (wants : Bool) (victim : Option ℕ) (x : Cell) → place < length cells → judgement g d (get_or cells place x) ≡ Ok need
    → wants ≡ (not (no_active_left g n need).holds && evicts g n need) → (wants && not all) ≡ false → victim ≡ cond wants (evictable_in cells place) None → IsReady g cells n place all d need victim
ready g cells n place all d need wants victim x lt checked is narrow found =
    let a = admitted_at g cells place d x need lt checked in
    let wanted : wants_room g n (rows_at g cells place d) (need_at cells place d) ≡ wants = wants_at g cells n place d need a ∙ sym is in
    record {
      rows = a.rows;
      need_is = a.need_is;
      narrow = rw wanted narrow;
      victim_is = ap (λ (b : Bool). cond b (evictable_in cells place) None) wanted ∙ sym found;
      gives = λ y some. let parts = only_where wants (evictable_in cells place) y (sym found ∙ some) in
          record { found = parts.1; opened = (and_parts need.opened (at_limit g.open_limit n.opened) (and_parts _ _ (sym is ∙ parts.0)).1).0 };
    }

-- ---- the wants of resources

judged : (g : GeometryFields) (cells : List Cell) (n : Limits) (place : ℕ) (all : Bool) (d : Deed) (need : Need) (victim : Option ℕ) → IsReady g cells n place all d need victim
    → verdict g cells n place all d ≡ refused_or_done (first_holding (need_rows g n need (is_some victim)))
judged g cells n place all d need victim r =
    on_admitted g n (rows_at g cells place d) (need_at cells place d) all (victim_at g cells n place d) r.rows r.narrow ∙ ap (λ (u : Need). refused_or_done (first_holding (need_rows g n u (is_some (victim_at g cells n place d))))) r.need_is ∙ ap (λ (o : Option ℕ). refused_or_done (first_holding (need_rows g n need (is_some o)))) r.victim_is

pub wanting_at : (g : GeometryFields) (cells : List Cell) (n : Limits) (place : ℕ) (all : Bool) (d : Deed) (need : Need) (victim : Option ℕ) (s : Status) → IsReady g cells n place all d need victim → first_holding (need_rows g n need (is_some victim)) ≡ Some s
    → verdict g cells n place all d ≡ served.Refused s
wanting_at g cells n place all d need victim s r e = judged g cells n place all d need victim r ∙ ap refused_or_done e

pub done_at : (g : GeometryFields) (cells : List Cell) (n : Limits) (place : ℕ) (all : Bool) (d : Deed) (need : Need) (victim : Option ℕ) → IsReady g cells n place all d need victim → first_holding (need_rows g n need (is_some victim)) ≡ None
    → verdict g cells n place all d ≡ served.Done
done_at g cells n place all d need victim r e = judged g cells n place all d need victim r ∙ ap refused_or_done e

-- ---- after a zone gave way, or none

-- what is known of the target, read with a default
pub record IsTarget (g : GeometryFields) (cells new : List Cell) (m : Limits) (place : ℕ) (d : Deed) (x : Cell) : Type 0 where
  pub same : get_or new place x ≡ cell_in cells place
  pub of : IsOf g (get_or new place x)
  pub admitted : Admits g (sight (get_or new place x)) d
  pub counted : AreCounted g m (cell_use (get_or new place x))
  pub needed : HasNeeded g m (need_for d (sight (get_or new place x)))

length-with_closed : (g : GeometryFields) (victim : Option ℕ) (cells : List Cell) → length (with_closed g victim cells) ≡ length cells
length-with_closed g None cells = refl
length-with_closed g (Some y) cells = length-set cells y _

record IsMade (g : GeometryFields) (cells : List Cell) (m : Limits) (place : ℕ) (need : Need) (victim : Option ℕ) : Type 0 where
  same : cell_in (with_closed g victim cells) place ≡ cell_in cells place
  counted : AreCounted g m (cell_use (cell_in cells place))
  needed : HasNeeded g m need

made : (g : GeometryFields) (cells : List Cell) (n : Limits) (place : ℕ) (d : Deed) (need : Need) (victim : Option ℕ) → need_at cells place d ≡ need → ((y : ℕ) → victim ≡ Some y → GivesWay cells place need y) → EachIsCounted g n cells → place < length cells
    → first_holding (need_rows g n need (is_some victim)) ≡ None → IsMade g cells (counts_after_close victim cells n) place need victim
made g cells n place d need None need_is gives each lt none = record { same = refl; counted = each place no_cell lt; needed = needed_left g n need none }
made g cells n place d need (Some y) need_is gives each lt none =
    let way = gives y refl in
    let there = found_there cells place y way.found in
    let l = one_fewer g (cell_in cells y) n there.opened (each y no_cell there.below) in
    let off = needs_unopened d (sight (cell_in cells place)) (ap (λ (u : Need). u.opened) need_is ∙ way.opened) in
    record {
      same = get_or-set_other cells y place _ no_cell (λ e. there.apart (sym e));
      counted = fewer_counted g n _ (cell_use (cell_in cells place)) l off (each place no_cell lt);
      needed = fewer_needed g n _ need l none;
    }

pub target : (g : GeometryFields) (cells new : List Cell) (n m : Limits) (place : ℕ) (all : Bool) (d : Deed) (need : Need) (victim : Option ℕ) (x : Cell) → IsReady g cells n place all d need victim → EachIsCounted g n cells → place < length cells
    → first_holding (need_rows g n need (is_some victim)) ≡ None → new ≡ with_closed g victim cells → m ≡ counts_after_close victim cells n → All (IsOf g) new → IsTarget g cells new m place d x
target g cells new n m place all d need victim x r each lt none now counts of =
    let made_is = made g cells n place d need victim r.need_is r.gives each lt none in
    let len : place < length new = omega (arith, ap length now, length-with_closed g victim cells) in
    let same : get_or new place x ≡ cell_in cells place = get_or_default new place x no_cell len ∙ ap (λ (l : List Cell). cell_in l place) now ∙ made_is.same in
    record { same = same; of = of place x len; admitted = rw same r.rows; counted = rw (same, counts) made_is.counted; needed = rw (same, counts, r.need_is) made_is.needed }

-- ---- after the deed

pub cells_done : (g : GeometryFields) (cells new : List Cell) (n : Limits) (place : ℕ) (all : Bool) (d : Deed) (payload : List ℕ) (need : Need) (victim : Option ℕ) (x y : Cell) → IsReady g cells n place all d need victim → verdict g cells n place all d ≡ served.Done
    → new ≡ with_closed g victim cells → x ≡ cell_in cells place → y ≡ after_deed g d payload x → set new place y ≡ cells_after g cells n place all d payload
cells_done g cells new n place all d payload need victim x y r done now same changed = rw (done, r.victim_is, now, changed, same) refl

pub counts_done : (g : GeometryFields) (cells : List Cell) (n m : Limits) (place : ℕ) (all : Bool) (d : Deed) (payload : List ℕ) (need : Need) (victim : Option ℕ) (x : Cell) → IsReady g cells n place all d need victim → verdict g cells n place all d ≡ served.Done
    → m ≡ counts_after_close victim cells n → x ≡ cell_in cells place → counts_changed x (after_deed g d payload x) m ≡ counts_after g cells n place all d payload
counts_done g cells n m place all d payload need victim x r done counts same = rw (done, r.victim_is, counts, same) refl
