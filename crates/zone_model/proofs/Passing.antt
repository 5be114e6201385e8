-- When an act succeeds, no row of its command holds.
use Rattle.std.proofs.Common.{◌≡◌, ℕ, Bool, true, false, cond, List, [], ◌∷◌, ◌++◌, Option, Some, None, refl}
use Rattle.std.specs.Prelude.{◌&&◌, ◌==◌, not, is_some, unwrap_or}
use Rattle.std.specs.List.{list_all}
use Rattle.std.proofs.lemmas.Bool.{and_parts, and_from, not-true}
use Rattle.std.proofs.lemmas.List.Folds.{list_all-append}
use Rattle.zns_types.specs.declared.fields.GeometryFields.{GeometryFields}
use Rattle.zns_types.specs.Statuses.{Status, success, is_success}
use Rattle.zns_types.specs.Rows.{Row, first_holding}
use Rattle.sqe_codec.specs.declared.cmd.Cmd.{Cmd}
use Rattle.sqe_codec.specs.declared.cmd.Cmd.TheVariants as cmd
use Rattle.zone_limits.specs.declared.limits.Limits.{Limits}
use Rattle.zone_limits.specs.Resources.{need_rows}
use Rattle.drive_rules.specs.declared.deed.Deed.{Deed}
use Rattle.drive_rules.specs.declared.deed.Deed.TheVariants as deed
use Rattle.drive_rules.specs.declared.aim.Aim.{Aim}
use Rattle.drive_rules.specs.ZoneRows.{Zone}
use Rattle.drive_rules.specs.Deeds.{rows_for}
use Rattle.drive_rules.specs.Aims.{aim_of, open_code}
use Rattle.drive_rules.specs.Tables.{Table, first_refusal, front_rows, send_all_rows}
use Rattle.zone_model.specs.declared.act.Act.{Act}
use Rattle.zone_model.specs.Places.{Place, command_of}
use Rattle.zone_model.specs.Zones.{counts, closed_zones}
use Rattle.zone_model.specs.Answers.{own_rows, table_by, table_of, evictable, all_rows, status}

-- no row answers Success
abbrev pub refuses : List (Row Status) → Bool
refuses rs = list_all (λ r. not (is_success r.answer)) rs

-- so a success means that no row holds
pub success-none : (rs : List (Row Status)) → refuses rs ≡ true → is_success (first_refusal rs) ≡ true → first_holding rs ≡ None
success-none [] codes e = refl
success-none (r ∷ rs) codes e =
    let parts = and_parts (not (is_success r.answer)) (refuses rs) codes in
    by_first r.holds r.answer (first_holding rs) (not-true _ parts.0) (success-none rs parts.1) e
  where
    by_first : (b : Bool) (code : Status) (rest : Option Status) → is_success code ≡ false → (is_success (unwrap_or rest success) ≡ true → rest ≡ None)
        → is_success (unwrap_or (cond b (Some code) rest) success) ≡ true → cond b (Some code) rest ≡ None
    by_first true code rest refusal k e = absurd (cc (refusal, e))
    by_first false code rest refusal k e = k e

-- if no row of two tables together holds, none of either does
pub none-parts : (rs more : List (Row Status)) → first_holding (rs ++ more) ≡ None → (first_holding rs ≡ None) × (first_holding more ≡ None)
none-parts [] more e = (refl, e)
none-parts (r ∷ rs) more e = by_first r.holds e (none-parts rs more)
  where
    by_first : (b : Bool) → cond b (Some r.answer) (first_holding (rs ++ more)) ≡ None → (first_holding (rs ++ more) ≡ None → (first_holding rs ≡ None) × (first_holding more ≡ None))
        → (cond b (Some r.answer) (first_holding rs) ≡ None) × (first_holding more ≡ None)
    by_first true e k = absurd (cc e)
    by_first false e k = k e

-- ---- every row of a table refuses

front_rows-refuse : (g : GeometryFields) (k : Cmd) → refuses (front_rows g k) ≡ true
front_rows-refuse g (cmd.Flush nsid) = refl
front_rows-refuse g _ = refl

pub rows_for-refuse : (g : GeometryFields) (d : Deed) (zone : Zone) → refuses (rows_for g d zone) ≡ true
rows_for-refuse g deed.Close zone = refl
rows_for-refuse g _ zone = refl

send_all-refuse : (g : GeometryFields) (n : Limits) (closed : ℕ) (all : Bool) (act : ℕ) → refuses (send_all_rows g n closed all act) ≡ true
send_all-refuse g n closed all act = by_case (all && (act == open_code)) refl
  where
    by_case : (b : Bool) → (all && (act == open_code)) ≡ b → refuses (send_all_rows g n closed all act) ≡ true
    by_case true e = rw e refl
    by_case false e = rw e refl

own_rows-refuse : (g : GeometryFields) (h : List Place) (k : Cmd) → refuses (own_rows g h k) ≡ true
own_rows-refuse g h (cmd.Send nsid slba act all option) = send_all-refuse g (counts g h) (closed_zones g h) all act
own_rows-refuse g h _ = refl

table_by-refuses : (g : GeometryFields) (h : List Place) (k : Cmd) (aim : Option Aim) → (refuses (table_by g h k aim).front ≡ true) × (refuses (table_by g h k aim).own ≡ true)
table_by-refuses g h k None = (front_rows-refuse g k, own_rows-refuse g h k)
table_by-refuses g h k (Some aim) = (front_rows-refuse g k, rows_for-refuse g aim.deed _)

-- ---- the table of an act that succeeds

-- no row of the table holds
pub record Passes (g : GeometryFields) (h : List Place) (t : Table) : Type 0 where
  pub front : first_holding t.front ≡ None
  pub own : first_holding t.own ≡ None
  pub needs : first_holding (need_rows g (counts g h) t.need (is_some (evictable g h t.target))) ≡ None

passes : (g : GeometryFields) (h : List Place) (t : Table) → refuses t.front ≡ true → refuses t.own ≡ true → is_success (first_refusal (all_rows g h t)) ≡ true → Passes g h t
passes g h t front own ok =
    let judged : refuses (t.front ++ t.own) ≡ true = rw list_all-append (and_from _ _ front own) in
    let all : refuses (all_rows g h t) ≡ true = rw list_all-append (and_from _ _ judged refl) in
    let parts = none-parts (t.front ++ t.own) _ (success-none (all_rows g h t) all ok) in
    let both = none-parts t.front t.own parts.0 in
    record { front = both.0; own = both.1; needs = parts.1 }

pub status-rows : (g : GeometryFields) (h : List Place) (a : Act) → status g h a ≡ first_refusal (all_rows g h (table_of g h (command_of a)))
unfolding status
status-rows g h a = refl

-- If an act succeeds, no row of its table holds.
pub success-passes : (g : GeometryFields) (h : List Place) (a : Act) → is_success (status g h a) ≡ true → Passes g h (table_of g h (command_of a))
unfolding status
success-passes g h a ok =
    let codes = table_by-refuses g h (command_of a) (aim_of g (command_of a)) in
    passes g h (table_of g h (command_of a)) codes.0 codes.1 ok

-- nor does any row of the zone that it goes to
pub aim-passes : (g : GeometryFields) (h : List Place) (a : Act) (aim : Aim) → is_success (status g h a) ≡ true → aim_of g (command_of a) ≡ Some aim → Passes g h (table_by g h (command_of a) (Some aim))
aim-passes g h a aim ok e = rw e at (success-passes g h a ok)

-- The front rows of a table are those of its command.
pub table_by-front : (g : GeometryFields) (h : List Place) (k : Cmd) (aim : Option Aim) → (table_by g h k aim).front ≡ front_rows g k
table_by-front g h k None = refl
table_by-front g h k (Some aim) = refl

-- nor does any row that doesn't depend on a zone
pub success-front : (g : GeometryFields) (h : List Place) (a : Act) → is_success (status g h a) ≡ true → first_holding (front_rows g (command_of a)) ≡ None
success-front g h a ok = rw table_by-front at (success-passes g h a ok).front
