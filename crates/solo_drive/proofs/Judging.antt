-- The status of a command for a deed to one zone, and the zone that gives way to it, once no row of its front holds.
use Rattle.std.proofs.Common.{◌≡◌, ℕ, Bool, cond, List, [], ◌∷◌, ◌++◌, Option, Some, None, sym, ap, ◌∙◌, append_assoc}
use Rattle.std.specs.Prelude.{is_some, is_none, unwrap_or, ◌&&◌}
use Rattle.zns_types.specs.declared.fields.GeometryFields.{GeometryFields}
use Rattle.zns_types.specs.Statuses.{Status, success}
use Rattle.zns_types.specs.Rows.{Row, first_holding}
use Rattle.zns_types.proofs.RowLemmas.{first_holding-append_none}
use Rattle.zone_limits.specs.declared.limits.Limits.{Limits}
use Rattle.zone_limits.specs.declared.limits.Need.{Need}
use Rattle.zone_limits.specs.Resources.{need_rows, no_active_left, evicts}
use Rattle.drive_rules.specs.declared.aim.Aim.{Aim}
use Rattle.drive_rules.specs.Deeds.{rows_for, need_for}
use Rattle.drive_rules.specs.Aims.{aim_of}
use Rattle.drive_rules.specs.Tables.{front_rows, wants_room}
use Rattle.zone_room.proofs.Judging.{wants_judged}
use Rattle.zone_model.specs.declared.act.Act.{Act}
use Rattle.zone_model.specs.Places.{Place, command_of}
use Rattle.zone_model.specs.Zones.{zone, counts}
use Rattle.zone_model.specs.Answers.{status, table_of, evictable, evicted, all_rows}
use Rattle.zone_model.specs.Local.{act_wants_room}

-- ---- rows that pass

passed : (front own more : List (Row Status)) → first_holding front ≡ None → first_holding ((front ++ own) ++ more) ≡ first_holding (own ++ more)
passed front own more none = ap first_holding (append_assoc front own more) ∙ first_holding-append_none front (own ++ more) none

wants-own : (g : GeometryFields) (n : Limits) (front own : List (Row Status)) (need : Need) → first_holding front ≡ None → wants_room g n (front ++ own) need ≡ wants_room g n own need
wants-own g n front own need none = ap (λ (o : Option Status). is_none o && evicts g n need) (passed front own (no_active_left g n need ∷ []) none)

-- ---- a command for a deed to one zone

-- the rows of its zone
abbrev pub aim_rows : GeometryFields → List Place → Aim → List (Row Status)
aim_rows g h aim = rows_for g aim.deed (zone g h aim.zone)

-- what the deed needs
abbrev pub aim_need : GeometryFields → List Place → Aim → Need
aim_need g h aim = need_for aim.deed (zone g h aim.zone)

-- another zone has to give way to the deed
abbrev pub aim_wants : GeometryFields → List Place → Aim → Bool
aim_wants g h aim = wants_room g (counts g h) (aim_rows g h aim) (aim_need g h aim)

pub wants-aim : (g : GeometryFields) (h : List Place) (a : Act) (aim : Aim) → aim_of g (command_of a) ≡ Some aim → first_holding (front_rows g (command_of a)) ≡ None → act_wants_room g h a ≡ aim_wants g h aim
wants-aim g h a aim e none = rw e (wants-own g (counts g h) (front_rows g (command_of a)) (aim_rows g h aim) (aim_need g h aim) none)

pub evicted-aim : (g : GeometryFields) (h : List Place) (a : Act) (aim : Aim) → aim_of g (command_of a) ≡ Some aim → first_holding (front_rows g (command_of a)) ≡ None
    → evicted g h a ≡ cond (aim_wants g h aim) (evictable g h (Some aim.zone)) None
unfolding evicted
evicted-aim g h a aim e none =
    rw e (ap (λ (b : Bool). cond b (evictable g h (Some aim.zone)) None) (wants-own g (counts g h) (front_rows g (command_of a)) (aim_rows g h aim) (aim_need g h aim) none))

-- the status that refuses the deed, if other zones can give way to its zone
abbrev pub aim_refusal : GeometryFields → List Place → Aim → Option ℕ → Option Status
aim_refusal g h aim victim = first_holding (aim_rows g h aim ++ need_rows g (counts g h) (aim_need g h aim) (is_some victim))

-- The rows of its zone judge, and then those for the resources it needs.
pub holding-aim : (g : GeometryFields) (h : List Place) (a : Act) (aim : Aim) → aim_of g (command_of a) ≡ Some aim → first_holding (front_rows g (command_of a)) ≡ None
    → first_holding (all_rows g h (table_of g h (command_of a))) ≡ aim_refusal g h aim (evicted g h a)
holding-aim g h a aim e none =
    let victim = evictable g h (Some aim.zone) in
    let outright : first_holding (all_rows g h (table_of g h (command_of a))) ≡ aim_refusal g h aim victim =
    rw e (passed (front_rows g (command_of a)) (aim_rows g h aim) (need_rows g (counts g h) (aim_need g h aim) (is_some victim)) none) in
    outright ∙ wants_judged g (counts g h) (aim_rows g h aim) (aim_need g h aim) victim ∙ ap (aim_refusal g h aim) (sym (evicted-aim g h a aim e none))

pub status-aim : (g : GeometryFields) (h : List Place) (a : Act) (aim : Aim) → aim_of g (command_of a) ≡ Some aim → first_holding (front_rows g (command_of a)) ≡ None
    → status g h a ≡ unwrap_or (aim_refusal g h aim (evicted g h a)) success
unfolding status
status-aim g h a aim e none = ap (λ (o : Option Status). unwrap_or o success) (holding-aim g h a aim e none)
