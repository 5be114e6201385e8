use Rattle.std.proofs.Common.{◌≡◌, None, sym, ◌∙◌}
use Rattle.zns_types.specs.Rows.{first_holding}
use Rattle.drive_rules.specs.Tables.{front_rows}
use Rattle.mgmt_send.proofs.Outcomes.{needs-admitted, needs-refused, not_refused}
use Rattle.mgmt_send.proofs.acting.needs_all.Goals as goal

pub returns-in-Ok : goal.returns-in-Ok
returns-in-Ok c =
    let none : first_holding (front_rows c.args.g.now.fields c.args.send) ≡ None = sym c.check_front.ensures ∙ not_refused _ (sym c.is_some.ensures ∙ c.if-is_some.false) in
    c.wants_room.ensures
    ∙ sym (needs-admitted c.args.g.now.fields c.args.cell.now c.args.limits.now c.args.send c.in-Some.aim c.in-Ok.need none (sym c.aim_of.ensures.aim ∙ c.in-Some.is) (sym c.check.ensures ∙ c.in-Ok.is))

pub returns-in-Err : goal.returns-in-Err
returns-in-Err c =
    let none : first_holding (front_rows c.args.g.now.fields c.args.send) ≡ None = sym c.check_front.ensures ∙ not_refused _ (sym c.is_some.ensures ∙ c.if-is_some.false) in
    sym (needs-refused c.args.g.now.fields c.args.cell.now c.args.limits.now c.args.send c.in-Some.aim c.in-Err.field-0 none (sym c.aim_of.ensures.aim ∙ c.in-Some.is) (sym c.check.ensures ∙ c.in-Err.is))
