use Rattle.std.proofs.Common.{Option, sym, ap, ◌∙◌}
use Rattle.std.specs.Prelude.{unwrap_or}
use Rattle.zns_types.specs.Statuses.{Status, success}
use Rattle.mgmt_send.specs.Sweeping.{counts_in}
use Rattle.mgmt_send.specs.Acting.{Outcome}
use Rattle.mgmt_send.proofs.Outcomes.{refused_first, done_to_one, done_to_all, can_look}
use Rattle.mgmt_send.proofs.acting.act.Goals as goal

pub returns-in-Some-clause-code : goal.returns-in-Some-clause-code
returns-in-Some-clause-code c = ap (λ (o : Outcome). o.code) (sym (refused_first c.args.g.now.fields c.args.cells.now c.args.limits.now c.args.send c.in-Some.code (sym c.check_front.ensures ∙ c.in-Some.is)))

pub returns-in-Some-clause-cells : goal.returns-in-Some-clause-cells
returns-in-Some-clause-cells c = ap (λ (o : Outcome). o.cells) (sym (refused_first c.args.g.now.fields c.args.cells.now c.args.limits.now c.args.send c.in-Some.code (sym c.check_front.ensures ∙ c.in-Some.is)))

pub returns-in-Some-clause-limits : goal.returns-in-Some-clause-limits
returns-in-Some-clause-limits c = ap (λ (o : Outcome). o.counts) (sym (refused_first c.args.g.now.fields c.args.cells.now c.args.limits.now c.args.send c.in-Some.code (sym c.check_front.ensures ∙ c.in-Some.is)))

pub act_on_one-requires-clause-among : goal.act_on_one-requires-clause-among
act_on_one-requires-clause-among c = c.requires.lent.target (sym c.check_front.ensures ∙ c.in_default.is) c.in-Some-aim_of.aim (sym c.aim_of.ensures.aim ∙ c.in-Some-aim_of.is)

pub act_on_one-requires-clause-look : goal.act_on_one-requires-clause-look
act_on_one-requires-clause-look c =
    can_look c.args.g.now.fields c.args.cells.now c.args.limits.now c.args.send c.in-Some-aim_of.aim c.requires.lent (sym c.check_front.ensures ∙ c.in_default.is) (sym c.aim_of.ensures.aim ∙ c.in-Some-aim_of.is)

pub returns-in-Some-aim_of-clause-code : goal.returns-in-Some-aim_of-clause-code
returns-in-Some-aim_of-clause-code c =
    c.act_on_one.ensures.code
    ∙ ap (λ (o : Outcome). o.code) (sym (done_to_one c.args.g.now.fields c.args.cells.now c.args.limits.now c.args.send c.in-Some-aim_of.aim (sym c.check_front.ensures ∙ c.in_default.is) (sym c.aim_of.ensures.aim ∙ c.in-Some-aim_of.is)))

pub returns-in-Some-aim_of-clause-cells : goal.returns-in-Some-aim_of-clause-cells
returns-in-Some-aim_of-clause-cells c =
    c.act_on_one.ensures.cells
    ∙ ap (λ (o : Outcome). o.cells) (sym (done_to_one c.args.g.now.fields c.args.cells.now c.args.limits.now c.args.send c.in-Some-aim_of.aim (sym c.check_front.ensures ∙ c.in_default.is) (sym c.aim_of.ensures.aim ∙ c.in-Some-aim_of.is)))

pub returns-in-Some-aim_of-clause-limits : goal.returns-in-Some-aim_of-clause-limits
returns-in-Some-aim_of-clause-limits c =
    c.act_on_one.ensures.limits
    ∙ ap (λ (o : Outcome). o.counts) (sym (done_to_one c.args.g.now.fields c.args.cells.now c.args.limits.now c.args.send c.in-Some-aim_of.aim (sym c.check_front.ensures ∙ c.in_default.is) (sym c.aim_of.ensures.aim ∙ c.in-Some-aim_of.is)))

pub returns-in-Some-sweep_of-clause-code : goal.returns-in-Some-sweep_of-clause-code
returns-in-Some-sweep_of-clause-code c =
    rw (done_to_all c.args.g.now.fields c.args.cells.now c.args.limits.now c.args.send c.in-Some-sweep_of.deed (sym c.check_front.ensures ∙ c.in_default.is) (sym c.aim_of.ensures.aim ∙ c.in_default-aim_of.is) (sym c.sweep_of.ensures ∙ c.in-Some-sweep_of.is))
    (c.unwrap_or.ensures ∙ ap (λ (o : Option Status). unwrap_or o success) c.sweep.ensures.refusal)

pub returns-in-Some-sweep_of-clause-cells : goal.returns-in-Some-sweep_of-clause-cells
returns-in-Some-sweep_of-clause-cells c =
    c.sweep.ensures.cells
    ∙ ap (λ (o : Outcome). o.cells)
    (sym (done_to_all c.args.g.now.fields c.args.cells.now c.args.limits.now c.args.send c.in-Some-sweep_of.deed (sym c.check_front.ensures ∙ c.in_default.is) (sym c.aim_of.ensures.aim ∙ c.in_default-aim_of.is) (sym c.sweep_of.ensures ∙ c.in-Some-sweep_of.is)))

pub returns-in-Some-sweep_of-clause-limits : goal.returns-in-Some-sweep_of-clause-limits
returns-in-Some-sweep_of-clause-limits c =
    c.sweep.ensures.zones.counts ∙ ap counts_in c.sweep.ensures.cells
    ∙ ap (λ (o : Outcome). o.counts)
    (sym (done_to_all c.args.g.now.fields c.args.cells.now c.args.limits.now c.args.send c.in-Some-sweep_of.deed (sym c.check_front.ensures ∙ c.in_default.is) (sym c.aim_of.ensures.aim ∙ c.in_default-aim_of.is) (sym c.sweep_of.ensures ∙ c.in-Some-sweep_of.is)))
