use Rattle.std.proofs.Common.{List, sym, ◌∙◌, ap, subst}
use Rattle.zone_model.specs.declared.act.Act.{Act}
use Rattle.solo_drive.specs.Drives.{Drive}
use Rattle.zone_desk.specs.Passes.{Pass, absorbed, NoneJoined, NoneLive, HaveKnown, NoOthers, Ends}
use Rattle.zone_desk.specs.declared.sight.Sight.{Sight}
use Rattle.zone_desk.proofs.Ends.{absorbed_spare, none_live, have_known, no_others}
use Rattle.zone_desk.proofs.desk.Desk.close.Goals as goal

pub finish-requires-clause-none : goal.finish-requires-clause-none
finish-requires-clause-none c =
    let sight = c.absorb_all.ensures.sight ∙ ap (λ (p : Pass). absorbed p.sight c.args.passes.items) c.main.view_is in
    subst (λ (v : Sight). NoneLive v.standings) (sym sight) (none_live c.args.main.sight c.args.passes.items c.requires.all.all)

pub returns-clause-spare : goal.returns-clause-spare
returns-clause-spare c =
    let sight = c.absorb_all.ensures.sight ∙ ap (λ (p : Pass). absorbed p.sight c.args.passes.items) c.main.view_is in
    ap (λ (d : Drive). d.spare) c.of_parts.ensures ∙ (c.finish.ensures.ends.spare ∙ (ap (λ (v : Sight). v.spare) sight ∙ absorbed_spare c.args.main.sight c.args.passes.items))

pub returns-clause-known : goal.returns-clause-known
returns-clause-known c =
    let ps : List Pass = c.args.passes.items in
    let j = c.finish.result.book.journal in
    let sight = c.absorb_all.ensures.sight ∙ ap (λ (p : Pass). absorbed p.sight ps) c.main.view_is in
    subst (λ (log : List Act). HaveKnown log ps) (sym (ap (λ (d : Drive). d.acts) c.of_parts.ensures))
    (have_known c.args.main.sight ps j c.requires.all (subst (λ (v : Sight). Ends v j) sight c.finish.ensures.ends))

pub returns-clause-others : goal.returns-clause-others
returns-clause-others c =
    let ps : List Pass = c.args.passes.items in
    let fresh = subst (λ (p : Pass). NoneJoined p.sight.standings) c.main.view_is c.main.invariant.none_joined in
    let j = c.finish.result.book.journal in
    let sight = c.absorb_all.ensures.sight ∙ ap (λ (p : Pass). absorbed p.sight ps) c.main.view_is in
    subst (λ (log : List Act). NoOthers log c.args.main.sight.standings) (sym (ap (λ (d : Drive). d.acts) c.of_parts.ensures))
    (no_others c.args.main.sight ps j c.requires.all fresh (subst (λ (v : Sight). Ends v j) sight c.finish.ensures.ends))
