use Rattle.std.proofs.Common.{◌≡◌, ℕ, ◌-◌, length, arith, refl, sym, ap, subst, ◌∙◌}
use Rattle.std.specs.Prelude.{◌==◌}
use Rattle.zns_types.specs.declared.fields.GeometryFields.{GeometryFields}
use Rattle.std.proofs.lemmas.List.{get_or_default}
use Rattle.zone_room.specs.declared.serving.Served.TheVariants as served
use Rattle.zone_room.specs.Rooms.{no_cell}
use Rattle.zone_room.specs.Verdicts.{verdict}
use Rattle.mgmt_send.specs.Acting.{place_of, are_all}
use Rattle.mgmt_send.proofs.Outcomes.{never_widens}
use Rattle.mgmt_send.proofs.acting.act_on_one.Goals as goal

pub unreachable-requires : goal.unreachable-requires
unreachable-requires c =
    let g = c.args.g.now.fields in
    let cells = c.args.cells.now in
    let aim = c.args.aim in
    let at : aim.zone - c.zone.result ≡ place_of cells aim.zone = rw (c.zone.ensures, get_or_default cells 0 c.index-cells-0.result no_cell (omega arith)) refl in
    let zones : c.fields.result.now.zones ≡ g.zones = ap (λ (f : GeometryFields). f.zones) c.fields.ensures in
    let widens : verdict g cells c.args.limits.now (aim.zone - c.zone.result) (length cells == c.fields.result.now.zones) aim.deed ≡ served.Widens = sym c.serve_deed.ensures.verdict ∙ c.in-Widens.is in
    let for_all : verdict g cells c.args.limits.now (aim.zone - c.zone.result) (are_all g cells) aim.deed ≡ served.Widens =
    subst (λ (z : ℕ). verdict g cells c.args.limits.now (aim.zone - c.zone.result) (length cells == z) aim.deed ≡ served.Widens) zones widens in
    never_widens g cells c.args.limits.now aim c.requires.look (subst (λ (p : ℕ). verdict g cells c.args.limits.now p (are_all g cells) aim.deed ≡ served.Widens) at for_all)
