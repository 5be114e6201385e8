use Rattle.std.proofs.Common.{◌≡◌, ℕ, suc, ◌+◌, ◌<◌, List, ◌∷◌, length, ap, sym, ◌∙◌, subst, arith}
use mathlib.Core.Option.{none}
use prog.Atomic.{either}
use Rattle.std.proofs.Common.{eqb}
use Rattle.atomic_table.specs.Table.{rest, step, Allows}
use Rattle.zone_cell.specs.Cells.{Cell}
use Rattle.zone_desk.specs.Rules.{Rule}
use Rattle.zone_desk.specs.Plays.{Mine, TakesZone}
use Rattle.zone_desk.specs.Passes.{DeskId, Pass, IsAbove}
use Rattle.zone_desk.specs.declared.plan.Plan.{Plan}
use Rattle.zone_desk.specs.declared.slot.Slot.TheVariants.{Zone}
use Rattle.zone_desk.specs.declared.sight.Sight.{Sight}
use Rattle.zone_desk.proofs.Keeps.{taking_zone}
use Rattle.zone_desk.proofs.Carried.{plain_cells, length-in_order, rising_length}
use Rattle.zone_desk.proofs.desk.Desk.step_zone.Goals as goal

pub compare_exchange-requires : goal.compare_exchange-requires
compare_exchange-requires g c =
    let z : ℕ = c.args.zone in
    let table = c.self.invariant in
    let me : Mine = c.pass.inside.seat.me in
    let plan : Plan = c.self.inside.table.shared.key in
    let slots : ℕ = c.self.inside.table.shared.table_id.slots in
    let desk = ap (λ (p : Pass). p.desk) c.pass.view_is ∙ (c.requires.desk ∙ sym c.self.view_is) in
    let below : z < c.self.inside.geometry.fields.zones = subst (λ (d : DeskId). z < d.geometry.zones) (sym c.self.view_is) c.requires.zone in
    let word : z + 2 ≡ z + 1 + 1 = omega arith in (
      ap (λ (d : DeskId). d.table) desk,
      omega (arith, below, table.words),
      subst (λ (k : ℕ). Allows (Rule plan) slots c.pass.inside.seat.id me k (λ n. either (eqb n 0) 1 n) (TakesZone g.C.Counting.counts (step slots k 0 1 none) me)) word
          (taking_zone plan g.C.Counting.counts slots c.pass.inside.seat.id z me (ap (λ (d : DeskId). d.geometry) desk ∙ table.geometry) c.pass.invariant.kind (omega (arith, below, table.slots))),
    )

pub exchange-requires : goal.exchange-requires
exchange-requires g c =
    let took = c.compare_exchange.ensures.2.0 c.if-compare_exchange-ne0.false in
    let has = took.2 in
    let same = took.3 in
    let place : suc took.0.zone ≡ c.args.zone + 1 = omega arith in (
      c.compare_exchange.ensures.0 ∙ ap (λ (d : DeskId). d.table) (ap (λ (p : Pass). p.desk) c.pass.view_is ∙ (c.requires.desk ∙ sym c.self.view_is)),
      (Zone took.0, has ∙ (λ i. (place i, Zone took.0) ∷ sym (ap rest has) i)),
    )

pub push_reserved-requires : goal.push_reserved-requires
push_reserved-requires g c =
    let i = c.pass.invariant in
    let v : Sight = c.pass.inside.seat.me.0 in
    let below : c.args.zone < c.self.inside.geometry.fields.zones = subst (λ (d : DeskId). c.args.zone < d.geometry.zones) (sym c.self.view_is) c.requires.zone in
    let words = c.self.invariant.words in
    let desk = ap (λ (d : DeskId). d.table.words) (ap (λ (p : Pass). p.desk) c.pass.view_is ∙ (c.requires.desk ∙ sym c.self.view_is)) in
    let few = rising_length c.args.zone v.cells (subst (λ (p : Pass). IsAbove (c.args.zone + 2) p.sight.cells) (sym c.pass.view_is) c.requires.rising) i.carries.rising in
    let long = ap (λ (l : List Cell). length l) (plain_cells v.geometry v.queue c.pass.inside.open v.cells c.pass.inside.cells.items (ap (λ (p : Pass). p.opened) c.pass.view_is ∙ c.requires.none_open) i.carries.cells_are) ∙ length-in_order v.cells in
    let room = i.fits in
    omega (arith, c.pass.inside.cells.ok, below, words, desk, few, long, room)
