use Rattle.std.proofs.Common.{◌≡◌, ℕ, suc, ◌+◌, List, ◌∷◌, ap, ◌∙◌, subst, arith}
use mathlib.Core.Option.{none}
use Rattle.atomic_table.specs.Table.{step, rest, Allows}
use Rattle.zone_desk.specs.Rules.{Rule}
use Rattle.zone_desk.specs.Plays.{Mine, FreesZone}
use Rattle.zone_desk.specs.declared.plan.Plan.{Plan}
use Rattle.zone_desk.specs.declared.slot.Slot.{Slot}
use Rattle.zone_desk.specs.declared.slot.Slot.TheVariants.{Zone}
use Rattle.zone_desk.proofs.Frees.{freeing_zone}
use Rattle.zone_desk.proofs.freeing.free_zone.Goals as goal

pub store-requires : goal.store-requires
store-requires c =
    let now = c.exchange.ensures.3 in
    let z : ℕ = c.args.cell.zone in
    let me : Mine = c.exchange.new.seat.me in
    let slots : ℕ = c.args.board.now.table_id.slots in
    let plan : Plan = c.args.board.now.key in
    let more : List (ℕ × Slot) = rest c.args.seat.now.me.1 in
    let zone : c.zone-zone.result ≡ z = c.zone-zone.ensures in
    let place : c.zone-zone.result + 1 ≡ suc z = omega arith in
    let word : suc (suc z) ≡ c.zone-zone.result + 2 = omega arith in
    let within = c.requires.word in (
      c.exchange.ensures.0 ∙ c.requires.table,
      omega (arith, zone, within),
      subst (λ (k : ℕ). Allows (Rule plan) slots c.exchange.new.seat.id me k (λ _. 0) (λ _. FreesZone (step slots k 0 0 none) me 0)) word
          (freeing_zone plan slots c.exchange.new.seat.id me c.args.cell c.requires.cell.0 more
          (ap (λ (m : Mine). m.0.kind) now ∙ c.requires.kind)
          (ap (λ (m : Mine). m.0.cells) now ∙ c.requires.cell.1)
          (ap (λ (m : Mine). m.1) now ∙ ap (λ (k : ℕ). (k, Zone c.args.cell) ∷ more) place)),
    )
