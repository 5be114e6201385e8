use Rattle.std.proofs.Common.{◌∷◌, ap, sym, ◌∙◌, arith}
use Rattle.atomic_table.specs.Table.{rest}
use Rattle.drive_book.specs.declared.book.Book.{Book}
use Rattle.zone_desk.specs.Parts.{ledger_at}
use Rattle.zone_desk.specs.Passes.{DeskId, Pass}
use Rattle.zone_desk.specs.declared.slot.Slot.TheVariants.{Ledger}
use Rattle.zone_desk.proofs.Keeps.{taking_book}
use Rattle.zone_desk.proofs.desk.Desk.step_book.Goals as goal

pub compare_exchange-requires : goal.compare_exchange-requires
compare_exchange-requires g c =
    let table = c.self.invariant in
    let desk = ap (λ (p : Pass). p.desk) c.pass.view_is ∙ (c.requires.desk ∙ sym c.self.view_is) in (
      ap (λ (d : DeskId). d.table) desk,
      omega (arith, table.words),
      taking_book _ g.C.Counting.counts _ _ _ (ap (λ (d : DeskId). d.geometry) desk ∙ table.geometry) c.pass.invariant.kind,
    )

pub exchange-requires : goal.exchange-requires
exchange-requires g c =
    let took = c.compare_exchange.ensures.2.0 c.if-compare_exchange-ne0.false in
    let has = took.2 in
    let b : Book = ledger_at c.pass.inside.seat.me.0.geometry took.0 in (
      c.compare_exchange.ensures.0 ∙ ap (λ (d : DeskId). d.table) (ap (λ (p : Pass). p.desk) c.pass.view_is ∙ (c.requires.desk ∙ sym c.self.view_is)),
      (Ledger b, has ∙ (λ i. (0, Ledger b) ∷ sym (ap rest has) i)),
    )
