use Rattle.std.proofs.Common.{ap, sym, ◌∙◌, arith}
use Rattle.atomic_table.specs.Table.{rest}
use Rattle.drive_book.specs.declared.book.Book.{Book}
use Rattle.zone_desk.specs.Parts.{ledger_at}
use Rattle.zone_desk.specs.Plays.{Mine}
use Rattle.zone_desk.specs.Passes.{DeskId, Pass}
use Rattle.zone_desk.proofs.Frees.{freeing_book}
use Rattle.zone_desk.proofs.Carried.{in_hand}
use Rattle.zone_desk.proofs.desk.Desk.give_book.Goals as goal

pub store-requires : goal.store-requires
store-requires c =
    let i = c.pass.invariant in
    let me : Mine = c.pass.inside.seat.me in
    let desk = ap (λ (p : Pass). p.desk) c.pass.view_is ∙ (c.requires.desk ∙ sym c.self.view_is) in
    let now = c.exchange.ensures.3 in
    let b : Book = c.in-Some.book in
    let h = in_hand me.0 c.pass.inside.book b me.0.journal (sym c.take.ensures.value ∙ c.in-Some.is) i.carries.book_is in (
      c.exchange.ensures.0 ∙ ap (λ (d : DeskId). d.table) desk,
      omega (arith, c.self.invariant.words),
      freeing_book _ _ _ _ b b.journal (rest me.1)
          (ap (λ (m : Mine). m.0.geometry) now ∙ (ap (λ (d : DeskId). d.geometry) desk ∙ c.self.invariant.geometry))
          (ap (λ (m : Mine). m.0.kind) now ∙ i.kind)
          (ap (λ (m : Mine). m.0.journal) now ∙ h.out)
          (ap (λ (m : Mine). m.1) now)
          (h.is ∙ ap (λ (m : Mine). ledger_at m.0.geometry b.journal) (sym now)),
    )
