use Rattle.std.proofs.Common.{rules, ◌≡◌, None, refl, ap, ◌∙◌, arith}
use Rattle.zone_desk.specs.Passes.{Pass}
use Rattle.zone_desk.specs.declared.sight.Sight.{Sight}
use Rattle.drive_tests.proofs.desks.book_goes_back_before_the_zones.Goals as goal

pub take_word-requires-2-clause-desk : goal.take_word-requires-2-clause-desk
take_word-requires-2-clause-desk g c = ap (λ (p : Pass). p.desk) (c.take_word.ensures.zone 0 refl).2 ∙ c.in_ok-first.ensures.desk

pub take_word-requires-2-clause-next : goal.take_word-requires-2-clause-next
take_word-requires-2-clause-next g c = record {
  before_book = ap (λ (p : Pass). p.sight.journal) (c.take_word.ensures.zone 0 refl).2 ∙ ap (λ (v : Sight). v.journal) c.in_ok-first.ensures.sight;
  within = (omega arith, omega arith);
  rising = λ ne. absurd (ne refl);
  none_open = λ ne. absurd (ne refl);
}

pub give_book-requires : goal.give_book-requires
give_book-requires g c =
    let first = ap (λ (p : Pass). p.desk) (c.take_word.ensures.zone 0 refl).2 ∙ c.in_ok-first.ensures.desk in
    record { desk = ap (λ (p : Pass). p.desk) (c.take_word-2.ensures.book refl).1 ∙ first }

pub put_back-requires : goal.put_back-requires
put_back-requires g c =
    let first = ap (λ (p : Pass). p.desk) (c.take_word.ensures.zone 0 refl).2 ∙ c.in_ok-first.ensures.desk in
    let with_book = ap (λ (p : Pass). p.desk) (c.take_word-2.ensures.book refl).1 ∙ first in
    let zone = ap (λ (p : Pass). p.opened) (c.take_word.ensures.zone 0 refl).2 ∙ c.in_ok-first.ensures.none_open in
    let book = ap (λ (p : Pass). p.opened) (c.take_word-2.ensures.book refl).1 ∙ zone in
    record { desk = ap (λ (p : Pass). p.desk) c.give_book.ensures ∙ with_book; none_open = ap (λ (p : Pass). p.opened) c.give_book.ensures ∙ book }

pub put_back-requires-3 : goal.put_back-requires-3
put_back-requires-3 g c =
    let before : c.put_back-2.new.pass.desk ≡ c.in_ok-desk.desk = search rules in
    let none : c.put_back-2.new.pass.opened ≡ None = search rules in
    record { desk = ap (λ (p : Pass). p.desk) (c.take_word-3.ensures.zone 0 refl).2 ∙ before; none_open = ap (λ (p : Pass). p.opened) (c.take_word-3.ensures.zone 0 refl).2 ∙ none }
