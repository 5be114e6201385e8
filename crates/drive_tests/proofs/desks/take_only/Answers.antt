use Rattle.std.proofs.Common.{ℕ, List, [], ◌∷◌, refl, ap, sym, ◌∙◌}
use Rattle.std.specs.List.{range_with_len}
use Rattle.zone_cell.specs.Cells.{Cell}
use Rattle.solo_drive.specs.Parts.{zones_in}
use Rattle.zone_desk.specs.Sights.{in_order, zones_held}
use Rattle.zone_desk.specs.Passes.{Pass}
use Rattle.drive_tests.proofs.desks.take_only.Goals as goal

pub returns-clause-desk : goal.returns-clause-desk
returns-clause-desk g c = ap (λ (p : Pass). p.desk) (c.take_word.ensures.zone 0 refl).2 ∙ c.requires.desk

pub returns-clause-no_book : goal.returns-clause-no_book
returns-clause-no_book g c = ap (λ (p : Pass). p.sight.journal) (c.take_word.ensures.zone 0 refl).2 ∙ c.requires.idle.0

pub returns-clause-none_open : goal.returns-clause-none_open
returns-clause-none_open g c = ap (λ (p : Pass). p.opened) (c.take_word.ensures.zone 0 refl).2 ∙ c.requires.none_open

pub returns-clause-held : goal.returns-clause-held
returns-clause-held g c =
    let taken = c.take_word.ensures.zone 0 refl in
    let cells = ap (λ (cs : List Cell). zones_in (in_order (taken.0 ∷ cs))) c.requires.idle.1 in
    ap (λ (p : Pass). zones_held p.sight) taken.2 ∙ (cells ∙ (ap (λ (z : ℕ). z ∷ []) taken.1 ∙ sym (ap (range_with_len 0) c.requires.one)))

pub returns-clause-queue : goal.returns-clause-queue
returns-clause-queue g c = ap (λ (p : Pass). p.sight.queue) (c.take_word.ensures.zone 0 refl).2

pub returns-clause-spare : goal.returns-clause-spare
returns-clause-spare g c = ap (λ (p : Pass). p.sight.spare) (c.take_word.ensures.zone 0 refl).2
