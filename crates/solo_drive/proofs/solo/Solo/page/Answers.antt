use Rattle.std.proofs.Common.{◌<◌, ℕ, List, sym, ap, subst}
use Rattle.std.specs.List.{All}
use Rattle.zone_model.specs.Answers.{answered}
use Rattle.drive_book.specs.declared.book.Book.{Book}
use Rattle.drive_book.proofs.Logs.{changed-below}
use Rattle.solo_drive.proofs.solo.Solo.page.Goals as goal

pub page-requires-clause-zones : goal.page-requires-clause-zones
page-requires-clause-zones c =
    let s = c.self.inside in
    let g = s.geometry.fields in
    let Below : List ℕ → Type 0 = λ zs. All (λ z. z < g.zones) zs in
    subst Below (sym (ap (λ (b : Book). b.log) c.self.invariant.book_stands)) (changed-below g (answered g s.book.journal.acts))
