use Rattle.std.proofs.Common.{◌≡◌, ◌∙◌, ap, length, sym, List, subst}
use Rattle.std.specs.Prelude.{All}
use Rattle.drive_rules.specs.Reports.{bytes_of_all}
use Rattle.zone_model.specs.Replies.{descriptors}
use Rattle.zone_cell.specs.Cells.{Cell, IsOf}
use Rattle.solo_drive.specs.Drives.{Drive, history}
use Rattle.solo_drive.proofs.Drives.{drive-length, drive-of, drive-descriptors}
use Rattle.solo_drive.proofs.solo.Solo.descriptors.Goals as goal

pub write_descriptors-requires-clause-all : goal.write_descriptors-requires-clause-all
write_descriptors-requires-clause-all c =
    let s = c.self.inside in
    ap length c.deref.ensures.value ∙ drive-length s.geometry.fields s.cells.items s.book c.self.invariant

pub write_descriptors-requires-clause-of : goal.write_descriptors-requires-clause-of
write_descriptors-requires-clause-of c =
    let s = c.self.inside in
    let g = s.geometry.fields in
    subst (λ (cs : List Cell). All (IsOf g) cs) (sym c.deref.ensures.value) (drive-of g s.cells.items s.book s.geometry.valid c.self.invariant)

pub returns : goal.returns
returns c =
    let s = c.self.inside in
    let g = s.geometry.fields in
    let shown = rw c.deref.ensures.value at c.write_descriptors.ensures in
    let P : Drive → Type 0 = λ d. c.write_descriptors.new.out ≡ bytes_of_all (descriptors d.geometry (history d)) in
    subst P c.self.view_is (shown ∙ drive-descriptors g s.cells.items s.book c.self.invariant)
