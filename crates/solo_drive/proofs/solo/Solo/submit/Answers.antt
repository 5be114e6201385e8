use Rattle.std.proofs.Common.{◌≡◌, ◌≢◌, ◌<◌, ◌++◌, List, take, drop, length, arith, sym, subst}
use Rattle.std.proofs.lemmas.List.{take_at}
use Rattle.zone_cell.specs.Cells.{Cell}
use Rattle.zone_model.specs.Zones.{zones}
use Rattle.zone_model.proofs.KeptHistories.{histories_are_kept}
use Rattle.solo_drive.specs.Drives.{act_of}
use Rattle.solo_drive.specs.Parts.{zones_in, PartsStand, DriveStands}
use Rattle.solo_drive.specs.Applying.{IsApplied}
use Rattle.solo_drive.proofs.Drives.{all-lent, drive-zones, applied-stands}
use Rattle.solo_drive.proofs.solo.Solo.submit.Goals as goal

pub apply-requires-clause-parts : goal.apply-requires-clause-parts
apply-requires-clause-parts c =
    let s = c.self.inside in
    let g = s.geometry.fields in
    let a = act_of c.args.queue c.args.sqe c.args.payload in
    subst (λ (cells : List Cell). PartsStand g a cells s.book) (sym c.deref_mut.ensures.value) (all-lent g a s.cells.items s.book c.self.invariant)

pub unreachable-requires : goal.unreachable-requires
unreachable-requires c =
    let s = c.self.inside in
    let g = s.geometry.fields in
    let narrow : zones_in s.cells.items ≢ zones g = subst (λ (cells : List Cell). zones_in cells ≢ zones g) c.deref_mut.ensures.value c.in-Widen.ensures.1.narrow in
    narrow (drive-zones g s.cells.items s.book c.self.invariant)

pub invariant_of-self : goal.invariant_of-self
invariant_of-self c =
    let s = c.self.inside in
    let g = s.geometry.fields in
    let a = act_of c.args.queue c.args.sqe c.args.payload in
    let cells = c.apply.new.cells in
    let spare : 0 < s.book.journal.spare = rw (← c.self.view_is) at c.requires.spare in
    let len : length cells ≡ s.cells.len = omega (arith, c.apply.auto.cells, c.deref_mut.ensures.len) in
    let whole : take s.cells.len (cells ++ drop (length cells) s.cells.items) ≡ cells = take_at cells (drop (length cells) s.cells.items) s.cells.len len in
    let applied = subst (λ (old : List Cell). IsApplied g a c.in-Done.posted old cells s.book c.apply.new.book c.args.out.now c.apply.new.out) c.deref_mut.ensures.value c.in-Done.ensures in
    subst (λ (now : List Cell). DriveStands g now c.apply.new.book) (sym whole)
    (applied-stands g a c.in-Done.posted s.cells.items cells s.book c.apply.new.book c.args.out.now c.apply.new.out c.self.invariant spare applied)

pub returns-clause-kept : goal.returns-clause-kept
returns-clause-kept c =
    let g = c.self.inside.geometry in
    histories_are_kept g.fields g.valid c.apply.new.book.journal.acts
