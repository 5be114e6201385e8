use Rattle.std.proofs.Common.{◌≡◌, length, ◌-◌, Bool, sym, ap, ◌∙◌, subst, arith}
use Rattle.std.specs.Prelude.{◌==◌}
use Rattle.zns_types.specs.declared.fields.GeometryFields.{GeometryFields}
use Rattle.zone_cell.specs.Deeds.{IsBlocksFor}
use Rattle.zone_room.specs.Verdicts.{verdict, cells_after, counts_after}
use Rattle.solo_drive.proofs.Asking as asking
use Rattle.solo_drive.proofs.Deciding.{counts-are, done-of, refused-of, widened-of}
use Rattle.solo_drive.proofs.Told.{refused-done}
use Rattle.solo_drive.proofs.serving.serve_aim.Goals as goal

pub bounds-cells-0 : goal.bounds-cells-0
bounds-cells-0 c =
    let g = c.args.g.now.fields in
    let cells = c.args.cells.now in
    let book = c.args.book.now in
    let m = asking.among-of g c.args.act.now c.args.aim cells book c.args.g.now.valid c.requires.passes c.requires.aim c.requires.within c.requires.parts in
    asking.some-cell g _ cells c.args.aim.zone m

pub overflow_sub-place : goal.overflow_sub-place
overflow_sub-place c =
    let g = c.args.g.now.fields in
    let cells = c.args.cells.now in
    let book = c.args.book.now in
    let m = asking.among-of g c.args.act.now c.args.aim cells book c.args.g.now.valid c.requires.passes c.requires.aim c.requires.within c.requires.parts in
    let first = asking.first-zone g _ cells c.args.aim.zone c.zone.result c.index-cells-0.result m c.zone.ensures in
    omega (arith, first, m.low)

pub bounds-cells-place : goal.bounds-cells-place
bounds-cells-place c =
    let g = c.args.g.now.fields in
    let cells = c.args.cells.now in
    let book = c.args.book.now in
    let m = asking.among-of g c.args.act.now c.args.aim cells book c.args.g.now.valid c.requires.passes c.requires.aim c.requires.within c.requires.parts in
    let first = asking.first-zone g _ cells c.args.aim.zone c.zone.result c.index-cells-0.result m c.zone.ensures in
    asking.place-within g _ cells c.args.aim.zone c.zone.result m first

pub serve_deed-requires-clause-place : goal.serve_deed-requires-clause-place
serve_deed-requires-clause-place c =
    let g = c.args.g.now.fields in
    let cells = c.args.cells.now in
    let book = c.args.book.now in
    let m = asking.among-of g c.args.act.now c.args.aim cells book c.args.g.now.valid c.requires.passes c.requires.aim c.requires.within c.requires.parts in
    let first = asking.first-zone g _ cells c.args.aim.zone c.zone.result c.index-cells-0.result m c.zone.ensures in
    asking.place-within g _ cells c.args.aim.zone c.zone.result m first

pub serve_deed-requires-clause-of : goal.serve_deed-requires-clause-of
serve_deed-requires-clause-of c =
    let g = c.args.g.now.fields in
    let cells = c.args.cells.now in
    let book = c.args.book.now in
    let m = asking.among-of g c.args.act.now c.args.aim cells book c.args.g.now.valid c.requires.passes c.requires.aim c.requires.within c.requires.parts in
    asking.each-is_of g book cells c.args.aim.zone c.args.g.now.valid m

pub serve_deed-requires-clause-counted : goal.serve_deed-requires-clause-counted
serve_deed-requires-clause-counted c =
    let g = c.args.g.now.fields in
    let cells = c.args.cells.now in
    let book = c.args.book.now in
    let m = asking.among-of g c.args.act.now c.args.aim cells book c.args.g.now.valid c.requires.passes c.requires.aim c.requires.within c.requires.parts in
    asking.each-counted g book cells c.args.aim.zone c.args.g.now.valid (counts-are g c.args.act.now cells book c.requires.parts) m

pub serve_deed-requires-clause-blocks : goal.serve_deed-requires-clause-blocks
serve_deed-requires-clause-blocks c =
    subst (IsBlocksFor c.args.g.now.fields c.args.aim.deed) (sym c.as_slice-payload.ensures) (asking.blocks-of-aim c.args.g.now.fields c.args.act.now c.args.aim c.requires.aim c.requires.lengths.payload)

pub returns-in-Done : goal.returns-in-Done
returns-in-Done c =
    let g = c.args.g.now.fields in
    let cells = c.args.cells.now in
    let book = c.args.book.now in
    let m = asking.among-of g c.args.act.now c.args.aim cells book c.args.g.now.valid c.requires.passes c.requires.aim c.requires.within c.requires.parts in
    let first = asking.first-zone g _ cells c.args.aim.zone c.zone.result c.index-cells-0.result m c.zone.ensures in
    let place = c.args.aim.zone - c.zone.result in
    let all = length cells == g.zones in
    let k = asking.asked-of g c.args.act.now c.args.aim cells book c.zone.result c.args.g.now.valid c.requires.lengths.payload c.requires.aim c.requires.passes c.requires.parts m first in
    let payload = c.as_slice-payload.result.now in
    let whole : (length cells == c.fields.result.now.zones) ≡ all = ap (λ (f : GeometryFields). length cells == f.zones) c.fields.ensures in
    let judged = λ (b : Bool). verdict g cells book.limits place b c.args.aim.deed in
    let changed = λ (b : Bool). cells_after g cells book.limits place b c.args.aim.deed payload in
    let counted = λ (b : Bool). counts_after g cells book.limits place b c.args.aim.deed payload in
    let given = c.as_slice-payload.ensures in
    let d = done-of g c.args.act.now c.args.aim cells c.serve_deed.new.cells book c.serve_deed.new.limits place all k
    (sym c.in-Done.is ∙ c.serve_deed.ensures.verdict ∙ ap judged whole)
    (c.serve_deed.ensures.cells ∙ ap changed whole ∙ ap (cells_after g cells book.limits place all c.args.aim.deed) given)
    (c.serve_deed.ensures.counts ∙ ap counted whole ∙ ap (counts_after g cells book.limits place all c.args.aim.deed) given) in
    let within = asking.place-within g _ cells c.args.aim.zone c.zone.result m first in
    let there = asking.pointer-is g c.args.act.now c.args.aim cells book place all c.index-cells-place.result c.pointer-pointer.result k within c.pointer-pointer.ensures.exact in
    asking.noted g c.args.act.now c.args.aim cells c.serve_deed.new.cells book c.outcome_of.new.book c.serve_deed.new.limits c.outcome_of.result c.args.out.now c.pointer-pointer.result
    c.args.g.now.valid c.requires.aim c.requires.parts d there c.outcome_of.ensures

pub returns-in-Refused : goal.returns-in-Refused
returns-in-Refused c =
    let g = c.args.g.now.fields in
    let cells = c.args.cells.now in
    let book = c.args.book.now in
    let m = asking.among-of g c.args.act.now c.args.aim cells book c.args.g.now.valid c.requires.passes c.requires.aim c.requires.within c.requires.parts in
    let first = asking.first-zone g _ cells c.args.aim.zone c.zone.result c.index-cells-0.result m c.zone.ensures in
    let place = c.args.aim.zone - c.zone.result in
    let all = length cells == g.zones in
    let k = asking.asked-of g c.args.act.now c.args.aim cells book c.zone.result c.args.g.now.valid c.requires.lengths.payload c.requires.aim c.requires.passes c.requires.parts m first in
    let payload = c.as_slice-payload.result.now in
    let whole : (length cells == c.fields.result.now.zones) ≡ all = ap (λ (f : GeometryFields). length cells == f.zones) c.fields.ensures in
    let judged = λ (b : Bool). verdict g cells book.limits place b c.args.aim.deed in
    let changed = λ (b : Bool). cells_after g cells book.limits place b c.args.aim.deed payload in
    let counted = λ (b : Bool). counts_after g cells book.limits place b c.args.aim.deed payload in
    let d = refused-of g c.args.act.now c.args.aim cells c.serve_deed.new.cells book c.serve_deed.new.limits place all payload c.in-Refused.code k
    (sym c.in-Refused.is ∙ c.serve_deed.ensures.verdict ∙ ap judged whole)
    (c.serve_deed.ensures.cells ∙ ap changed whole)
    (c.serve_deed.ensures.counts ∙ ap counted whole) in
    let same = refused-done g c.args.act.now c.in-Refused.code cells book c.args.out.now c.args.g.now.valid c.requires.parts d.code_is d.fails d.wide in
    asking.unchanged g c.args.act.now c.args.aim cells c.serve_deed.new.cells book c.serve_deed.new.limits c.refused.result c.args.out.now c.in-Refused.code d c.refused.ensures same

pub returns-in-Widens : goal.returns-in-Widens
returns-in-Widens c =
    let g = c.args.g.now.fields in
    let cells = c.args.cells.now in
    let book = c.args.book.now in
    let m = asking.among-of g c.args.act.now c.args.aim cells book c.args.g.now.valid c.requires.passes c.requires.aim c.requires.within c.requires.parts in
    let first = asking.first-zone g _ cells c.args.aim.zone c.zone.result c.index-cells-0.result m c.zone.ensures in
    let place = c.args.aim.zone - c.zone.result in
    let all = length cells == g.zones in
    let k = asking.asked-of g c.args.act.now c.args.aim cells book c.zone.result c.args.g.now.valid c.requires.lengths.payload c.requires.aim c.requires.passes c.requires.parts m first in
    let payload = c.as_slice-payload.result.now in
    let whole : (length cells == c.fields.result.now.zones) ≡ all = ap (λ (f : GeometryFields). length cells == f.zones) c.fields.ensures in
    let judged = λ (b : Bool). verdict g cells book.limits place b c.args.aim.deed in
    let changed = λ (b : Bool). cells_after g cells book.limits place b c.args.aim.deed payload in
    let counted = λ (b : Bool). counts_after g cells book.limits place b c.args.aim.deed payload in
    widened-of g c.args.act.now c.args.aim cells c.serve_deed.new.cells book c.serve_deed.new.limits place all payload c.args.out.now k
    (sym c.in-Widens.is ∙ c.serve_deed.ensures.verdict ∙ ap judged whole)
    (c.serve_deed.ensures.cells ∙ ap changed whole)
    (c.serve_deed.ensures.counts ∙ ap counted whole)
