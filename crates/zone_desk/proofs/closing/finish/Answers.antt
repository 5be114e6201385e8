use Rattle.std.proofs.Common.{◌≡◌, ◌<◌, suc, List, length, sym, ap, ◌∙◌, subst, arith}
use Rattle.std.specs.Slots.{slots_items}
use mathlib.Core.Option.{some, some-injective}
use lib.ListN.{get_elem?}
use Rattle.zns_types.specs.declared.fields.GeometryFields.{GeometryFields}
use Rattle.zone_model.specs.Kept.{KeptActs}
use Rattle.zone_model.specs.Zones.{zones}
use Rattle.solo_drive.specs.Parts.{DriveStands}
use Rattle.drive_book.specs.declared.book.Book.{Book}
use Rattle.zone_desk.specs.Parts.{zone_at, zones_at, ledger_at}
use Rattle.zone_desk.specs.Passes.{Ends, AreShelved}
use Rattle.zone_desk.specs.declared.plan.Plan.{Plan}
use Rattle.zone_desk.specs.declared.slot.Slot.{Slot}
use Rattle.zone_desk.specs.declared.slot.Slot.TheVariants.{Ledger}
use Rattle.zone_desk.proofs.Ends.{ends}
use Rattle.zone_desk.proofs.Parts.{ledger-journal, drive-stands}
use Rattle.zone_desk.proofs.closing.finish.Goals as goal

pub unreachable-requires : goal.unreachable-requires
unreachable-requires c =
    let xs : List Slot = slots_items c.close_with-closed.result.slots in
    let plan : Plan = c.args.table.shared.key in
    let long : length xs ≡ suc plan.fields.zones = omega (arith, c.close_with-closed.result.slots.ok.0, c.close_with-closed.ensures.counts.1, c.requires.slots, ap (λ (f : GeometryFields). f.zones) c.requires.fields) in
    let t = ends plan c.args.seat.id c.args.seat.me.0 _ xs c.requires.main c.requires.none c.close_with-closed.ensures.values.2 long in
    let b : Book = ledger_at plan.fields t.journal in
    c.in_default.not-Ledger b (some-injective c.take.result (Ledger b) (sym c.take.ensures.value ∙ t.book))

pub take_cells-cells-requires-clause-cells : goal.take_cells-cells-requires-clause-cells
take_cells-cells-requires-clause-cells c z h =
    let xs : List Slot = slots_items c.close_with-closed.result.slots in
    let plan : Plan = c.args.table.shared.key in
    let long : length xs ≡ suc plan.fields.zones = omega (arith, c.close_with-closed.result.slots.ok.0, c.close_with-closed.ensures.counts.1, c.requires.slots, ap (λ (f : GeometryFields). f.zones) c.requires.fields) in
    let t = ends plan c.args.seat.id c.args.seat.me.0 _ xs c.requires.main c.requires.none c.close_with-closed.ensures.values.2 long in
    (zone_at plan.fields t.journal.acts z, ap (λ (l : List Slot). get_elem? l (suc z)) c.take.ensures.others.0 ∙ t.cells z (subst (λ (f : GeometryFields). z < f.zones) c.requires.fields h))

pub returns-clause-stands : goal.returns-clause-stands
returns-clause-stands c =
    let xs : List Slot = slots_items c.close_with-closed.result.slots in
    let plan : Plan = c.args.table.shared.key in
    let g : GeometryFields = c.args.geometry.fields in
    let long : length xs ≡ suc plan.fields.zones = omega (arith, c.close_with-closed.result.slots.ok.0, c.close_with-closed.ensures.counts.1, c.requires.slots, ap (λ (f : GeometryFields). f.zones) c.requires.fields) in
    let t = ends plan c.args.seat.id c.args.seat.me.0 _ xs c.requires.main c.requires.none c.close_with-closed.ensures.values.2 long in
    let j : KeptActs = t.journal in
    let same : Ledger (ledger_at plan.fields j) ≡ Ledger c.in-Ledger.book = some-injective (Ledger (ledger_at plan.fields j)) (Ledger c.in-Ledger.book) (sym t.book ∙ (c.take.ensures.value ∙ ap (λ (y : Slot). some y) c.in-Ledger.is)) in
    let is : c.in-Ledger.book ≡ ledger_at g j = cc (same, c.requires.fields) in
    let shelved : AreShelved g j.acts (slots_items c.take.new.self.slots) g.zones = subst (λ (l : List Slot). AreShelved g j.acts l g.zones) (sym c.take.ensures.others.0) (subst (λ (f : GeometryFields). AreShelved f j.acts xs f.zones) (sym c.requires.fields) t.cells) in
    let cells : c.take_cells-cells.result.items ≡ zones_at g j.acts (zones g) = c.take_cells-cells.ensures.cells g j.acts shelved in
    subst (DriveStands g c.take_cells-cells.result.items) (sym c.into_book.ensures) (drive-stands g c.take_cells-cells.result.items c.in-Ledger.book j is cells t.ends.small)

pub returns-clause-ends : goal.returns-clause-ends
returns-clause-ends c =
    let xs : List Slot = slots_items c.close_with-closed.result.slots in
    let plan : Plan = c.args.table.shared.key in
    let long : length xs ≡ suc plan.fields.zones = omega (arith, c.close_with-closed.result.slots.ok.0, c.close_with-closed.ensures.counts.1, c.requires.slots, ap (λ (f : GeometryFields). f.zones) c.requires.fields) in
    let t = ends plan c.args.seat.id c.args.seat.me.0 _ xs c.requires.main c.requires.none c.close_with-closed.ensures.values.2 long in
    let j : KeptActs = t.journal in
    let same : Ledger (ledger_at plan.fields j) ≡ Ledger c.in-Ledger.book = some-injective (Ledger (ledger_at plan.fields j)) (Ledger c.in-Ledger.book) (sym t.book ∙ (c.take.ensures.value ∙ ap (λ (y : Slot). some y) c.in-Ledger.is)) in
    let book : ledger_at plan.fields j ≡ c.in-Ledger.book = cc same in
    let is : j ≡ c.in-Ledger.book.journal = sym (ledger-journal plan.fields j) ∙ ap (λ (b : Book). b.journal) book in
    subst (λ (x : Book). Ends c.args.seat.me.0 x.journal) (sym c.into_book.ensures) (subst (Ends c.args.seat.me.0) is t.ends)
