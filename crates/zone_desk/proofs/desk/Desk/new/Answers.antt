use Rattle.std.proofs.Common.{rules, ◌≡◌, ℕ, suc, ◌+◌, List, [], ◌∷◌, false, map, replicate, length, sym, ◌∙◌, ap, subst, subst₂, arith}
use Rattle.atomic_table.specs.Table.{opening}
use Rattle.zns_types.specs.declared.fields.GeometryFields.{GeometryFields}
use Rattle.zone_cell.specs.Cells.{Cell}
use Rattle.zone_model.specs.Kept.{KeptActs}
use Rattle.solo_drive.specs.Drives.{drive_of}
use Rattle.zone_desk.specs.Parts.{ledger_at}
use Rattle.zone_desk.specs.Rules.{Rule}
use Rattle.zone_desk.specs.Sights.{first_sight}
use Rattle.zone_desk.specs.Plays.{Mine}
use Rattle.zone_desk.specs.Passes.{is_given, NoneJoined}
use Rattle.zone_desk.specs.declared.plan.Plan.{Plan}
use Rattle.zone_desk.specs.declared.slot.Slot.{Slot}
use Rattle.zone_desk.specs.declared.slot.Slot.TheVariants.{Ledger, Zone}
use Rattle.zone_desk.proofs.Parts.{new-book, new-cells}
use Rattle.zone_desk.proofs.Seats.{opens, cell_places, length-places}
use Rattle.zone_desk.proofs.Given.{none_given, length-free, none-joined}
use Rattle.zone_desk.proofs.desk.Desk.new.Goals as goal

two_more : (n : ℕ) → replicate {A = ℕ} (n + 2) 0 ≡ 0 ∷ 0 ∷ replicate {A = ℕ} n 0
two_more n = let two : n + 2 ≡ suc (suc n) = omega arith in let z : ℕ = 0 in ap (λ (k : ℕ). replicate k z) two

pub new-requires-2 : goal.new-requires-2
new-requires-2 c =
    let g : GeometryFields = c.args.g.fields in
    let plan : Plan = record { fields = g; room = c.args.room } in
    let zones : ℕ = g.zones in
    let j : KeptActs = record { acts = []; spare = plan.room } in
    let parts = c.into_parts-cells in
    let drive : drive_of parts.result.geometry.fields parts.result.book.journal ≡ drive_of g j = parts.ensures.drive ∙ c.in_ok-new.ensures in
    let book : parts.result.book ≡ ledger_at g j = new-book g j parts.result.geometry.fields parts.result.cells.items parts.result.book parts.ensures.stand drive in
    let cells : map (λ (x : Cell). Zone x) parts.result.cells.items ≡ cell_places g = ap (map (λ (x : Cell). Zone x)) (new-cells g j parts.result.geometry.fields parts.result.cells.items parts.result.book parts.ensures.stand drive) in
    let all : c.in_ok-words.words.items ≡ replicate (zones + 2) 0 = search rules in
    let words : c.as_slice.result.now ≡ 0 ∷ 0 ∷ replicate zones 0 = c.as_slice.ensures.value ∙ (all ∙ two_more zones) in
    let row : c.in_ok-slots.slots.items ≡ Ledger (ledger_at g j) ∷ cell_places g = c.in_ok-slots.ensures ∙ (λ i. Ledger (book i) ∷ cells i) in
    subst₂ (λ (x : List ℕ) (y : List Slot). Rule plan (opening x y (first_sight plan))) (sym words) (sym row) (opens plan j (λ i. j) c.ranges.room.fits)

pub invariant_of-result : goal.invariant_of-result
invariant_of-result c =
    let g : GeometryFields = c.args.g.fields in
    let zones : ℕ = g.zones in
    let j : KeptActs = record { acts = []; spare = c.args.room } in
    let ok = c.in-Ok.ensures.ok in
    let parts = c.into_parts-cells in
    let drive : drive_of parts.result.geometry.fields parts.result.book.journal ≡ drive_of g j = parts.ensures.drive ∙ c.in_ok-new.ensures in
    let cells : map (λ (x : Cell). Zone x) parts.result.cells.items ≡ cell_places g = ap (map (λ (x : Cell). Zone x)) (new-cells g j parts.result.geometry.fields parts.result.cells.items parts.result.book parts.ensures.stand drive) in
    let long : length c.as_slice.result.now ≡ zones + 2 = omega (arith, c.as_slice.ensures.len, c.in_ok-words.ensures.len) in
    let row = ap (λ (l : List Slot). length l) c.in_ok-slots.ensures in
    let n = ap (λ (l : List Slot). length l) cells ∙ length-places g in
    record {
      words = omega (arith, ok.0, long);
      slots = omega (arith, ok.1, row, n);
      geometry = sym (ap (λ (p : Plan). p.fields) ok.5);
      empty = c.in_ok-shelf.ensures.items;
      room = c.in_ok-shelf.ensures.capacity;
      waiting = c.in_ok-waiting.ensures;
    }

pub invariant_of-result-in-Ok : goal.invariant_of-result-in-Ok
invariant_of-result-in-Ok c =
    let me = c.in-Ok.ensures.ok.4 in
    let queues : ℕ = c.args.g.fields.queues in
    let given : c.in_ok-given.given.items ≡ replicate queues false = search rules in
    record {
      left = sym (ap (λ (m : Mine). m.0.spare) me);
      kind = ap (λ (m : Mine). m.0.kind) me;
      none_out = ap (λ (m : Mine). m.1) me;
      given = given ∙ (none_given queues ∙ sym (ap (λ (m : Mine). map is_given m.0.standings) me));
      queues = ap (λ (m : Mine). length m.0.standings) me ∙ (length-free queues ∙ sym (ap (λ (m : Mine). m.0.geometry.queues) me));
      none_joined = subst (λ (m : Mine). NoneJoined m.0.standings) (sym me) (none-joined queues);
    }
