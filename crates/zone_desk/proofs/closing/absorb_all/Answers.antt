use Rattle.std.proofs.Common.{◌≡◌, List, [], ◌∷◌, ◌++◌, length, Option, None, sym, ◌∙◌, ap, subst, append_assoc}
use mathlib.Core.Option.{some}
use lib.ListN.{get_elem?}
use Rattle.zone_model.specs.Kept.{KeptActs}
use Rattle.zone_desk.specs.Sights.{joined}
use Rattle.zone_desk.specs.Passes.{DeskId, Pass, emptied, absorbed}
use Rattle.zone_desk.specs.declared.sight.Sight.{Sight}
use Rattle.zone_desk.proofs.Seats.{absorbing}
use Rattle.zone_desk.proofs.Ends.{at_middle, joined_more, all_yielded}
use Rattle.zone_desk.proofs.closing.absorb_all.Goals as goal

pub join_seat-requires : goal.join_seat-requires
join_seat-requires c =
    let inv = c.loop-pass.invariant in
    let row : c.loop-pass.yielded ++ c.in-Some.pass ∷ c.next.new.self.rest.items ≡ c.args.passes.items = ap (λ (z : List Pass). c.loop-pass.yielded ++ z) (sym c.in-Some.ensures.steps.0) ∙ inv.items in
    let fits = c.requires.idle (length c.loop-pass.yielded) c.in-Some.pass (subst (λ (z : List Pass). get_elem? z (length c.loop-pass.yielded) ≡ some c.in-Some.pass) row (at_middle c.loop-pass.yielded c.next.new.self.rest.items c.in-Some.pass)) in
    let mine = c.pass.invariant in
    let v : Sight = c.pass.inside.seat.me.0 in
    let book : v.journal ≡ None = ap (λ (p : Pass). p.sight.journal) c.pass.view_is ∙ fits.1.0 in
    let cells : v.cells ≡ [] = ap (λ (p : Pass). p.sight.cells) c.pass.view_is ∙ fits.1.1 in (
      inv.table ∙ c.requires.table,
      ap (λ (p : Pass). p.desk.table) c.pass.view_is ∙ ap (λ (d : DeskId). d.table) fits.0,
      mine.carries.empty ∙ (ap (λ (o : Option KeptActs). emptied o v.cells) book ∙ ap (emptied None) cells),
      c.requires.words,
      absorbing _ _ c.loop-pass.seat.me.0 _ v inv.main mine.kind book cells,
    )

pub loop-pass-preserved : goal.loop-pass-preserved
loop-pass-preserved c =
    let inv = c.loop-pass.invariant in
    let j = c.join_seat.ensures in
    let view : c.join_seat.new.seat.me.0 ≡ joined c.loop-pass.seat.me.0 c.in-Some.pass.sight = ap (λ m. m.0) j.2 ∙ ap (λ (p : Pass). joined c.loop-pass.seat.me.0 p.sight) c.pass.view_is in
    record {
      table = j.0 ∙ inv.table;
      main = ap (λ (v : Sight). v.kind) view;
      sight = view ∙ joined_more c.args.seat.now.me.0 c.loop-pass.seat.me.0 c.loop-pass.yielded c.in-Some.pass inv.sight;
      items = append_assoc c.loop-pass.yielded (c.in-Some.pass ∷ []) c.next.new.self.rest.items ∙ (ap (λ (z : List Pass). c.loop-pass.yielded ++ z) (sym c.in-Some.ensures.steps.0) ∙ inv.items);
    }

pub returns-clause-sight : goal.returns-clause-sight
returns-clause-sight c =
    let inv = c.loop-pass.invariant in
    let all = all_yielded c.loop-pass.yielded c.loop-pass.pass-iterator.rest.items c.args.passes.items inv.items (sym c.loop-pass.pass-iterator.rest.ok.0 ∙ c.in-None.ensures.steps.0) in
    inv.sight ∙ ap (absorbed c.args.seat.now.me.0) all
