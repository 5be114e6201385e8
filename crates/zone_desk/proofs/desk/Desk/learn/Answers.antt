use Rattle.std.proofs.Common.{◌≡◌, ◌≤◌, length, ap, sym, ◌∙◌, subst, arith}
use mathlib.Core.List.{IsPrefix}
use Rattle.zone_desk.specs.Sights.{told}
use Rattle.zone_desk.specs.declared.sight.Sight.{Sight}
use Rattle.zone_desk.proofs.Lists.{told-both}
use Rattle.zone_desk.specs.Passes.{DeskId, Pass}
use Rattle.zone_desk.proofs.Notes.{telling}
use Rattle.zone_desk.proofs.Keeps.{comparing}
use Rattle.zone_desk.proofs.desk.Desk.learn.Goals as goal

pub join_seat-requires : goal.join_seat-requires
join_seat-requires c =
    let note = c.note.invariant in (
      ap (λ (d : DeskId). d.table) (ap (λ (p : Pass). p.desk) c.pass.view_is ∙ (c.requires.desk ∙ sym c.self.view_is)),
      ap (λ (d : DeskId). d.table) (ap (λ (p : Pass). p.desk) c.note.view_is ∙ (c.requires.note ∙ sym c.self.view_is)),
      note.none_out,
      omega (arith, c.self.invariant.words),
      telling _ _ c.pass.inside.seat.me.0 _ c.note.inside.seat.me.0 c.pass.invariant.kind note.kind note.spare,
    )

pub load-requires : goal.load-requires
load-requires c = (
  c.join_seat.ensures.0 ∙ ap (λ (d : DeskId). d.table) (ap (λ (p : Pass). p.desk) c.pass.view_is ∙ (c.requires.desk ∙ sym c.self.view_is)),
  omega (arith, c.self.invariant.words),
  comparing _ _ _ _,
)

pub returns-clause-own : goal.returns-clause-own
returns-clause-own c =
    let v : Sight = c.pass.inside.seat.me.0 in
    let w : Sight = c.note.inside.seat.me.0 in
    let is : c.join_seat.new.seat.me.0 ≡ told v w = ap (λ m. m.0) c.join_seat.ensures.2 in
    let both = told-both v.seen w.seen (subst (λ (x : Sight). length x.heard ≤ length x.seen → IsPrefix x.heard x.seen) is c.load.ensures.2.1) in
    let now : c.load.new.seat.me.0 ≡ told v w = ap (λ m. m.0) c.load.ensures.2.0 ∙ is in
    subst (λ (p : Pass). IsPrefix p.sight.seen c.load.new.seat.me.0.seen) c.pass.view_is (subst (λ (x : Sight). IsPrefix v.seen x.seen) (sym now) both.0)

pub returns-clause-others : goal.returns-clause-others
returns-clause-others c =
    let v : Sight = c.pass.inside.seat.me.0 in
    let w : Sight = c.note.inside.seat.me.0 in
    let is : c.join_seat.new.seat.me.0 ≡ told v w = ap (λ m. m.0) c.join_seat.ensures.2 in
    let both = told-both v.seen w.seen (subst (λ (x : Sight). length x.heard ≤ length x.seen → IsPrefix x.heard x.seen) is c.load.ensures.2.1) in
    let now : c.load.new.seat.me.0 ≡ told v w = ap (λ m. m.0) c.load.ensures.2.0 ∙ is in
    subst (λ (p : Pass). IsPrefix p.sight.seen c.load.new.seat.me.0.seen) c.note.view_is (subst (λ (x : Sight). IsPrefix w.seen x.seen) (sym now) both.1)
