use Rattle.std.proofs.Common.{◌≡◌, ◌-◌, Bool, true, false, List, length, map, get_or, set, ap, sym, ◌∙◌, subst, arith, length-set}
use lib.Seq.{map-set}
use Rattle.zone_desk.specs.Plays.{Mine}
use Rattle.zone_desk.specs.Passes.{DeskId, Pass, is_given, NoneJoined}
use Rattle.zone_desk.specs.declared.sight.Standing.TheVariants.{Live}
use Rattle.zone_desk.proofs.Given.{free_from, none-joined-set}
use Rattle.zone_desk.proofs.desk.Desk.pass.Goals as goal

pub seat_for-seat-requires-clause-queue : goal.seat_for-seat-requires-clause-queue
seat_for-seat-requires-clause-queue c =
    let i = c.main.invariant in
    let queues : c.main.inside.seat.me.0.geometry.queues ≡ c.args.self.now.geometry.queues = ap (λ (p : Pass). p.desk.geometry.queues) c.main.view_is ∙ ap (λ (d : DeskId). d.geometry.queues) c.requires.desk in
    free_from c.main.inside.seat.me.0.standings c.args.queue (omega (arith, i.queues, queues, c.requires.queue))
    (ap (λ (l : List Bool). get_or l c.args.queue false) (sym i.given) ∙ (ap (λ (b : Bool). get_or c.main.inside.given.items c.args.queue b) (sym c.if-index.false) ∙ (sym c.index.ensures ∙ c.if-index.false)))

pub invariant_of-main : goal.invariant_of-main
invariant_of-main c =
    let i = c.main.invariant in
    let now = c.seat_for-seat.ensures.seat in
    record {
      left = ap (λ n. n - c.args.room) i.left ∙ sym (ap (λ (m : Mine). m.0.spare) now);
      kind = ap (λ (m : Mine). m.0.kind) now;
      none_out = ap (λ (m : Mine). m.1) now ∙ i.none_out;
      given = ap (λ (l : List Bool). set l c.args.queue true) i.given ∙ (sym (map-set is_given c.main.inside.seat.me.0.standings c.args.queue Live) ∙ sym (ap (λ (m : Mine). map is_given m.0.standings) now));
      queues = ap (λ (m : Mine). length m.0.standings) now ∙ (length-set c.main.inside.seat.me.0.standings c.args.queue Live ∙ (i.queues ∙ sym (ap (λ (m : Mine). m.0.geometry.queues) now)));
      none_joined = subst (λ (m : Mine). NoneJoined m.0.standings) (sym now) (none-joined-set c.main.inside.seat.me.0.standings c.args.queue i.none_joined);
    }
