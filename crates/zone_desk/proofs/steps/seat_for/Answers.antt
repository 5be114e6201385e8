use Rattle.std.proofs.Common.{◌≡◌, ◌≤◌, ℕ, subst, sym}
use mathlib.Core.Option.{some}
use lib.ListN.{get_elem?}
use Rattle.zone_desk.specs.declared.sight.Standing.TheVariants.{Free}
use Rattle.zone_desk.specs.declared.sight.Sight.{Sight}
use Rattle.zone_desk.proofs.Seats.{making}
use Rattle.zone_desk.proofs.steps.seat_for.Goals as goal

pub split_seat-requires : goal.split_seat-requires
split_seat-requires g c =
    let picks = c.requires.picks in
    let v : Sight = c.args.seat.now.me.0 in (
      c.requires.table,
      c.requires.words,
      making _ _ v g.D.Seating.queue g.D.Seating.room c.requires.main
          (subst (λ (q : ℕ). get_elem? v.standings q ≡ some Free) (sym picks.0) c.requires.queue)
          (subst (λ (n : ℕ). n ≤ v.spare) (sym picks.1) c.requires.room),
    )
