use Rattle.std.proofs.Common.{length, refl, sym, subst}
use Rattle.solo_drive.specs.Drives.{HasLengths, act_of}
use Rattle.solo_drive.specs.Parts.{AreLent}
use Rattle.zone_desk.specs.Sights.{zones_held}
use Rattle.zone_desk.specs.Passes.{Pass, IsIdle}
use Rattle.zone_desk.proofs.Idle.{idle-given}
use Rattle.drive_tests.proofs.desks.apply_taken.Goals as goal

pub apply_act-applied-requires-clause-zones : goal.apply_act-applied-requires-clause-zones
apply_act-applied-requires-clause-zones g c =
    subst (λ (p : Pass). AreLent c.args.desk.now.geometry (act_of p.sight.queue c.args.sqe c.args.payload) (zones_held p.sight)) (sym (c.take_word.ensures.book refl).1) c.requires.lent

pub apply_act-applied-requires-clause-lengths : goal.apply_act-applied-requires-clause-lengths
apply_act-applied-requires-clause-lengths g c =
    subst (λ (p : Pass). HasLengths c.args.desk.now.geometry (act_of p.sight.queue c.args.sqe c.args.payload) (length c.args.out.now)) (sym (c.take_word.ensures.book refl).1) c.requires.lengths

pub returns-clause-idle : goal.returns-clause-idle
returns-clause-idle g c = subst (λ (p : Pass). IsIdle p.sight) (sym c.put_back.ensures) (idle-given c.apply_act-applied.new.pass.sight)
