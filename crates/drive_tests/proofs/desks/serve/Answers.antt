use Rattle.std.proofs.Common.{ℕ, length, sym, subst, inr}
use Rattle.solo_drive.specs.Drives.{HasLengths, act_of}
use Rattle.drive_tests.proofs.desks.serve.Goals as goal

pub apply_taken-requires-clause-lent : goal.apply_taken-requires-clause-lent
apply_taken-requires-clause-lent g c = inr c.take_only.ensures.held

pub apply_taken-requires-clause-lengths : goal.apply_taken-requires-clause-lengths
apply_taken-requires-clause-lengths g c =
    subst (λ (n : ℕ). HasLengths c.args.desk.now.geometry (act_of n c.args.sqe c.args.payload) (length c.args.out.now)) (sym c.take_only.ensures.queue) c.requires.lengths

pub ready_act-requires-clause-zones : goal.ready_act-requires-clause-zones
ready_act-requires-clause-zones g c = inr c.take_only.ensures.held

pub ready_act-requires-clause-lengths : goal.ready_act-requires-clause-lengths
ready_act-requires-clause-lengths g c =
    subst (λ (n : ℕ). HasLengths c.args.desk.now.geometry (act_of n c.args.sqe c.args.payload) (length c.args.out.now)) (sym c.take_only.ensures.queue) c.requires.lengths
