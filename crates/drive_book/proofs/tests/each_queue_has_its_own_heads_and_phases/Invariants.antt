use Rattle.std.proofs.Common.{◌≡◌, length}
use Rattle.drive_book.proofs.tests.each_queue_has_its_own_heads_and_phases.Given as goal

abbrev pub invariant-loop-queue : goal.invariant-loop-queue
invariant-loop-queue g l = length l.tallies ≡ 2
