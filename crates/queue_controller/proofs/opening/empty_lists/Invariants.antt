use Rattle.std.proofs.Common.{◌≡◌, ◌≤◌, length, vec_capacity}
use Rattle.queue_controller.specs.Sessions.{AreEmpty}
use Rattle.queue_controller.proofs.opening.empty_lists.Given as goal

abbrev pub invariant-loop : goal.invariant-loop
invariant-loop l = record { count : length l.lists.items ≡ l.counter; empty : AreEmpty l.lists.items; room : l.queues ≤ vec_capacity l.lists }
