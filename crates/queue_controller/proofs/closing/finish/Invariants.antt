use Rattle.std.proofs.Common.{◌≡◌, ◌≤◌, ◌++◌, length, map, vec_capacity}
use Rattle.queue_controller.proofs.Rested.{pass_of, FromJobs}
use Rattle.queue_controller.proofs.closing.finish.Given as goal

abbrev pub invariant-loop-job : goal.invariant-loop-job
invariant-loop-job l = record {
  passes : l.passes.items ≡ map pass_of l.yielded;
  said : FromJobs l.yielded l.said.items;
  count : length l.said.items ≡ length l.yielded;
  room_passes : length l.fn.shop.jobs.items ≤ vec_capacity l.passes;
  room_said : length l.fn.shop.jobs.items ≤ vec_capacity l.said;
  items : l.yielded ++ l.job-iterator.rest.items ≡ l.fn.shop.jobs.items;
}
