use Rattle.std.proofs.Common.{◌≡◌, ℕ, ◌<◌, ◌≤◌, ◌^◌, [], ◌++◌, length, vec_capacity}
use mathlib.Core.Option.{some}
use lib.ListN.{get_elem?}
use Rattle.zone_desk.specs.declared.sight.Standing.TheVariants.{Free, Live}
use Rattle.queue_controller.specs.Sessions.{total, AllOpen}
use Rattle.queue_controller.proofs.opening.jobs_for.Given as goal

abbrev pub invariant-loop-list : goal.invariant-loop-list
invariant-loop-list l = record {
  queue : l.queue ≡ length l.yielded;
  desk_is : l.main.desk ≡ l.desk;
  seen : l.main.sight.seen ≡ [];
  spare : l.main.sight.spare ≡ total l.list-iterator.rest.items;
  small : total l.list-iterator.rest.items < 2 ^ 32;
  long : length l.main.sight.standings ≡ length l.fn.lists.items;
  live : (k : ℕ) → k < length l.yielded → get_elem? l.main.sight.standings k ≡ some Live;
  free : (k : ℕ) → length l.yielded ≤ k → k < length l.fn.lists.items → get_elem? l.main.sight.standings k ≡ some Free;
  jobs : AllOpen l.desk l.yielded l.jobs.items;
  count : length l.jobs.items ≡ length l.yielded;
  room : length l.fn.lists.items ≤ vec_capacity l.jobs;
  items : l.yielded ++ l.list-iterator.rest.items ≡ l.fn.lists.items;
}
