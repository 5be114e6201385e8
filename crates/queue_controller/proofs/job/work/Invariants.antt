use Rattle.std.proofs.Common.{◌≡◌, ◌+◌, ◌≤◌, [], ◌++◌, length, vec_capacity}
use Rattle.zone_model.specs.Sessions.{acts_of}
use Rattle.queue_controller.specs.Keeping.{Holds, kept_zones}
use Rattle.queue_controller.specs.Replies.{queue_responses, Respond}
use Rattle.queue_controller.specs.Jobs.{ArePrepared, acts_in}
use Rattle.queue_controller.proofs.job.work.Given as goal

abbrev pub invariant-loop-prepared : goal.invariant-loop-prepared
invariant-loop-prepared g l = record {
  holds : Holds l.desk (kept_zones l.desk.geometry l.kept.words) l.job.pass;
  queue : l.job.pass.sight.queue ≡ l.initial.job.pass.sight.queue;
  own : l.job.pass.sight.own ++ acts_in l.job.left.items ≡ acts_in l.initial.job.left.items;
  seen : acts_of l.job.pass.sight.queue l.job.pass.sight.seen ≡ l.job.pass.sight.own;
  replies : Respond l.job.replies.items (queue_responses l.desk.geometry l.job.pass.sight.queue [] l.job.pass.sight.seen);
  room : length l.job.left.items + length l.job.replies.items ≤ vec_capacity l.job.replies;
  spare : length l.job.left.items ≤ l.job.pass.sight.spare;
  prepared : ArePrepared l.desk.geometry l.job.pass.sight.queue l.job.left.items;
}

abbrev pub decreases-loop-prepared : goal.decreases-loop-prepared
decreases-loop-prepared g l = length l.job.left.items
