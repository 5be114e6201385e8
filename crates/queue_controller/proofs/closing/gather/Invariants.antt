use Rattle.std.proofs.Common.{◌≡◌, ◌+◌, ◌≤◌, [], length, take, drop}
use Rattle.queue_controller.specs.Replies.{all_responses, Respond}
use Rattle.queue_controller.specs.Sessions.{AllSaid}
use Rattle.queue_controller.proofs.closing.gather.Given as goal

abbrev pub invariant-loop-number : goal.invariant-loop-number
invariant-loop-number l = record {
  said : AllSaid l.drive.geometry (take l.number l.drive.acts) (drop l.number l.drive.acts) l.said.items;
  count : length l.said.items ≡ length l.fn.said.items;
  room : length l.drive.acts ≤ l.replies.spare + l.number;
  replies : Respond l.replies.replies (all_responses l.drive.geometry [] (take l.number l.drive.acts));
}
