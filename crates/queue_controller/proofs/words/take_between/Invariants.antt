use Rattle.queue_controller.proofs.Taken.{Takes}
use Rattle.queue_controller.proofs.words.take_between.Given as goal

abbrev pub invariant-loop-zone : goal.invariant-loop-zone
invariant-loop-zone g l = Takes l.initial.pass l.first l.zone l.pass
