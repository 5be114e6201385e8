use Rattle.queue_controller.proofs.Taken.{Takes}
use Rattle.queue_controller.proofs.words.try_between.Given as goal

abbrev pub invariant-loop-zone : goal.invariant-loop-zone
invariant-loop-zone l = Takes l.initial.pass l.first l.zone l.pass
