use denote.Exit.{no}
use denote.Param.Send.{param_send, arg_send}
use Rattle.queue_controller.specs.contracts.job.Job as Job
use Rattle.queue_controller.proofs.Crossing.{job_send}
use Rattle.queue_controller.proofs.session.work_all.Goals as goal

pub for_each_mut-requires-send-T : goal.for_each_mut-requires-send-T
for_each_mut-requires-send-T g c κs within = param_send 1 _ (arg_send _ no Job.the_row job_send)
