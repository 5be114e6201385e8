-- A job may go to another thread.
use denote.Struct.Declared.{shape}
use denote.Param.Send.{IsSend, recorded_send, struct_send}
use Rattle.std.proofs.Crossing.{Vec-send, Deque-send}
use Rattle.zone_model.specs.contracts.reply.Reply as Reply
use Rattle.zone_model.proofs.reply.Reply.TheSendSync as reply
use Rattle.zone_desk.proofs.Crossing.{pass_send}
use Rattle.queue_controller.specs.contracts.job.Prepared as Prepared
use Rattle.queue_controller.specs.contracts.job.Job as Job
use Rattle.queue_controller.proofs.job.Prepared.TheSendSync as prepared

pub job_send : IsSend Job.the_row
job_send = recorded_send (Job.the_field).row _ _ (Job.the_type).to_one (struct_send (shape Job.the_type) (pass_send, (Deque-send Prepared.the_row prepared.the_send, (Vec-send Reply.the_row reply.the_send, tt))))
