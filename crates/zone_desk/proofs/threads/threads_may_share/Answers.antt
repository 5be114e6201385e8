use denote.Exit.{no}
use denote.Param.Send.{param_send, arg_send}
use Rattle.zone_desk.specs.contracts.passes.QueuePass as QueuePass
use Rattle.zone_desk.proofs.Crossing.{pass_send}
use Rattle.zone_desk.proofs.threads.threads_may_share.Goals as goal

pub may_move-requires-3-send-T : goal.may_move-requires-3-send-T
may_move-requires-3-send-T κs within = param_send 0 _ (arg_send _ no QueuePass.the_row pass_send)
