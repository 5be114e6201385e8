use Rattle.solo_drive.specs.Drives.{act_of}
use Rattle.zone_desk.proofs.desk.Desk.settle_act.Given as goal

-- the act that is committed
abbrev pub ghosts-commit : goal.ghosts-commit
ghosts-commit a = record { act = act_of a.queue a.sqe a.payload.value }
