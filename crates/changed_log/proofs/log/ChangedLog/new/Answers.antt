use Rattle.changed_log.proofs.Marked.{no_marks}
use Rattle.changed_log.proofs.log.ChangedLog.new.Goals as goal

pub returns : goal.returns
returns c = no_marks 4096
