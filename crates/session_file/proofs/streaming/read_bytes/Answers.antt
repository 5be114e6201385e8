use Rattle.std.proofs.Common.{arith}
use Rattle.session_file.proofs.Appending.{one_of_sent}
use Rattle.session_file.proofs.streaming.read_bytes.Goals as goal

pub put_acts-requires : goal.put_acts-requires
put_acts-requires c = λ k d lt. omega (arith, one_of_sent c.args.acts.now.acts k d lt, c.requires.sent)
