-- The texts for what is too large.
use Rattle.std.specs.Prelude.{ℕ, List, codes}
use Rattle.session_file.specs.declared.file_err.Which.{Which}
use Rattle.session_file.specs.declared.file_err.Which.TheVariants as which

abbrev pub which_text : Which → List ℕ
which_text which.Input = codes "Input"
which_text which.Zones = codes "Zones"
which_text which.ZoneSize = codes "ZoneSize"
which_text which.Queues = codes "Queues"
which_text which.Depth = codes "Depth"
which_text which.Commands = codes "Commands"
which_text which.Sent = codes "Sent"
which_text which.Replies = codes "Replies"
