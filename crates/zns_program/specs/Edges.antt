-- How a run ends.
use Rattle.std.specs.Prelude.{Bool, false}
use Rattle.zns_program.specs.declared.status.Status.{Status}
use Rattle.zns_program.specs.declared.status.Status.TheVariants as status

-- the status of a run once its output was flushed, or flushing failed
abbrev pub status_after_flush : Status → Bool → Status
status_after_flush status.Ok false = status.WriteFault
status_after_flush s flushed = s
