-- The numbers of statuses.
use Rattle.std.specs.Prelude.{ℕ}
use Rattle.zns_program.specs.declared.status.Status.{Status}
use Rattle.zns_program.specs.declared.status.Status.TheVariants as status

abbrev pub number_of : Status → ℕ
number_of status.Ok = 0
number_of status.NoMemory = 1
number_of status.Usage = 2
number_of status.ReadFault = 3
number_of status.WriteFault = 4
number_of (status.BadFile what offset) = 5
number_of (status.TooLarge what number) = 6
number_of (status.Differs offset) = 7
