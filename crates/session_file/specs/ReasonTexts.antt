-- The texts of the reasons.
use Rattle.std.specs.Prelude.{ℕ, List, codes}
use Rattle.session_file.specs.declared.file_err.Reason.{Reason}
use Rattle.session_file.specs.declared.file_err.Reason.TheVariants as reason

abbrev pub reason_text : Reason → List ℕ
reason_text reason.Short = codes "Short"
reason_text reason.Magic = codes "Magic"
reason_text reason.Header = codes "Header"
reason_text reason.Queue = codes "Queue"
reason_text reason.Reserved = codes "Reserved"
reason_text reason.Length = codes "Length"
reason_text reason.Trailing = codes "Trailing"
reason_text reason.HostLine = codes "HostLine"
reason_text reason.ResultMagic = codes "ResultMagic"
reason_text reason.ResultCount = codes "ResultCount"
reason_text reason.ResultOrder = codes "ResultOrder"
