-- The line that reports a status.
use Rattle.std.specs.Prelude.{ℕ, List, [], ◌∷◌, ◌++◌, codes}
use Rattle.std.specs.Fmt.{decimal}
use Rattle.session_file.specs.ReasonTexts.{reason_text}
use Rattle.session_file.specs.WhichTexts.{which_text}
use Rattle.zns_program.specs.declared.status.Status.{Status}
use Rattle.zns_program.specs.declared.status.Status.TheVariants as status

-- Success has no line. Each line ends with a line feed.
abbrev pub line_of : Status → List ℕ
line_of status.Ok = []
line_of status.NoMemory = codes "zns_runner: no memory" ++ 10 ∷ []
line_of status.Usage = codes "zns_runner: usage: one, run, check, show, host, gen NUMBER COUNT" ++ 10 ∷ []
line_of status.ReadFault = codes "zns_runner: read fault" ++ 10 ∷ []
line_of status.WriteFault = codes "zns_runner: write fault" ++ 10 ∷ []
line_of (status.BadFile reason offset) = codes "zns_runner: bad file: " ++ reason_text reason ++ codes " at " ++ decimal offset ++ 10 ∷ []
line_of (status.TooLarge which number) = codes "zns_runner: too large: " ++ which_text which ++ codes " " ++ decimal number ++ 10 ∷ []
line_of (status.Differs offset) = codes "zns_runner: differs at " ++ decimal offset ++ 10 ∷ []
