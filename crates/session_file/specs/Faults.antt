-- What an error says about the rules.
use Rattle.std.specs.Prelude.{◌≡◌, ℕ, ◌+◌, ◌≤◌, List, Some, None}
use Rattle.zns_types.specs.Rows.{Row, first_holding}
use Rattle.session_file.specs.declared.file_err.FileErr.{FileErr}
use Rattle.session_file.specs.declared.file_err.FileErr.TheVariants.{NoMemory, Bad, Large}

-- no rule is broken
abbrev pub NoneBroken : List (Row FileErr) → Type 0
NoneBroken rows = first_holding rows ≡ None

-- the error is that of the first rule that is broken
abbrev pub FirstBroken : List (Row FileErr) → FileErr → Type 0
FirstBroken rows e = first_holding rows ≡ Some e

-- the error is that of the first broken rule, or the program is out of memory
abbrev pub IsFirstOf : List (Row FileErr) → FileErr → Type 0
IsFirstOf rows NoMemory = Unit {0}
IsFirstOf rows (Bad reason offset) = FirstBroken rows (Bad reason offset)
IsFirstOf rows (Large which number) = FirstBroken rows (Large which number)

-- memory ran out
abbrev pub OutOfMemory : FileErr → Type 0
OutOfMemory e = e ≡ NoMemory

-- if the error has an offset, it is at most `end`
abbrev pub IsWithin : ℕ → FileErr → Type 0
IsWithin end NoMemory = Unit {0}
IsWithin end (Bad reason offset) = offset ≤ end
IsWithin end (Large which number) = Unit {0}

-- an error with its offset moved on by the number of bytes that come first
abbrev pub later : ℕ → FileErr → FileErr
later before NoMemory = NoMemory
later before (Bad reason offset) = Bad reason (before + offset)
later before (Large which number) = Large which number
