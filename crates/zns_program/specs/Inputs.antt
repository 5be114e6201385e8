-- Which inputs are taken, and how the others are refused.
use Rattle.std.specs.Prelude.{◌≡◌, ℕ, ◌+◌, ◌≤◌, ◌^◌, nat_lt, List, [], ◌∷◌, ◌++◌, length, Option, Some}
use Rattle.zns_types.specs.Rows.{Row, first_holding}
use Rattle.zone_model.specs.Sessions.{Recorded, IsSession, spells}
use Rattle.session_file.specs.declared.file_err.Which.TheVariants as which
use Rattle.session_file.specs.declared.file_err.FileErr.{FileErr}
use Rattle.session_file.specs.FileRules.{large, front_rows, file_rows}
use Rattle.session_file.specs.Orders.{result_rows}
use Rattle.session_file.specs.Places.{session_in, session_end}
use Rattle.host_script.specs.Spelling.{Scripted, IsScript, script_text}
use Rattle.host_script.specs.ScriptRules.{script_rows}
use Rattle.zns_program.specs.declared.task.Task.{Task}
use Rattle.zns_program.specs.declared.task.Task.TheVariants as the_task
use Rattle.zns_io.specs.Reading.{ReadsAll}
use Rattle.zns_program.specs.Checking.{IsSame, IsUnlike}

-- ---- what a task reads

-- What a task takes of the bytes that a source still has, if it tells them: all of them, or none if the task reads nothing.
abbrev pub input_of : Task → Option (List ℕ) → Option (List ℕ)
input_of the_task.One left = left
input_of the_task.Run left = left
input_of the_task.Check left = left
input_of the_task.Show left = left
input_of the_task.Host left = left
input_of (the_task.Gen number count) left = Some []

-- The source was read to its end, and these bytes are all of it. With `gen` nothing was read.
abbrev pub Reads : Task → Option (List ℕ) → Option (List ℕ) → List ℕ → Type 0
Reads the_task.One left now input = ReadsAll left now input
Reads the_task.Run left now input = ReadsAll left now input
Reads the_task.Check left now input = ReadsAll left now input
Reads the_task.Show left now input = ReadsAll left now input
Reads the_task.Host left now input = ReadsAll left now input
Reads (the_task.Gen number count) left now input = (now ≡ left) × (input ≡ [])

-- ---- what it takes

-- an input has at most 2^29 bytes
abbrev pub input_row : List ℕ → Row FileErr
input_row bytes = large which.Input (2 ^ 29 + 1) (nat_lt (2 ^ 29) (length bytes))

-- the rules of an input that is a session, with nothing after it
abbrev pub session_rows : List ℕ → List (Row FileErr)
session_rows bytes = input_row bytes ∷ file_rows bytes

-- the rules of an input that is a session followed by an order of its acts
abbrev pub checked_rows : List ℕ → List (Row FileErr)
checked_rows bytes = input_row bytes ∷ (front_rows bytes ++ result_rows bytes (session_end bytes) (session_in bytes).acts)

-- the rules of an input that is a script
abbrev pub host_rows : List ℕ → List (Row FileErr)
host_rows bytes = input_row bytes ∷ script_rows bytes

-- the rule of a session that is made: it has at most 262,144 commands
abbrev pub made_rows : ℕ → List (Row FileErr)
made_rows count = large which.Commands count (nat_lt 262144 count) ∷ []

-- the rules of what a task takes, in order
abbrev pub rules_for : Task → List ℕ → List (Row FileErr)
rules_for the_task.One bytes = session_rows bytes
rules_for the_task.Run bytes = session_rows bytes
rules_for the_task.Check bytes = checked_rows bytes
rules_for the_task.Show bytes = session_rows bytes
rules_for the_task.Host bytes = host_rows bytes
rules_for (the_task.Gen number count) bytes = made_rows count

-- the input is refused for the first rule that it breaks
abbrev pub IsRefusal : Task → List ℕ → FileErr → Type 0
IsRefusal t bytes e = first_holding (rules_for t bytes) ≡ Some e

-- the bytes spell a session
pub record SpellsSession (bytes : List ℕ) : Type 0 where
  pub session : Recorded
  pub valid : IsSession session
  pub spelled : spells session bytes

-- the bytes spell a script
pub record SpellsScript (bytes : List ℕ) : Type 0 where
  pub script : Scripted
  pub valid : IsScript script
  pub spelled : bytes ≡ script_text script

-- The inputs for which a task makes an output: every session; for a check, every session with its result; for a host, every script. Whether
-- a session is made depends on its number of commands alone.
abbrev pub IsTaken : Task → List ℕ → Type 0
IsTaken the_task.One bytes = SpellsSession bytes
IsTaken the_task.Run bytes = SpellsSession bytes
IsTaken the_task.Check bytes = IsSame bytes
IsTaken the_task.Show bytes = SpellsSession bytes
IsTaken the_task.Host bytes = SpellsScript bytes
IsTaken (the_task.Gen number count) bytes = count ≤ 262144

-- the offset at which a result differs from that of its session; only a check looks for it
abbrev pub IsFound : Task → List ℕ → ℕ → Type 0
IsFound the_task.One bytes offset = ⊥
IsFound the_task.Run bytes offset = ⊥
IsFound the_task.Check bytes offset = IsUnlike bytes offset
IsFound the_task.Show bytes offset = ⊥
IsFound the_task.Host bytes offset = ⊥
IsFound (the_task.Gen number count) bytes offset = ⊥
