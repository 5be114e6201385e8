-- What each status of the program means.
use Rattle.std.specs.Prelude.{◌≡◌, ℕ, ◌+◌, ◌<◌, ◌^◌, ◌↔◌, List, Option, Some, None, ◌⊎◌, ⊤}
use Rattle.zns_io.specs.Faults.{Rose}
use Rattle.zns_io.specs.Told.{Gains}
use Rattle.zns_io.specs.Reading.{ReadsFrontUpTo}
use Rattle.zns_io.specs.Writing.{GainsPrefix}
use Rattle.session_file.specs.declared.file_err.FileErr.TheVariants.{Bad, Large}
use Rattle.session_file.specs.declared.file_err.Which.TheVariants as which
use Rattle.zns_program.specs.declared.status.Status.{Status}
use Rattle.zns_program.specs.declared.status.Status.TheVariants as status
use Rattle.zns_program.specs.declared.task.Task.{Task}
use Rattle.zns_program.specs.declared.task.Task.TheVariants as the_task
use Rattle.zns_program.specs.Tasks.{AskFor, IsPlain}
use Rattle.zns_program.specs.Outputs.{IsOutputFor}
use Rattle.zns_program.specs.Inputs.{input_of, Reads, IsTaken, IsRefusal, IsFound}

-- The answer that an input calls for: Ok if the task takes it, the offset at which a result differs from that of its session, or else the
-- refusal.
abbrev pub CallsFor : Task → List ℕ → Status → Type 0
CallsFor t bytes status.Ok = IsTaken t bytes
CallsFor t bytes status.NoMemory = ⊥
CallsFor t bytes status.Usage = ⊥
CallsFor t bytes status.ReadFault = ⊥
CallsFor t bytes status.WriteFault = ⊥
CallsFor t bytes (status.BadFile reason offset) = IsRefusal t bytes (Bad reason offset)
CallsFor t bytes (status.TooLarge which number) = IsRefusal t bytes (Large which number)
CallsFor t bytes (status.Differs offset) = IsFound t bytes offset

-- the answer that the bytes that a task takes call for, if they are told
abbrev pub CallsForOf : Task → Option (List ℕ) → Status → Type 0
CallsForOf t None s = ⊤
CallsForOf t (Some bytes) s = CallsFor t bytes s

-- what the source and the sink tell at one moment: the bytes still to come, the bytes taken, and how many calls failed
pub record Streams : Type 0 where
  pub left : Option (List ℕ)
  pub taken : Option (List ℕ)
  pub source_faults : ℕ
  pub sink_faults : ℕ

abbrev pub moment : Option (List ℕ) → Option (List ℕ) → ℕ → ℕ → Streams
moment left taken source_faults sink_faults = record { left = left; taken = taken; source_faults = source_faults; sink_faults = sink_faults }

-- the task read what it takes, and all of what the words ask for was written
pub record Finishes (words : List (List ℕ)) (before now : Streams) : Type 0 where
  pub task : Task
  pub asked : AskFor words task
  pub input : List ℕ
  pub read : Reads task before.left now.left input
  pub output : List ℕ
  pub made : IsOutputFor task input output
  pub written : Gains before.taken now.taken output

-- the task read what it takes, a write failed, and only a front of what the words ask for was written
pub record StopsWriting (words : List (List ℕ)) (before now : Streams) : Type 0 where
  pub task : Task
  pub asked : AskFor words task
  pub input : List ℕ
  pub read : Reads task before.left now.left input
  pub output : List ℕ
  pub made : IsOutputFor task input output
  pub written : GainsPrefix before.taken now.taken output
  pub fault : Rose before.sink_faults now.sink_faults

-- the sink is as before, and at most a front was read of the source, at most one byte longer than the longest input
pub record WritesNothing (before now : Streams) : Type 0 where
  pub taken : now.taken ≡ before.taken
  pub calm : now.sink_faults ≡ before.sink_faults
  pub read : ReadsFrontUpTo before.left now.left (2 ^ 29 + 1)

-- the input called for the answer, and nothing was written
pub record Refuses (words : List (List ℕ)) (before now : Streams) (s : Status) : Type 0 where
  pub task : Task
  pub asked : AskFor words task
  pub cause : CallsForOf task (input_of task before.left) s
  pub nothing : WritesNothing before now

-- What a status says of a run, by its words and by the state of the source and the sink before and after it.
abbrev pub Means : List (List ℕ) → Streams → Streams → Status → Type 0
Means words before now status.Ok = Finishes words before now
Means words before now status.NoMemory = WritesNothing before now
Means words before now status.Usage = now ≡ before
Means words before now status.ReadFault = WritesNothing before now × Rose before.source_faults now.source_faults
Means words before now status.WriteFault = StopsWriting words before now
Means words before now (status.BadFile reason offset) = Refuses words before now (status.BadFile reason offset)
Means words before now (status.TooLarge which number) = Refuses words before now (status.TooLarge which number)
Means words before now (status.Differs offset) = Refuses words before now (status.Differs offset)

-- If no read and no write fails, the answer to a task is the one that its input calls for, unless memory runs out.
abbrev pub IsAnswered : Task → List (List ℕ) → Streams → Streams → Status → Type 0
IsAnswered t words before now result = (bytes : List ℕ) (answer : Status) → AskFor words t → input_of t before.left ≡ Some bytes → CallsFor t bytes answer
    → ¬ (Rose before.source_faults now.source_faults) → ¬ (Rose before.sink_faults now.sink_faults)
    → (result ≡ answer) ⊎ (result ≡ status.NoMemory)

-- every task is answered so
abbrev pub IsComplete : List (List ℕ) → Streams → Streams → Status → Type 0
IsComplete words before now result = (t : Task) → IsAnswered t words before now result

-- every task that needs no threads is answered so
abbrev pub IsPlainComplete : List (List ℕ) → Streams → Streams → Status → Type 0
IsPlainComplete words before now result = (t : Task) → IsPlain t → IsAnswered t words before now result

-- A session that would have too many commands isn't made, and that is reported before anything else.
abbrev pub GoesByCount : List (List ℕ) → Status → Type 0
GoesByCount words result = (number count : ℕ) → AskFor words (the_task.Gen number count) → (result ≡ status.TooLarge which.Commands count) ↔ (262144 < count)
