-- What the steps of a run make, before anything is written.
use Rattle.std.specs.Prelude.{◌≡◌, ℕ, ◌+◌, ◌<◌, ◌≤◌, ◌^◌, ◌↔◌, List, length, Option, Result, Ok, Err, ⊤}
use Rattle.zns_io.specs.declared.bytes.Bytes.{Bytes}
use Rattle.zns_io.specs.Faults.{Rose}
use Rattle.zns_io.specs.Told.{Gains}
use Rattle.zns_io.specs.Reading.{ReadsAll, ReadsFrontUpTo}
use Rattle.zns_io.specs.Writing.{GainsPrefix}
use Rattle.zone_model.specs.Sessions.{Recorded, IsSession, spelling}
use Rattle.session_file.specs.declared.file_err.FileErr.{FileErr}
use Rattle.session_file.specs.declared.file_err.FileErr.TheVariants.{NoMemory, Bad, Large}
use Rattle.session_file.specs.declared.file_err.Which.TheVariants as which
use Rattle.zns_io.specs.declared.read_err.ReadErr.{ReadErr}
use Rattle.zns_io.specs.declared.read_err.ReadErr.TheVariants as read_err
use Rattle.zns_program.specs.declared.compare_err.CompareErr.{CompareErr}
use Rattle.zns_program.specs.declared.compare_err.CompareErr.TheVariants as compare_err
use Rattle.zns_program.specs.declared.status.Status.{Status}
use Rattle.zns_program.specs.declared.status.Status.TheVariants as status
use Rattle.zns_program.specs.declared.task.Task.{Task}
use Rattle.zns_program.specs.declared.task.Task.TheVariants as the_task
use Rattle.zns_program.specs.Tasks.{TakesSession}
use Rattle.zns_program.specs.Inputs.{input_of, Reads}
use Rattle.zns_program.specs.Outputs.{IsOutputFor}
use Rattle.zns_program.specs.Outcomes.{CallsFor, CallsForOf}

-- the status for an error in an input
abbrev pub status_of : FileErr → Status
status_of NoMemory = status.NoMemory
status_of (Bad reason offset) = status.BadFile reason offset
status_of (Large which number) = status.TooLarge which number

-- the status for an error of reading
abbrev pub status_of_reading : ReadErr → Status
status_of_reading read_err.NoMemory = status.NoMemory
status_of_reading read_err.Failed = status.ReadFault
status_of_reading read_err.Over = status.TooLarge which.Input (2 ^ 29 + 1)

-- the status for an error of a comparison
abbrev pub status_of_comparison : CompareErr → Status
status_of_comparison compare_err.NoMemory = status.NoMemory
status_of_comparison compare_err.Failed = status.ReadFault
status_of_comparison compare_err.Over = status.TooLarge which.Input (2 ^ 29 + 1)
status_of_comparison (compare_err.Differs offset) = status.Differs offset

-- the error of a comparison for an error of reading
abbrev pub compare_err_of : ReadErr → CompareErr
compare_err_of read_err.NoMemory = compare_err.NoMemory
compare_err_of read_err.Failed = compare_err.Failed
compare_err_of read_err.Over = compare_err.Over

-- why no output is made for an input: the input calls for the answer, or memory ran out
abbrev pub IsCause : Task → List ℕ → Status → Type 0
IsCause t input status.Ok = ⊥
IsCause t input status.NoMemory = ⊤
IsCause t input status.Usage = ⊥
IsCause t input status.ReadFault = ⊥
IsCause t input status.WriteFault = ⊥
IsCause t input (status.BadFile reason offset) = CallsFor t input (status.BadFile reason offset)
IsCause t input (status.TooLarge which number) = CallsFor t input (status.TooLarge which number)
IsCause t input (status.Differs offset) = CallsFor t input (status.Differs offset)

-- what a task makes of an input: the output, or the status of a run without one
abbrev pub Makes : Task → List ℕ → Result Bytes Status → Type 0
Makes t input (Ok output) = IsOutputFor t input output
Makes t input (Err s) = IsCause t input s

-- a session is refused for its number of commands exactly if it would have too many
abbrev pub MakesByCount : Task → Result Bytes Status → Type 0
MakesByCount the_task.One result = ⊤
MakesByCount the_task.Run result = ⊤
MakesByCount the_task.Check result = ⊤
MakesByCount the_task.Show result = ⊤
MakesByCount the_task.Host result = ⊤
MakesByCount (the_task.Gen number count) result = (result ≡ Err (status.TooLarge which.Commands count)) ↔ (262144 < count)

-- ---- what a source gives

-- a task read what it takes, which is no longer than an input may be
pub record IsInput (t : Task) (left now : Option (List ℕ)) (input : List ℕ) : Type 0 where
  pub read : Reads t left now input
  pub short : length input ≤ 2 ^ 29
  pub front : ReadsFrontUpTo left now (2 ^ 29 + 1)

-- the input called for the answer
pub record IsRefused (t : Task) (left now : Option (List ℕ)) (s : Status) : Type 0 where
  pub cause : CallsForOf t (input_of t left) s
  pub read : ReadsFrontUpTo left now (2 ^ 29 + 1)

-- how a run without an output ends
abbrev pub EndsBefore : Task → Option (List ℕ) → Option (List ℕ) → ℕ → ℕ → Status → Type 0
EndsBefore t left now faults faults_now status.Ok = ⊥
EndsBefore t left now faults faults_now status.NoMemory = ReadsFrontUpTo left now (2 ^ 29 + 1)
EndsBefore t left now faults faults_now status.Usage = ⊥
EndsBefore t left now faults faults_now status.ReadFault = ReadsFrontUpTo left now (2 ^ 29 + 1) × Rose faults faults_now
EndsBefore t left now faults faults_now status.WriteFault = ⊥
EndsBefore t left now faults faults_now (status.BadFile reason offset) = IsRefused t left now (status.BadFile reason offset)
EndsBefore t left now faults faults_now (status.TooLarge which number) = IsRefused t left now (status.TooLarge which number)
EndsBefore t left now faults faults_now (status.Differs offset) = IsRefused t left now (status.Differs offset)

-- the input of a task, or how the run ends without it
abbrev pub GivesInput : Task → Option (List ℕ) → Option (List ℕ) → ℕ → ℕ → Result Bytes Status → Type 0
GivesInput t left now faults faults_now (Ok input) = IsInput t left now input
GivesInput t left now faults faults_now (Err s) = EndsBefore t left now faults faults_now s

-- The source was read to its end and spelled a session, which is no longer than an input may be.
pub record IsSessionRead (left now : Option (List ℕ)) (s : Recorded) : Type 0 where
  pub valid : IsSession s
  pub read : ReadsAll left now (spelling s)
  pub front : ReadsFrontUpTo left now (2 ^ 29 + 1)

-- the session that a source gives, or how the run of any task that takes a session ends without it
abbrev pub GivesSession : Option (List ℕ) → Option (List ℕ) → ℕ → ℕ → Result Recorded Status → Type 0
GivesSession left now faults faults_now (Ok session) = IsSessionRead left now session
GivesSession left now faults faults_now (Err s) = (t : Task) → TakesSession t → EndsBefore t left now faults faults_now s

-- the task read what it takes, and this is what it makes of it
pub record IsOutputOf (t : Task) (left now : Option (List ℕ)) (output : List ℕ) : Type 0 where
  pub input : List ℕ
  pub read : Reads t left now input
  pub made : IsOutputFor t input output

-- the output for what a source gives, or how the run ends without it
abbrev pub GivesOutput : Task → Option (List ℕ) → Option (List ℕ) → ℕ → ℕ → Result Bytes Status → Type 0
GivesOutput t left now faults faults_now (Ok output) = IsOutputOf t left now output
GivesOutput t left now faults faults_now (Err s) = EndsBefore t left now faults faults_now s

-- How a run ends. With an output, it was written or a write failed. Without one, nothing was written.
abbrev pub EndsBy : Result Bytes Status → Option (List ℕ) → Option (List ℕ) → ℕ → ℕ → Status → Type 0
EndsBy (Ok output) taken now faults faults_now status.Ok = Gains taken now output
EndsBy (Ok output) taken now faults faults_now status.NoMemory = ⊥
EndsBy (Ok output) taken now faults faults_now status.Usage = ⊥
EndsBy (Ok output) taken now faults faults_now status.ReadFault = ⊥
EndsBy (Ok output) taken now faults faults_now status.WriteFault = GainsPrefix taken now output × Rose faults faults_now
EndsBy (Ok output) taken now faults faults_now (status.BadFile reason offset) = ⊥
EndsBy (Ok output) taken now faults faults_now (status.TooLarge which number) = ⊥
EndsBy (Ok output) taken now faults faults_now (status.Differs offset) = ⊥
EndsBy (Err s) taken now faults faults_now ended = (ended ≡ s) × (now ≡ taken) × (faults_now ≡ faults)
