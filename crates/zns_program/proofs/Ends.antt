-- What each end of a run means.
use Rattle.std.proofs.Common.{◌≡◌, ℕ, List, Option, Some, None, refl, subst, inl, inr}
use Rattle.std.specs.Prelude.{◌⊎◌}
use Rattle.zns_io.specs.Faults.{Rose}
use Rattle.zns_io.specs.Reading.{ReadsAll}
use Rattle.zns_program.specs.declared.status.Status.{Status}
use Rattle.zns_program.specs.declared.status.Status.TheVariants as status
use Rattle.zns_program.specs.declared.task.Task.{Task}
use Rattle.zns_program.specs.declared.task.Task.TheVariants as the_task
use Rattle.zns_program.specs.Tasks.{AskFor}
use Rattle.zns_program.specs.Inputs.{input_of, Reads}
use Rattle.zns_program.specs.Outputs.{IsOutputFor}
use Rattle.zns_program.specs.Outcomes.{Streams, Refuses, Means, CallsFor, CallsForOf}
use Rattle.zns_program.specs.Making.{IsRefused, EndsBefore, IsOutputOf}
use Rattle.zns_program.proofs.Called.{one_answer}

-- a run that refused its input
refused : (words : List (List ℕ)) (t : Task) (before now : Streams) (s : Status) → AskFor words t → now.taken ≡ before.taken → now.sink_faults ≡ before.sink_faults → IsRefused t before.left now.left s → Refuses words before now s
refused words t before now s asked same calm r = record {
  task = t;
  asked = asked;
  cause = r.cause;
  nothing = record { taken = same; calm = calm; read = r.read };
}

-- a run without an output
pub ended : (words : List (List ℕ)) (t : Task) (before now : Streams) (s : Status) → AskFor words t → now.taken ≡ before.taken → now.sink_faults ≡ before.sink_faults
    → EndsBefore t before.left now.left before.source_faults now.source_faults s → Means words before now s
ended words t before now status.Ok asked same calm e = absurd e
ended words t before now status.NoMemory asked same calm e = record { taken = same; calm = calm; read = e }
ended words t before now status.Usage asked same calm e = absurd e
ended words t before now status.ReadFault asked same calm e = (record { taken = same; calm = calm; read = e.0 }, e.1)
ended words t before now status.WriteFault asked same calm e = absurd e
ended words t before now (status.BadFile reason offset) asked same calm e = refused words t before now (status.BadFile reason offset) asked same calm e
ended words t before now (status.TooLarge which number) asked same calm e = refused words t before now (status.TooLarge which number) asked same calm e
ended words t before now (status.Differs offset) asked same calm e = refused words t before now (status.Differs offset) asked same calm e

-- the status of a run that was asked for something is not Usage
pub not_usage : (t : Task) (before now : Streams) (s : Status) → EndsBefore t before.left now.left before.source_faults now.source_faults s → s ≡ status.Usage → ⊥
not_usage t before now status.Ok e is = e
not_usage t before now status.NoMemory e is = absurd cc
not_usage t before now status.Usage e is = e
not_usage t before now status.ReadFault e is = absurd cc
not_usage t before now status.WriteFault e is = absurd cc
not_usage t before now (status.BadFile reason offset) e is = absurd cc
not_usage t before now (status.TooLarge which number) e is = absurd cc
not_usage t before now (status.Differs offset) e is = absurd cc

-- the words ask for one task, so this is how its run ends
pub same_end : (task t : Task) (left now : Option (List ℕ)) (faults faults_now : ℕ) (s : Status) → Some task ≡ Some t → EndsBefore task left now faults faults_now s → EndsBefore t left now faults faults_now s
same_end task t left now faults faults_now s both ends =
    let same : task ≡ t = cc in
    let P : Task → Type 0 = λ of. EndsBefore of left now faults faults_now s in
    subst P same ends

pub same_output : (task t : Task) (left now : Option (List ℕ)) (output : List ℕ) → Some task ≡ Some t → IsOutputOf task left now output → IsOutputOf t left now output
same_output task t left now output both is =
    let same : task ≡ t = cc in
    let P : Task → Type 0 = λ of. IsOutputOf of left now output in
    subst P same is

-- a task takes every input that it makes an output for
taken : (t : Task) (input output : List ℕ) → IsOutputFor t input output → CallsFor t input status.Ok
taken the_task.One input output is = record { session = is.session; valid = is.valid; spelled = is.spelled }
taken the_task.Run input output is = record { session = is.session; valid = is.valid; spelled = is.spelled }
taken the_task.Check input output is = is.same
taken the_task.Show input output is = record { session = is.session; valid = is.valid; spelled = is.spelled }
taken the_task.Host input output is = record { script = is.script; valid = is.valid; spelled = is.spelled }
taken (the_task.Gen number count) input output is = is.few

-- the input that was read whole is what the source told
all_told : (t : Task) (left now : Option (List ℕ)) (input bytes : List ℕ) → left ≡ Some bytes → ReadsAll left now input → CallsFor t input status.Ok → CallsFor t bytes status.Ok
all_told t None now input bytes told read calls = absurd cc
all_told t (Some all) now input bytes told read calls =
    let same : input ≡ bytes = cc in
    let P : List ℕ → Type 0 = λ b. CallsFor t b status.Ok in
    subst P same calls

read_told : (t : Task) (left now : Option (List ℕ)) (input bytes : List ℕ) → input_of t left ≡ Some bytes → Reads t left now input → CallsFor t input status.Ok → CallsFor t bytes status.Ok
read_told the_task.One left now input bytes told read calls = all_told the_task.One left now input bytes told read calls
read_told the_task.Run left now input bytes told read calls = all_told the_task.Run left now input bytes told read calls
read_told the_task.Check left now input bytes told read calls = all_told the_task.Check left now input bytes told read calls
read_told the_task.Show left now input bytes told read calls = all_told the_task.Show left now input bytes told read calls
read_told the_task.Host left now input bytes told read calls = all_told the_task.Host left now input bytes told read calls
read_told (the_task.Gen number count) left now input bytes told read calls = calls

-- the input that was refused is what the source told
refusal_told : (t : Task) (left : Option (List ℕ)) (bytes : List ℕ) (s : Status) → left ≡ Some bytes → CallsForOf t left s → CallsFor t bytes s
refusal_told t None bytes s told calls = absurd cc
refusal_told t (Some all) bytes s told calls =
    let same : all ≡ bytes = cc in
    let P : List ℕ → Type 0 = λ b. CallsFor t b s in
    subst P same calls

-- if an output was made, the input called for Ok
pub output_called : (t : Task) (left now : Option (List ℕ)) (output bytes : List ℕ) (answer : Status) → IsOutputOf t left now output → input_of t left ≡ Some bytes → CallsFor t bytes answer → status.Ok ≡ answer
output_called t left now output bytes answer is told calls = one_answer t bytes status.Ok answer (read_told t left now is.input bytes told is.read (taken t is.input output is.made)) calls

-- if an input was refused, it called for that
refusal_called : (t : Task) (left now : Option (List ℕ)) (s : Status) (bytes : List ℕ) (answer : Status) → IsRefused t left now s → input_of t left ≡ Some bytes → CallsFor t bytes answer → s ≡ answer
refusal_called t left now s bytes answer is told calls = one_answer t bytes s answer (refusal_told t (input_of t left) bytes s told is.cause) calls

-- if no output was made and the source didn't fail, the input called for the answer, or memory ran out
pub end_called : (t : Task) (left now : Option (List ℕ)) (faults faults_now : ℕ) (s : Status) (bytes : List ℕ) (answer : Status) → EndsBefore t left now faults faults_now s → input_of t left ≡ Some bytes → CallsFor t bytes answer → ¬ (Rose faults faults_now)
    → (s ≡ answer) ⊎ (s ≡ status.NoMemory)
end_called t left now faults faults_now status.Ok bytes answer ends told calls calm = absurd ends
end_called t left now faults faults_now status.NoMemory bytes answer ends told calls calm = inr refl
end_called t left now faults faults_now status.Usage bytes answer ends told calls calm = absurd ends
end_called t left now faults faults_now status.ReadFault bytes answer ends told calls calm = absurd (calm ends.1)
end_called t left now faults faults_now status.WriteFault bytes answer ends told calls calm = absurd ends
end_called t left now faults faults_now (status.BadFile reason offset) bytes answer ends told calls calm = inl (refusal_called t left now (status.BadFile reason offset) bytes answer ends told calls)
end_called t left now faults faults_now (status.TooLarge which number) bytes answer ends told calls calm = inl (refusal_called t left now (status.TooLarge which number) bytes answer ends told calls)
end_called t left now faults faults_now (status.Differs offset) bytes answer ends told calls calm = inl (refusal_called t left now (status.Differs offset) bytes answer ends told calls)
