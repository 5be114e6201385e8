-- A session that would have too many commands is reported as such before anything else.
use Rattle.std.proofs.Common.{◌≡◌, ℕ, List, Some, None, Result, Ok, Err, refl, ap, subst}
use Rattle.zns_io.specs.declared.bytes.Bytes.{Bytes}
use Rattle.session_file.specs.declared.file_err.Which.TheVariants as which
use Rattle.zns_program.specs.declared.status.Status.{Status}
use Rattle.zns_program.specs.declared.status.Status.TheVariants as status
use Rattle.zns_program.specs.declared.task.Task.{Task}
use Rattle.zns_program.specs.declared.task.Task.TheVariants as the_task
use Rattle.zns_program.specs.Tasks.{AskFor, MakesSession}
use Rattle.zns_program.specs.Outcomes.{GoesByCount}
use Rattle.zns_program.specs.Making.{MakesByCount}

-- nothing is claimed of a task that reads
pub reading_makes : (t : Task) (r : Result Bytes Status) → ¬ (MakesSession t) → MakesByCount t r
reading_makes the_task.One r reading = tt
reading_makes the_task.Run r reading = tt
reading_makes the_task.Check r reading = tt
reading_makes the_task.Show r reading = tt
reading_makes the_task.Host r reading = tt
reading_makes (the_task.Gen number count) r reading = absurd (reading tt)

-- if the words ask for a session to be made, this is the task
abbrev pub AskForOne : List (List ℕ) → Task → Type 0
AskForOne words task = (number count : ℕ) → AskFor words (the_task.Gen number count) → Some task ≡ Some (the_task.Gen number count)

made_for : (task t : Task) (r : Result Bytes Status) → Some task ≡ Some t → MakesByCount task r → MakesByCount t r
made_for task t r both makes =
    let same : task ≡ t = cc in
    let P : Task → Type 0 = λ of. MakesByCount of r in
    subst P same makes

-- the result of a run without an output
abbrev end : Status → Result Bytes Status
end s = Err s

status_of_end : (s t : Status) → end s ≡ end t → s ≡ t
status_of_end s t is = cc

no_end : (output : Bytes) (t : Status) (r : Result Bytes Status) → r ≡ Ok output → r ≡ end t → ⊥
no_end output t r made ended = absurd cc

-- a run without an output
pub ended_by_count : (words : List (List ℕ)) (task : Task) (s : Status) → AskForOne words task → MakesByCount task (Err s) → GoesByCount words s
ended_by_count words task s one makes = λ number count asked.
    let made = made_for task (the_task.Gen number count) (Err s) (one number count asked) makes in
    (λ told. made.0 (ap end told), λ many. status_of_end s (status.TooLarge which.Commands count) (made.1 many))

-- a run with an output, which doesn't end for its number of commands
pub made_by_count : (words : List (List ℕ)) (task : Task) (output : Bytes) (s : Status) → AskForOne words task → MakesByCount task (Ok output) → ((count : ℕ) → s ≡ status.TooLarge which.Commands count → ⊥) → GoesByCount words s
made_by_count words task output s one makes other = λ number count asked.
    let made = made_for task (the_task.Gen number count) (Ok output) (one number count asked) makes in
    (λ told. absurd (other count told), λ many. absurd (no_end output (status.TooLarge which.Commands count) (Ok output) refl (made.1 many)))

-- a run without a task
pub none_by_count : (words : List (List ℕ)) (s : Status) → ((t : Task) → AskFor words t → None ≡ Some t) → GoesByCount words s
none_by_count words s none = λ number count asked. let named : None ≡ Some (the_task.Gen number count) = none (the_task.Gen number count) asked in absurd cc
