-- What the program writes for each task.
use Rattle.std.specs.Prelude.{◌≡◌, ℕ, ◌≤◌, List, [], ◌∷◌, codes}
use Rattle.zone_model.specs.Laws.{IsKept}
use Rattle.zone_model.specs.Sessions.{Recorded, IsSession, spells, merge, own_order}
use Rattle.host_script.specs.Spelling.{Scripted, IsScript, script_text}
use Rattle.host_script.specs.Scripts.{scripted}
use Rattle.zns_program.specs.declared.task.Task.{Task}
use Rattle.zns_program.specs.declared.task.Task.TheVariants as the_task
use Rattle.zns_program.specs.Sessions.{IsOwnResult}
use Rattle.zns_program.specs.Runs.{IsRun}
use Rattle.zns_program.specs.Showing.{shown}
use Rattle.zns_program.specs.Generating.{made}
use Rattle.zns_program.specs.Summaries.{summary}
use Rattle.zns_program.specs.Checking.{IsSame}
use Rattle.text_lines.specs.Texts.{line}

-- The input is a session, and the output is its result in the order of the file. In that order the limits hold, pointers move only as
-- allowed, and committed blocks stay.
pub record IsServed (input output : List ℕ) : Type 0 where
  pub session : Recorded
  pub valid : IsSession session
  pub spelled : spells session input
  pub result : IsOwnResult session output
  pub kept : IsKept session.geometry (merge session (own_order session.acts))

-- The input is a session, and the output is its result in the order in which its queues were served side by side.
pub record IsRan (input output : List ℕ) : Type 0 where
  pub session : Recorded
  pub valid : IsSession session
  pub spelled : spells session input
  pub ran : IsRun session output

-- the input is a session, and the output is the text that shows it
pub record IsShown (input output : List ℕ) : Type 0 where
  pub session : Recorded
  pub valid : IsSession session
  pub spelled : spells session input
  pub text : output ≡ shown session

-- the output if a result is that of its session
abbrev pub same_line : List ℕ
same_line = line (codes "same" ∷ [])

-- the input is a session and its result, and the output says so
pub record IsConfirmed (input output : List ℕ) : Type 0 where
  pub same : IsSame input
  pub text : output ≡ same_line

-- the input is a script, and the output has a line for each of its lines
pub record IsHosted (input output : List ℕ) : Type 0 where
  pub script : Scripted
  pub valid : IsScript script
  pub spelled : input ≡ script_text script
  pub text : output ≡ scripted script.geometry script.lines

-- the session that the number determines isn't too long, and the output is its summary
pub record IsGenerated (number count : ℕ) (output : List ℕ) : Type 0 where
  pub few : count ≤ 262144
  pub text : output ≡ summary (made number count)

-- the output of a task for an input
abbrev pub IsOutputFor : Task → List ℕ → List ℕ → Type 0
IsOutputFor the_task.One input output = IsServed input output
IsOutputFor the_task.Run input output = IsRan input output
IsOutputFor the_task.Check input output = IsConfirmed input output
IsOutputFor the_task.Show input output = IsShown input output
IsOutputFor the_task.Host input output = IsHosted input output
IsOutputFor (the_task.Gen number count) input output = IsGenerated number count output
