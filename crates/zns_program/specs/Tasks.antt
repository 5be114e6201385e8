-- What the program is asked to do, by its words.
use Rattle.std.specs.Prelude.{◌≡◌, ℕ, ◌<◌, ◌^◌, List, [], ◌∷◌, codes, Option, Some, None, if◌then◌else◌, ⊤}
use Rattle.std.specs.Fmt.{decimal}
use Rattle.std.specs.Str.{bytes_eq}
use Rattle.zns_program.specs.declared.task.Task.{Task}
use Rattle.zns_program.specs.declared.task.Task.TheVariants as the_task
use Rattle.text_lines.specs.Decimals.{number_in}

-- the words that ask for a task
abbrev pub words_for : Task → List (List ℕ)
words_for the_task.One = codes "one" ∷ []
words_for the_task.Run = codes "run" ∷ []
words_for the_task.Check = codes "check" ∷ []
words_for the_task.Show = codes "show" ∷ []
words_for the_task.Host = codes "host" ∷ []
words_for (the_task.Gen number count) = codes "gen" ∷ decimal number ∷ decimal count ∷ []

-- a task's numbers fit 64 bits
abbrev pub HasNumbers : Task → Type 0
HasNumbers the_task.One = ⊤
HasNumbers the_task.Run = ⊤
HasNumbers the_task.Check = ⊤
HasNumbers the_task.Show = ⊤
HasNumbers the_task.Host = ⊤
HasNumbers (the_task.Gen number count) = (number < 2 ^ 64) × (count < 2 ^ 64)

-- the words ask for the task
pub record AskFor (words : List (List ℕ)) (t : Task) : Type 0 where
  pub same : words ≡ words_for t
  pub numbers : HasNumbers t

-- a task makes its session and reads nothing
abbrev pub MakesSession : Task → Type 0
MakesSession the_task.One = ⊥
MakesSession the_task.Run = ⊥
MakesSession the_task.Check = ⊥
MakesSession the_task.Show = ⊥
MakesSession the_task.Host = ⊥
MakesSession (the_task.Gen number count) = ⊤

-- a task takes a session with nothing after it
abbrev pub TakesSession : Task → Type 0
TakesSession the_task.One = ⊤
TakesSession the_task.Run = ⊤
TakesSession the_task.Check = ⊥
TakesSession the_task.Show = ⊤
TakesSession the_task.Host = ⊥
TakesSession (the_task.Gen number count) = ⊥

-- the task needs no threads
abbrev pub IsPlain : Task → Type 0
IsPlain the_task.One = ⊤
IsPlain the_task.Run = ⊥
IsPlain the_task.Check = ⊤
IsPlain the_task.Show = ⊤
IsPlain the_task.Host = ⊤
IsPlain (the_task.Gen number count) = ⊤

-- the words ask for a session to be made
pub record AskToMake (words : List (List ℕ)) : Type 0 where
  pub task : Task
  pub asked : AskFor words task
  pub makes : MakesSession task

-- the task that one word names
abbrev pub task_of_word : List ℕ → Option Task
task_of_word word =
    if bytes_eq word (codes "one") then Some the_task.One
    else if bytes_eq word (codes "run") then Some the_task.Run
    else if bytes_eq word (codes "check") then Some the_task.Check
    else if bytes_eq word (codes "show") then Some the_task.Show
    else if bytes_eq word (codes "host") then Some the_task.Host
    else None

-- the task to make a session, if both numbers are there
abbrev pub gen_of : Option ℕ → Option ℕ → Option Task
gen_of (Some number) (Some count) = Some (the_task.Gen number count)
gen_of _ _ = None

-- the task that a word names together with two numbers
abbrev pub task_of_numbers : List ℕ → List ℕ → List ℕ → Option Task
task_of_numbers word number count = if bytes_eq word (codes "gen") then gen_of (number_in number) (number_in count) else None

-- the task that words name, if they name one
abbrev pub task_named : List (List ℕ) → Option Task
task_named (word ∷ []) = task_of_word word
task_named (word ∷ number ∷ count ∷ []) = task_of_numbers word number count
task_named _ = None

-- the task, unless it needs threads
abbrev pub if_plain : Option Task → Option Task
if_plain (Some the_task.Run) = None
if_plain t = t
