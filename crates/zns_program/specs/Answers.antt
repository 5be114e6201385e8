-- What a check finds in an input whose session was taken, while the rest still comes from a source.
use Rattle.std.specs.Prelude.{◌≡◌, ℕ, ◌^◌, ◌≤◌, List, [], ◌++◌, length, take, Option}
use Rattle.std.specs.Io.KnownBytes.{Consumes, IsAtEnd}
use Rattle.zns_io.specs.Faults.{Rose}
use Rattle.zone_model.specs.Sessions.{Recorded, IsSession, IsOrder, spells, spelling, result_of}
use Rattle.zns_program.specs.declared.status.Status.{Status}
use Rattle.zns_program.specs.declared.status.Status.TheVariants as status
use Rattle.zns_program.specs.declared.task.Task.TheVariants as the_task
use Rattle.zns_program.specs.Outcomes.{CallsFor}
use Rattle.zns_program.specs.Tails.{TailBytes, IsIn, ComeNext}

-- a session was taken from a source, and the rest is still to come
pub record IsBegun (left now : Option (List ℕ)) (s : Recorded) (t : TailBytes) : Type 0 where
  pub valid : IsSession s
  pub long : t.at ≡ length (spelling s)
  pub read : Consumes left now (spelling s ++ t.held)

-- the rest was read to its end, and is what the session gives in an order of its acts
pub record IsConfirmedBy (left now : Option (List ℕ)) (old new : TailBytes) (s : Recorded) : Type 0 where
  pub order : List ℕ
  pub each_once : IsOrder s.acts order
  pub result : ComeNext left old new (result_of s order)
  pub all : new.held ≡ []
  pub end : IsAtEnd now
  pub short : new.at ≤ 2 ^ 29

-- an input that begins with the session calls for the answer, unless it is too long
abbrev pub CallsFrom : Option (List ℕ) → TailBytes → Recorded → Status → Type 0
CallsFrom left old s answer = (input : List ℕ) → IsIn input left old → spells s (take old.at input) → length input ≤ 2 ^ 29 → CallsFor the_task.Check input answer

-- What a status that ends a check says. A refusal or a difference satisfies `Calls`.
abbrev pub Answers : ℕ → ℕ → (Status → Type 0) → Status → Type 0
Answers faults faults_now Calls status.Ok = ⊥
Answers faults faults_now Calls status.NoMemory = Unit {0}
Answers faults faults_now Calls status.Usage = ⊥
Answers faults faults_now Calls status.ReadFault = Rose faults faults_now
Answers faults faults_now Calls status.WriteFault = ⊥
Answers faults faults_now Calls (status.BadFile reason offset) = Calls (status.BadFile reason offset)
Answers faults faults_now Calls (status.TooLarge which number) = Calls (status.TooLarge which number)
Answers faults faults_now Calls (status.Differs offset) = Calls (status.Differs offset)
