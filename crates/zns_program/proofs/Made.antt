-- What a run makes of an input that was read whole.
use Rattle.std.proofs.Common.{◌≡◌, ℕ, ◌+◌, ◌-◌, ◌^◌, ◌≤◌, List, [], ◌++◌, length, take, drop, Option, Some, None, Result, Ok, Err, IsErrAnd, refl, sym, ap, subst, ◌∙◌, arith}
use Rattle.std.proofs.lemmas.List.{append-nil, take-append-drop, length-append, length-take}
use Rattle.std.specs.Io.KnownBytes.{Consumes}
use Rattle.zns_io.specs.Faults.{Rose}
use Rattle.zns_io.specs.declared.read_err.ReadErr.{ReadErr}
use Rattle.zns_io.specs.declared.read_err.ReadErr.TheVariants as read_err
use Rattle.zns_io.specs.declared.bytes.Bytes.{Bytes}
use Rattle.zns_io.specs.Reading.{ReadsAll, ReadsFrontUpTo, IsByLimit}
use Rattle.zone_model.specs.Sessions.{Recorded, IsSession, spells, spelling}
use Rattle.session_file.specs.declared.file_err.FileErr.{FileErr}
use Rattle.session_file.specs.FileRules.{front_rows, file_rows}
use Rattle.session_file.specs.Faults.{IsFirstOf}
use Rattle.zns_program.specs.declared.status.Status.{Status}
use Rattle.zns_program.specs.declared.status.Status.TheVariants as status
use Rattle.zns_program.specs.declared.task.Task.{Task}
use Rattle.zns_program.specs.declared.task.Task.TheVariants as the_task
use Rattle.zns_program.specs.Tasks.{MakesSession, TakesSession}
use Rattle.zns_program.specs.Inputs.{input_of, Reads}
use Rattle.zns_program.specs.Outputs.{IsOutputFor}
use Rattle.zns_program.specs.Outcomes.{CallsFor, CallsForOf}
use Rattle.zns_program.specs.Making.{Makes, IsRefused, IsInput, EndsBefore, IsSessionRead, IsOutputOf, GivesSession, GivesOutput, status_of, status_of_reading}
use Rattle.zns_program.specs.Answers.{IsBegun}
use Rattle.zns_program.proofs.Inputs.{too_long, reads, none_read, takes-reads, session_cause, front_cause}
use Rattle.zns_program.proofs.Joined.{joined_all, all_front, front_then, joined_over}

-- the input that was read whole calls for the same answer as what the source told
all_told : (t : Task) (left now : Option (List ℕ)) (input : List ℕ) (s : Status) → ReadsAll left now input → CallsFor t input s → CallsForOf t left s
all_told t None now input s read calls = tt
all_told t (Some before) now input s read calls = let P : List ℕ → Type 0 = λ bytes. CallsFor t bytes s in subst P read.0 calls

told : (t : Task) (left now : Option (List ℕ)) (input : List ℕ) (s : Status) → Reads t left now input → CallsFor t input s → CallsForOf t (input_of t left) s
told the_task.One left now input s read calls = all_told the_task.One left now input s read calls
told the_task.Run left now input s read calls = all_told the_task.Run left now input s read calls
told the_task.Check left now input s read calls = all_told the_task.Check left now input s read calls
told the_task.Show left now input s read calls = all_told the_task.Show left now input s read calls
told the_task.Host left now input s read calls = all_told the_task.Host left now input s read calls
told (the_task.Gen number count) left now input s read calls = let P : List ℕ → Type 0 = λ bytes. CallsFor (the_task.Gen number count) bytes s in subst P read.1 calls

refused : (t : Task) (left now : Option (List ℕ)) (input : List ℕ) (s : Status) → Reads t left now input → ReadsFrontUpTo left now (2 ^ 29 + 1) → CallsFor t input s → IsRefused t left now s
refused t left now input s read front calls = record { cause = told t left now input s read calls; read = front }

pub gives_output : (t : Task) (left now : Option (List ℕ)) (faults faults_now : ℕ) (input : List ℕ) (result : Result Bytes Status) → Reads t left now input → ReadsFrontUpTo left now (2 ^ 29 + 1) → Makes t input result
    → GivesOutput t left now faults faults_now result
gives_output t left now faults faults_now input (Ok output) read front made = record { input = input; read = read; made = made }
gives_output t left now faults faults_now input (Err status.Ok) read front made = absurd made
gives_output t left now faults faults_now input (Err status.NoMemory) read front made = front
gives_output t left now faults faults_now input (Err status.Usage) read front made = absurd made
gives_output t left now faults faults_now input (Err status.ReadFault) read front made = absurd made
gives_output t left now faults faults_now input (Err status.WriteFault) read front made = absurd made
gives_output t left now faults faults_now input (Err (status.BadFile reason offset)) read front made = refused t left now input (status.BadFile reason offset) read front made
gives_output t left now faults faults_now input (Err (status.TooLarge which number)) read front made = refused t left now input (status.TooLarge which number) read front made
gives_output t left now faults faults_now input (Err (status.Differs offset)) read front made = refused t left now input (status.Differs offset) read front made

-- ---- sessions

-- the input that was read whole spells a session
pub read_session : (left now : Option (List ℕ)) (input : List ℕ) (s : Recorded) → IsSession s → spells s input → ReadsAll left now input → ReadsFrontUpTo left now (2 ^ 29 + 1) → IsSessionRead left now s
read_session left now input s valid spelled read front = record { valid = valid; read = subst (ReadsAll left now) spelled read; front = front }

-- the output of a task for a session that was read
pub session_output : (t : Task) (left now : Option (List ℕ)) (s : Recorded) (output : List ℕ) → TakesSession t → IsSessionRead left now s → IsOutputFor t (spelling s) output → IsOutputOf t left now output
session_output t left now s output takes is made = record { input = spelling s; read = reads t left now (spelling s) (takes-reads t takes) is.read; made = made }

-- the input isn't a session
pub no_session : (t : Task) (left now : Option (List ℕ)) (faults faults_now : ℕ) (input : List ℕ) (e : FileErr) → TakesSession t → IsInput t left now input → IsFirstOf (file_rows input) e → EndsBefore t left now faults faults_now (status_of e)
no_session t left now faults faults_now input e takes is first = gives_output t left now faults faults_now input (Err (status_of e)) is.read is.front (session_cause t input e takes is.short first)

-- reading gave no session, and the run ends with that error
pub session_ends : (t : Task) (left now : Option (List ℕ)) (faults faults_now : ℕ) (e : Status) (result : Result Bytes Status) → TakesSession t → GivesSession left now faults faults_now (Err e) → IsErrAnd result (λ s. s ≡ e) → GivesOutput t left now faults faults_now result
session_ends t left now faults faults_now e (Ok output) takes ends is = absurd is
session_ends t left now faults faults_now e (Err s) takes ends is = subst (λ x. EndsBefore t left now faults faults_now x) (sym is) (ends t takes)

-- ---- an input whose front came already

-- an error of reading the rest
pub reading_ends : (t : Task) (first left now : Option (List ℕ)) (front : List ℕ) (faults faults_now : ℕ) (e : ReadErr) → ¬ (MakesSession t) → Consumes first left front → length front ≤ 2 ^ 29 → IsByLimit left (2 ^ 29 - length front) (Err e)
    → ReadsFrontUpTo left now (2 ^ 29 - length front + 1) → (e ≡ read_err.Failed → Rose faults faults_now) → EndsBefore t first now faults faults_now (status_of_reading e)
reading_ends t first left now front faults faults_now read_err.NoMemory reading came few limit read fault = front_then first left now front _ (2 ^ 29 + 1) came read (omega (arith, few))
reading_ends t first left now front faults faults_now read_err.Failed reading came few limit read fault = (front_then first left now front _ (2 ^ 29 + 1) came read (omega (arith, few)), fault refl)
reading_ends t first left now front faults faults_now read_err.Over reading came few limit read fault = record {
  cause = too_long t first reading (joined_over first left front came few limit);
  read = front_then first left now front _ (2 ^ 29 + 1) came read (omega (arith, few));
}

-- the rest was read to its end
pub input_read : (t : Task) (first left now : Option (List ℕ)) (front rest : List ℕ) → ¬ (MakesSession t) → Consumes first left front → length front ≤ 2 ^ 29 → length rest ≤ 2 ^ 29 - length front → ReadsAll left now rest → IsInput t first now (front ++ rest)
input_read t first left now front rest reading came few limit read =
    let all : ReadsAll first now (front ++ rest) = joined_all first left now front rest came read in
    record {
      read = reads t first now (front ++ rest) reading all;
      short = omega (arith, length-append front rest, few, limit);
      front = all_front first now (front ++ rest) (2 ^ 29 + 1) all (omega (arith, length-append front rest, few, limit));
    }

-- the front is empty
pub none_came : (left : Option (List ℕ)) (front : List ℕ) → front ≡ [] → Consumes left left front
none_came None front none = tt
none_came (Some told) front none = rw none refl

-- reading gave no input, and the run ends with that error
pub input_ends : (t : Task) (left now : Option (List ℕ)) (faults faults_now : ℕ) (e : Status) (result : Result Bytes Status) → EndsBefore t left now faults faults_now e → IsErrAnd result (λ s. s ≡ e) → GivesOutput t left now faults faults_now result
input_ends t left now faults faults_now e (Ok output) ends is = absurd is
input_ends t left now faults faults_now e (Err s) ends is = subst (λ x. EndsBefore t left now faults faults_now x) (sym is) ends

-- ---- a session, and what comes after it

-- the input that was read whole begins with the session
front_came : (left now : Option (List ℕ)) (input : List ℕ) (s : Recorded) (at : ℕ) → spells s (take at input) → ReadsAll left now input → Consumes left now (spelling s ++ drop at input)
front_came None now input s at spelled read = tt
front_came (Some told) now input s at spelled read =
    let P : Option (List ℕ) → Type 0 = λ rest. Consumes (Some told) rest (spelling s ++ drop at input) in
    let whole : told ≡ (spelling s ++ drop at input) ++ [] = sym read.0 ∙ sym (take-append-drop at input) ∙ ap (λ (front : List ℕ). front ++ drop at input) spelled ∙ sym (append-nil (spelling s ++ drop at input)) in
    subst P (sym read.1) whole

pub front_begun : (left now : Option (List ℕ)) (input : List ℕ) (s : Recorded) (at : ℕ) → IsSession s → spells s (take at input) → at ≤ length input → ReadsAll left now input → IsBegun left now s (record { held = drop at input; at = at })
front_begun left now input s at valid spelled within read = record {
  valid = valid;
  long = omega (arith, ap length spelled, length-take at input, within);
  read = front_came left now input s at spelled read;
}

-- the input doesn't begin with a session
pub no_front : (left now : Option (List ℕ)) (faults faults_now : ℕ) (input : List ℕ) (e : FileErr) → IsInput the_task.Check left now input → IsFirstOf (front_rows input) e → EndsBefore the_task.Check left now faults faults_now (status_of e)
no_front left now faults faults_now input e is first = gives_output the_task.Check left now faults faults_now input (Err (status_of e)) is.read is.front (front_cause input e is.short first)

-- ---- a session that is made

pub made_output : (number count : ℕ) (left : Option (List ℕ)) (faults : ℕ) (result : Result Bytes Status) → Makes (the_task.Gen number count) [] result → GivesOutput (the_task.Gen number count) left left faults faults result
made_output number count left faults result made = gives_output (the_task.Gen number count) left left faults faults [] result (refl, refl) (none_read left (2 ^ 29 + 1)) made
