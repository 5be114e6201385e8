-- Which inputs are taken, and how the others are refused.
use Rattle.std.proofs.Common.{◌≡◌, ℕ, ◌+◌, ◌*◌, ◌^◌, ◌<◌, ◌≤◌, true, false, List, [], ◌∷◌, ◌++◌, length, take, drop, Some, None, refl, sym, ap, subst, ◌∙◌, arith}
use Rattle.std.proofs.lemmas.Bool.Decides.{nat_tests}
use Rattle.std.proofs.lemmas.List.{append_assoc, take-append-drop}
use Rattle.std.specs.Prelude.{nat_lt, Option, Err}
use Rattle.std.specs.List.{flat_map}
use Rattle.byteorder.specs.Endian.{little_bytes}
use Rattle.zns_types.specs.Rows.{Row, first_holding}
use Rattle.zns_types.proofs.RowLemmas.{first_holding-append_none}
use Rattle.zns_io.specs.declared.read_err.ReadErr.TheVariants as errors
use Rattle.zns_io.specs.Reading.{ReadsAll, ReadsFrontUpTo, IsByLimit}
use Rattle.zone_model.specs.Sessions.{Recorded, IsSession, IsOrder, spells, spelling, order_bytes, result_bytes, result_of}
use Rattle.session_file.specs.declared.file_err.Which.TheVariants as which
use Rattle.session_file.specs.declared.file_err.FileErr.{FileErr}
use Rattle.session_file.specs.declared.file_err.FileErr.TheVariants.{NoMemory, Bad, Large}
use Rattle.session_file.specs.FileRules.{front_rows, file_rows}
use Rattle.session_file.specs.Orders.{queues_from, result_rows}
use Rattle.session_file.specs.Places.{session_in, session_end}
use Rattle.session_file.specs.Faults.{IsFirstOf}
use Rattle.session_file.proofs.Firsts.{first_of-front, first_of-back}
use Rattle.session_file.proofs.Fronts.{BeginsWith, begins_with}
use Rattle.session_file.proofs.OrderFronts.{IsOrderOf, is_order_of}
use Rattle.session_file.proofs.Spelled.{spelled_unbroken}
use Rattle.host_script.specs.ScriptRules.{script_rows}
use Rattle.host_script.proofs.Fronts.{IsWhole, is_whole, script_passed}
use Rattle.host_script.proofs.TextSizes.{script_size}
use Rattle.zns_program.proofs.Sizes.{spelled_size}
use Rattle.zns_program.specs.declared.status.Status.TheVariants as status
use Rattle.zns_program.specs.declared.task.Task.{Task}
use Rattle.zns_program.specs.declared.task.Task.TheVariants as the_task
use Rattle.zns_program.specs.Tasks.{MakesSession, TakesSession}
use Rattle.zns_program.specs.Checking.{HasResult, bytes_after_order}
use Rattle.zns_program.specs.Inputs.{input_row, session_rows, checked_rows, host_rows, made_rows, SpellsScript, input_of, Reads, rules_for, IsRefusal}
use Rattle.zns_program.specs.Outcomes.{CallsForOf}
use Rattle.zns_program.specs.Making.{status_of, IsCause}

-- ---- the length of an input

-- an input that isn't too long can break only the other rules
pub short_input : (bytes : List ℕ) (rows : List (Row FileErr)) → length bytes ≤ 2 ^ 29 → first_holding (input_row bytes ∷ rows) ≡ first_holding rows
short_input bytes rows few =
    let fits : nat_lt (2 ^ 29) (length bytes) ≡ false = grind (arith, nat_tests) in
    rw fits refl

long_input : (bytes : List ℕ) (rows : List (Row FileErr)) → 2 ^ 29 < length bytes → first_holding (input_row bytes ∷ rows) ≡ Some (Large which.Input (2 ^ 29 + 1))
long_input bytes rows many =
    let long : nat_lt (2 ^ 29) (length bytes) ≡ true = grind (arith, nat_tests) in
    rw long refl

-- an input that is too long breaks the first rule
pub too_long : (t : Task) (left : Option (List ℕ)) → ¬ (MakesSession t) → IsByLimit left (2 ^ 29) (Err errors.Over) → CallsForOf t (input_of t left) (status.TooLarge which.Input (2 ^ 29 + 1))
too_long the_task.One None reading over = tt
too_long the_task.Run None reading over = tt
too_long the_task.One (Some told) reading over = long_input told (file_rows told) over
too_long the_task.Run (Some told) reading over = long_input told (file_rows told) over
too_long the_task.Check None reading over = tt
too_long the_task.Check (Some told) reading over = long_input told (front_rows told ++ result_rows told (session_end told) (session_in told).acts) over
too_long the_task.Show None reading over = tt
too_long the_task.Show (Some told) reading over = long_input told (file_rows told) over
too_long the_task.Host None reading over = tt
too_long the_task.Host (Some told) reading over = long_input told (script_rows told) over
too_long (the_task.Gen number count) left reading over = absurd (reading tt)

pub reads : (t : Task) (left now : Option (List ℕ)) (input : List ℕ) → ¬ (MakesSession t) → ReadsAll left now input → Reads t left now input
reads the_task.One left now input reading all = all
reads the_task.Run left now input reading all = all
reads the_task.Check left now input reading all = all
reads the_task.Show left now input reading all = all
reads the_task.Host left now input reading all = all
reads (the_task.Gen number count) left now input reading all = absurd (reading tt)

-- nothing was read of a source that is unchanged
pub none_read : (left : Option (List ℕ)) (most : ℕ) → ReadsFrontUpTo left left most
none_read None most = (0, omega arith, tt)
none_read (Some bytes) most = (0, omega arith, (omega arith, refl))

-- ---- sessions that are made

-- a session with few enough commands breaks no rule
pub made_unbroken : (count : ℕ) → count ≤ 262144 → first_holding (made_rows count) ≡ None
made_unbroken count few =
    let fits : nat_lt 262144 count ≡ false = grind (arith, nat_tests) in
    rw fits refl

-- a session with too many commands does
pub made_broken : (count : ℕ) → 262144 < count → first_holding (made_rows count) ≡ Some (Large which.Commands count)
made_broken count many =
    let more : nat_lt 262144 count ≡ true = grind (arith, nat_tests) in
    rw more refl

-- ---- sessions

-- the spelling of a session breaks no rule
pub unbroken : (s : Recorded) (bytes : List ℕ) → IsSession s → spells s bytes → first_holding (session_rows bytes) ≡ None
unbroken s bytes is e =
    let few : length bytes ≤ 2 ^ 29 = rw e (spelled_size s is) in
    short_input bytes (file_rows bytes) few ∙ spelled_unbroken s bytes is e

-- a task that takes a session reads it
pub takes-reads : (t : Task) → TakesSession t → ¬ (MakesSession t)
takes-reads the_task.One takes = λ none. none
takes-reads the_task.Run takes = λ none. none
takes-reads the_task.Check takes = absurd takes
takes-reads the_task.Show takes = λ none. none
takes-reads the_task.Host takes = absurd takes
takes-reads (the_task.Gen number count) takes = absurd takes

-- a task that takes a session goes by the rules of a session
takes-rules : (t : Task) (input : List ℕ) → TakesSession t → rules_for t input ≡ session_rows input
takes-rules the_task.One input takes = refl
takes-rules the_task.Run input takes = refl
takes-rules the_task.Check input takes = absurd takes
takes-rules the_task.Show input takes = refl
takes-rules the_task.Host input takes = absurd takes
takes-rules (the_task.Gen number count) input takes = absurd takes

session_refusal : (t : Task) (input : List ℕ) (e : FileErr) → TakesSession t → length input ≤ 2 ^ 29 → first_holding (file_rows input) ≡ Some e → IsRefusal t input e
session_refusal t input e takes few first = ap first_holding (takes-rules t input takes) ∙ (short_input input (file_rows input) few ∙ first)

-- the error in a session is that of the first broken rule
pub session_cause : (t : Task) (input : List ℕ) (e : FileErr) → TakesSession t → length input ≤ 2 ^ 29 → IsFirstOf (file_rows input) e → IsCause t input (status_of e)
session_cause t input NoMemory takes few first = tt
session_cause t input (Bad reason offset) takes few first = session_refusal t input (Bad reason offset) takes few first
session_cause t input (Large which number) takes few first = session_refusal t input (Large which number) takes few first

-- ---- scripts

-- the text of a script breaks no rule
pub script_unbroken : (bytes : List ℕ) → SpellsScript bytes → first_holding (host_rows bytes) ≡ None
script_unbroken bytes is =
    let few : length bytes ≤ 2 ^ 29 = rw is.spelled (script_size is.script is.valid) in
    let whole : IsWhole bytes is.script = is_whole bytes is.script is.valid is.spelled in
    short_input bytes (script_rows bytes) few ∙ script_passed bytes whole.header whole.host whole.rest

pub host_cause : (input : List ℕ) (e : FileErr) → length input ≤ 2 ^ 29 → IsFirstOf (script_rows input) e → IsCause the_task.Host input (status_of e)
host_cause input NoMemory few first = tt
host_cause input (Bad reason offset) few first = short_input input (script_rows input) few ∙ first
host_cause input (Large which number) few first = short_input input (script_rows input) few ∙ first

-- ---- results

-- the rules of a session followed by an order of its acts
abbrev rest_rows : List ℕ → List (Row FileErr)
rest_rows bytes = result_rows bytes (session_end bytes) (session_in bytes).acts

check_cause : (input : List ℕ) (e : FileErr) → length input ≤ 2 ^ 29 → IsFirstOf (front_rows input ++ rest_rows input) e → IsCause the_task.Check input (status_of e)
check_cause input NoMemory few first = tt
check_cause input (Bad reason offset) few first = short_input input (front_rows input ++ rest_rows input) few ∙ first
check_cause input (Large which number) few first = short_input input (front_rows input ++ rest_rows input) few ∙ first

-- the error in the session is that of the first broken rule
pub front_cause : (input : List ℕ) (e : FileErr) → length input ≤ 2 ^ 29 → IsFirstOf (front_rows input) e → IsCause the_task.Check input (status_of e)
front_cause input e few first = check_cause input e few (first_of-front (front_rows input) (rest_rows input) e first)

-- the input begins with a session, which ends there
pub record WasFront (input : List ℕ) (s : Recorded) (from : ℕ) : Type 0 where
  pub valid : IsSession s
  pub spelled : spells s (take from input)
  pub end : from ≡ session_end input
  pub passed : first_holding (front_rows input) ≡ None

pub front_spelled : (input : List ℕ) (s : Recorded) (from : ℕ) → WasFront input s from → input ≡ spelling s ++ drop from input
front_spelled input s from was = sym (take-append-drop from input) ∙ ap (λ (front : List ℕ). front ++ drop from input) was.spelled

-- the error in the order is that of the first broken rule
pub order_cause : (input : List ℕ) (s : Recorded) (from : ℕ) (e : FileErr) → length input ≤ 2 ^ 29 → WasFront input s from → IsFirstOf (result_rows input from s.acts) e → IsCause the_task.Check input (status_of e)
order_cause input s from e few was first =
    let begins : BeginsWith input s (drop from input) = begins_with input s (drop from input) was.valid (front_spelled input s from was) in
    let P : ℕ → Type 0 = λ at. IsFirstOf (result_rows input at s.acts) e in
    let Q : Recorded → Type 0 = λ of. IsFirstOf (result_rows input (session_end input) of.acts) e in
    let there : IsFirstOf (rest_rows input) e = subst Q (sym begins.session) (subst P was.end first) in
    check_cause input e few (first_of-back (front_rows input) (rest_rows input) e was.passed there)

length-flat_map_two : (queues : List ℕ) → length (flat_map (little_bytes 2) queues) ≡ 2 * length queues
length-flat_map_two [] = refl
length-flat_map_two (q ∷ queues) = let rest : length (flat_map (little_bytes 2) queues) ≡ 2 * length queues = length-flat_map_two queues in omega arith

pub length-order_bytes : (order : List ℕ) → length (order_bytes order) ≡ 12 + 2 * length order
length-order_bytes order = omega (arith, length-flat_map_two order)

-- the input has an order after the session
pub record WasOrder (input : List ℕ) (s : Recorded) (from : ℕ) (order : List ℕ) : Type 0 where
  pub front : WasFront input s from
  pub short : length input ≤ 2 ^ 29
  pub each_once : IsOrder s.acts order
  pub named : take (12 + 2 * length order) (drop from input) ≡ order_bytes order

pub result_read : (input : List ℕ) (s : Recorded) (from : ℕ) (order : List ℕ) → WasOrder input s from order → HasResult input s order (drop from input)
result_read input s from order was = record {
  valid = was.front.valid;
  spelled = front_spelled input s from was.front;
  each_once = was.each_once;
  after = drop (12 + 2 * length order) (drop from input);
  named = sym (take-append-drop (12 + 2 * length order) (drop from input)) ∙ ap (λ (front : List ℕ). front ++ drop (12 + 2 * length order) (drop from input)) was.named;
  short = was.short;
}

four_parts : (a b c d : List ℕ) → ((a ++ b) ++ c) ++ d ≡ a ++ (b ++ (c ++ d))
four_parts a b c d = simp append_assoc

-- the result of a session is its order, and what comes after that
pub result_of-parts : (s : Recorded) (order : List ℕ) → result_of s order ≡ order_bytes order ++ bytes_after_order s order
unfolding result_bytes
result_of-parts s order = four_parts (order_bytes order) _ _ _

-- ---- what an input with a result is

pub record IsRead (input : List ℕ) (s : Recorded) (order result : List ℕ) : Type 0 where
  pub passed : first_holding (checked_rows input) ≡ None
  pub session : session_in input ≡ s
  pub end : session_end input ≡ length (spelling s)
  pub rest : drop (session_end input) input ≡ result
  pub names : queues_from (length (session_in input).acts) (session_end input + 12) input ≡ order

pub is_read : (input : List ℕ) (s : Recorded) (order result : List ℕ) → HasResult input s order result → IsRead input s order result
is_read input s order result has =
    let begins : BeginsWith input s result = begins_with input s result has.valid has.spelled in
    let named : IsOrderOf input (session_end input) s.acts order = is_order_of input (session_end input) s order has.after has.valid has.each_once (begins.rest ∙ has.named) in
    record {
      passed = short_input input (front_rows input ++ rest_rows input) has.short ∙ first_holding-append_none (front_rows input) (rest_rows input) begins.passed ∙ ap (λ (of : Recorded). first_holding (result_rows input (session_end input) of.acts)) begins.session ∙ named.passed;
      session = begins.session;
      end = begins.end;
      rest = begins.rest;
      names = ap (λ (of : Recorded). queues_from (length of.acts) (session_end input + 12) input) begins.session ∙ named.same;
    }
