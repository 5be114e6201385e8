-- What a check finds in an input, and how it ends.
use Rattle.std.proofs.Common.{◌≡◌, ℕ, ◌+◌, ◌*◌, ◌^◌, ◌<◌, ◌≤◌, List, [], ◌++◌, length, take, drop, Option, Some, None, Err, refl, sym, ap, subst, ◌∙◌, arith}
use Rattle.std.proofs.lemmas.List.{append_assoc, append-nil, take-append-drop, take_at, drop_all, length-append, length-take}
use Rattle.std.specs.Io.KnownBytes.{IsAtEnd}
use Rattle.zns_io.specs.Faults.{Rose}
use Rattle.zns_io.specs.Reading.{ReadsAll, ReadsFrontUpTo, IsByLimit}
use Rattle.zns_io.specs.declared.read_err.ReadErr.{ReadErr}
use Rattle.zns_io.specs.declared.read_err.ReadErr.TheVariants as read_err
use Rattle.zns_io.proofs.ReadLemmas.{ReadsFront-consumed}
use Rattle.zone_model.specs.Sessions.{Recorded, IsSession, IsOrder, spells, spelling, order_bytes, result_of}
use Rattle.session_file.specs.declared.file_err.FileErr.{FileErr}
use Rattle.session_file.specs.declared.file_err.FileErr.TheVariants.{NoMemory, Bad, Large}
use Rattle.session_file.specs.declared.file_err.Which.TheVariants as which
use Rattle.session_file.specs.Faults.{IsFirstOf}
use Rattle.session_file.specs.Orders.{result_rows, IsFirstAfter}
use Rattle.session_file.proofs.Fronts.{BeginsWith, begins_with}
use Rattle.zns_program.specs.declared.compare_err.CompareErr.{CompareErr}
use Rattle.zns_program.specs.declared.compare_err.CompareErr.TheVariants as compare_err
use Rattle.zns_program.specs.declared.status.Status.{Status}
use Rattle.zns_program.specs.declared.status.Status.TheVariants as status
use Rattle.zns_program.specs.declared.task.Task.TheVariants as the_task
use Rattle.zns_program.specs.Differences.{StandAt}
use Rattle.zns_program.specs.Tails.{TailBytes, IsIn, StaysIn, IsOver, ComeNext, ComeOtherwise, StopsBy}
use Rattle.zns_program.specs.Checking.{IsSame, bytes_after_order}
use Rattle.zns_program.specs.Outputs.{same_line}
use Rattle.zns_program.specs.Outcomes.{CallsForOf}
use Rattle.zns_program.specs.Making.{status_of, status_of_reading, status_of_comparison, EndsBefore, IsOutputOf}
use Rattle.zns_program.specs.Answers.{IsBegun, IsConfirmedBy, CallsFrom, Answers}
use Rattle.zns_program.proofs.Tails.{HasLeft, has_left, rose_from, held_next}
use Rattle.zns_program.proofs.Inputs.{WasFront, WasOrder, order_cause, result_of-parts, length-order_bytes, too_long}
use Rattle.zns_program.proofs.Checked.{is_unlike}

-- ---- what was taken of an input

-- a session was taken
was_front : (input : List ℕ) (s : Recorded) (left : Option (List ℕ)) (t : TailBytes) → IsSession s → IsIn input left t → spells s (take t.at input) → WasFront input s t.at
was_front input s left t valid is begins =
    let rest : HasLeft input left t = has_left input left t is in
    let size : t.at ≡ length (spelling s) = omega (arith, ap length begins, length-take t.at input, rest.long) in
    let whole : input ≡ spelling s ++ drop t.at input = sym (take-append-drop t.at input) ∙ ap (λ (front : List ℕ). front ++ drop t.at input) begins in
    let b : BeginsWith input s (drop t.at input) = begins_with input s (drop t.at input) valid whole in
    record { valid = valid; spelled = begins; end = size ∙ sym b.end; passed = b.passed }

-- an order was taken after it
was_order : (input : List ℕ) (s : Recorded) (left : Option (List ℕ)) (old between : TailBytes) (order : List ℕ) → IsSession s → IsIn input left old → spells s (take old.at input) → length input ≤ 2 ^ 29 → IsOrder s.acts order → ComeNext left old between (order_bytes order)
    → WasOrder input s old.at order
was_order input s left old between order valid is begins short each_once next =
    let stand : StandAt input old.at (order_bytes order) between.at = next.stand input is in
    record {
      front = was_front input s left old valid is begins;
      short = short;
      each_once = each_once;
      named = ap (take (12 + 2 * length order)) stand.there ∙ take_at (order_bytes order) (drop between.at input) (12 + 2 * length order) (length-order_bytes order);
    }

-- an order that bytes begin with is no longer than they are
pub order_fits : (order held : List ℕ) (len : ℕ) → take (12 + 2 * length order) held ≡ order_bytes order → len ≡ 12 + 2 * length order → len ≤ length held
order_fits order held len named is = omega (arith, ap length named, length-take (12 + 2 * length order) held, length-order_bytes order, is)

-- the held bytes begin with an order, which is taken
pub order_next : (left mid : Option (List ℕ)) (old filled new : TailBytes) (order : List ℕ) (len : ℕ) → StaysIn left mid old filled → filled.at ≡ old.at → take (12 + 2 * length order) filled.held ≡ order_bytes order → len ≡ 12 + 2 * length order → new.held ≡ drop len filled.held → new.at ≡ filled.at + len
    → ComeNext left old new (order_bytes order)
order_next left mid old filled new order len stays same named is held at =
    let there : filled.held ≡ order_bytes order ++ drop len filled.held =
    sym (take-append-drop len filled.held) ∙ ap (λ (front : List ℕ). front ++ drop len filled.held) (ap (λ (n : ℕ). take n filled.held) is ∙ named) in
    let stand : StandAt filled.held 0 (order_bytes order) len = record {
      there = there;
      end = omega (arith, is, length-order_bytes order);
      within = order_fits order filled.held len named is;
    } in
    held_next left mid old filled new (order_bytes order) len stays same stand held at

-- ---- errors

-- an input that is too long calls for no other answer
over_calls : (left now : Option (List ℕ)) (old new : TailBytes) (s : Recorded) (answer : Status) → StaysIn left now old new → IsOver new → CallsFrom left old s answer
over_calls left now old new s answer stays over = λ input is begins short.
    absurd (omega (arith, short, over, (has_left input now new (stays input is)).long))

-- an error of reading
pub answers_reading : (left now : Option (List ℕ)) (old new : TailBytes) (s : Recorded) (faults faults_now : ℕ) (e : ReadErr) → StaysIn left now old new → (e ≡ read_err.Over → IsOver new) → (e ≡ read_err.Failed → Rose faults faults_now)
    → Answers faults faults_now (CallsFrom left old s) (status_of_reading e)
answers_reading left now old new s faults faults_now read_err.NoMemory stays over fault = tt
answers_reading left now old new s faults faults_now read_err.Failed stays over fault = fault refl
answers_reading left now old new s faults faults_now read_err.Over stays over fault = over_calls left now old new s (status.TooLarge which.Input (2 ^ 29 + 1)) stays (over refl)

-- the held bytes don't begin with an order
order_broken : (input : List ℕ) (s : Recorded) (left mid : Option (List ℕ)) (old filled : TailBytes) (e : FileErr) → StaysIn left mid old filled → filled.at ≡ old.at → (length filled.held < 12 + 2 * length s.acts → IsAtEnd mid) → IsFirstAfter filled.at filled.held s.acts e → IsIn input left old
    → IsFirstOf (result_rows input old.at s.acts) e
order_broken input s left mid old filled e stays same ends first is =
    let rest : HasLeft input mid filled = has_left input mid filled (stays input is) in
    let front : List ℕ = take filled.at input in
    let size : length front ≡ filled.at = omega (arith, length-take filled.at input, rest.long) in
    let whole : front ++ (filled.held ++ rest.more) ≡ input = ap (λ (b : List ℕ). front ++ b) (sym rest.whole) ∙ take-append-drop filled.at input in
    let P : List ℕ → Type 0 = λ bytes. IsFirstOf (result_rows bytes filled.at s.acts) e in
    let Q : ℕ → Type 0 = λ at. IsFirstOf (result_rows input at s.acts) e in
    subst Q same (subst P whole (first front rest.more size (λ few. rest.all (ends few))))

pub answers_order : (left mid : Option (List ℕ)) (old filled : TailBytes) (s : Recorded) (faults faults_now : ℕ) (e : FileErr) → IsSession s → StaysIn left mid old filled → filled.at ≡ old.at → (length filled.held < 12 + 2 * length s.acts → IsAtEnd mid)
    → IsFirstAfter filled.at filled.held s.acts e → Answers faults faults_now (CallsFrom left old s) (status_of e)
answers_order left mid old filled s faults faults_now NoMemory valid stays same ends first = tt
answers_order left mid old filled s faults faults_now (Bad reason offset) valid stays same ends first = λ input is begins short.
    order_cause input s old.at (Bad reason offset) short (was_front input s left old valid is begins) (order_broken input s left mid old filled (Bad reason offset) stays same ends first is)
answers_order left mid old filled s faults faults_now (Large which number) valid stays same ends first = λ input is begins short.
    order_cause input s old.at (Large which number) short (was_front input s left old valid is begins) (order_broken input s left mid old filled (Large which number) stays same ends first is)

-- an error of a comparison
pub answers_comparison : (left mid now : Option (List ℕ)) (old between new : TailBytes) (s : Recorded) (order : List ℕ) (first faults faults_now : ℕ) (e : CompareErr) → IsSession s → IsOrder s.acts order → StaysIn left mid old between → StaysIn mid now between new
    → ComeNext left old between (order_bytes order) → first ≤ faults → StopsBy faults faults_now new (ComeOtherwise mid between (bytes_after_order s order)) e → Answers first faults_now (CallsFrom left old s) (status_of_comparison e)
answers_comparison left mid now old between new s order first faults faults_now compare_err.NoMemory valid each_once one two next few stops = tt
answers_comparison left mid now old between new s order first faults faults_now compare_err.Failed valid each_once one two next few stops = rose_from first faults faults_now few stops
answers_comparison left mid now old between new s order first faults faults_now compare_err.Over valid each_once one two next few stops = over_calls left now old new s (status.TooLarge which.Input (2 ^ 29 + 1)) (λ input is. two input (one input is)) stops
answers_comparison left mid now old between new s order first faults faults_now (compare_err.Differs offset) valid each_once one two next few stops = λ input is begins short.
    is_unlike input s old.at between.at order offset (was_order input s left old between order valid is begins short each_once next) (next.at ∙ ap (λ (n : ℕ). old.at + n) (length-order_bytes order)) (stops input (one input is))

-- ---- how a check ends

-- an input that a source told, whose session was taken
begun_in : (input : List ℕ) (now : Option (List ℕ)) (s : Recorded) (t : TailBytes) → IsBegun (Some input) now s t → IsIn input now t
begun_in input now s t begun = record { front = spelling s; long = sym begun.long; came = begun.read }

begun_spelled : (input : List ℕ) (now : Option (List ℕ)) (s : Recorded) (t : TailBytes) → IsBegun (Some input) now s t → spells s (take t.at input)
begun_spelled input None s t begun = absurd begun.read
begun_spelled input (Some more) s t begun =
    ap (take t.at) (begun.read ∙ append_assoc (spelling s) t.held more) ∙ take_at (spelling s) (t.held ++ more) t.at (sym begun.long)

-- at most one byte more than the longest input was read
pub begun_front : (left mid now : Option (List ℕ)) (s : Recorded) (old new : TailBytes) → IsBegun left mid s old → StaysIn mid now old new → new.at + length new.held ≤ 2 ^ 29 + 1 → ReadsFrontUpTo left now (2 ^ 29 + 1)
begun_front None mid now s old new begun stays few = (0, omega arith, tt)
begun_front (Some input) mid now s old new begun stays few =
    let is : IsIn input now new = stays input (begun_in input mid s old begun) in
    (length (is.front ++ new.held), omega (arith, few, is.long, length-append is.front new.held), ReadsFront-consumed (Some input) now (is.front ++ new.held) (length (is.front ++ new.held)) is.came refl)

-- the rest was read to its end, and the input isn't too long
pub record WasDrained (now : Option (List ℕ)) (t : TailBytes) : Type 0 where
  pub all : t.held ≡ []
  pub end : IsAtEnd now
  pub short : t.at ≤ 2 ^ 29

drained_long : (input : List ℕ) (now : Option (List ℕ)) (t : TailBytes) → WasDrained now t → IsIn input now t → length input ≡ t.at
drained_long input now t drained is =
    let rest : HasLeft input now t = has_left input now t is in
    omega (arith, rest.long, ap length drained.all, ap length (rest.all drained.end))

called : (left mid now : Option (List ℕ)) (s : Recorded) (old new : TailBytes) (answer : Status) → IsBegun left mid s old → StaysIn mid now old new → WasDrained now new → CallsFrom mid old s answer → CallsForOf the_task.Check left answer
called None mid now s old new answer begun stays drained calls = tt
called (Some input) mid now s old new answer begun stays drained calls =
    let is : IsIn input mid old = begun_in input mid s old begun in
    calls input is (begun_spelled input mid s old begun) (omega (arith, drained.short, drained_long input now new drained (stays input is)))

pub ends_with : (left mid now : Option (List ℕ)) (s : Recorded) (old new : TailBytes) (first faults then_faults faults_now : ℕ) (answer : Status) → IsBegun left mid s old → StaysIn mid now old new → WasDrained now new → first ≤ faults → then_faults ≤ faults_now
    → Answers faults then_faults (CallsFrom mid old s) answer → EndsBefore the_task.Check left now first faults_now answer
ends_with left mid now s old new first faults then_faults faults_now status.Ok begun stays drained few more answers = absurd answers
ends_with left mid now s old new first faults then_faults faults_now status.NoMemory begun stays drained few more answers = begun_front left mid now s old new begun stays (omega (arith, drained.short, ap length drained.all))
ends_with left mid now s old new first faults then_faults faults_now status.Usage begun stays drained few more answers = absurd answers
ends_with left mid now s old new first faults then_faults faults_now status.ReadFault begun stays drained few more answers =
    (begun_front left mid now s old new begun stays (omega (arith, drained.short, ap length drained.all)), omega (arith, few, more, answers))
ends_with left mid now s old new first faults then_faults faults_now status.WriteFault begun stays drained few more answers = absurd answers
ends_with left mid now s old new first faults then_faults faults_now (status.BadFile reason offset) begun stays drained few more answers =
    record { cause = called left mid now s old new _ begun stays drained answers; read = begun_front left mid now s old new begun stays (omega (arith, drained.short, ap length drained.all)) }
ends_with left mid now s old new first faults then_faults faults_now (status.TooLarge which number) begun stays drained few more answers =
    record { cause = called left mid now s old new _ begun stays drained answers; read = begun_front left mid now s old new begun stays (omega (arith, drained.short, ap length drained.all)) }
ends_with left mid now s old new first faults then_faults faults_now (status.Differs offset) begun stays drained few more answers =
    record { cause = called left mid now s old new _ begun stays drained answers; read = begun_front left mid now s old new begun stays (omega (arith, drained.short, ap length drained.all)) }

-- more bytes came than an input may have
over_limit : (left mid now : Option (List ℕ)) (s : Recorded) (old new : TailBytes) → IsBegun left mid s old → StaysIn mid now old new → IsOver new → IsByLimit left (2 ^ 29) (Err read_err.Over)
over_limit None mid now s old new begun stays over = tt
over_limit (Some input) mid now s old new begun stays over =
    omega (arith, over, (has_left input now new (stays input (begun_in input mid s old begun))).long)

-- an error of reading the rest
pub ends_reading : (left mid now : Option (List ℕ)) (s : Recorded) (old new : TailBytes) (first faults faults_now : ℕ) (e : ReadErr) → IsBegun left mid s old → StaysIn mid now old new → new.at + length new.held ≤ 2 ^ 29 + 1 → first ≤ faults
    → (e ≡ read_err.Over → IsOver new) → (e ≡ read_err.Failed → Rose faults faults_now) → EndsBefore the_task.Check left now first faults_now (status_of_reading e)
ends_reading left mid now s old new first faults faults_now read_err.NoMemory begun stays short few over fault = begun_front left mid now s old new begun stays short
ends_reading left mid now s old new first faults faults_now read_err.Failed begun stays short few over fault = (begun_front left mid now s old new begun stays short, rose_from first faults faults_now few (fault refl))
ends_reading left mid now s old new first faults faults_now read_err.Over begun stays short few over fault =
    record { cause = too_long the_task.Check left (λ none. none) (over_limit left mid now s old new begun stays (over refl)); read = begun_front left mid now s old new begun stays short }

-- the result is that of the session
ended_with : (left now : Option (List ℕ)) (t : TailBytes) → (input : List ℕ) → IsIn input now t → IsAtEnd now → now ≡ Some []
ended_with left None t input is end = absurd is.came
ended_with left (Some rest) t input is end = ap Some end

read_all : (left mid now : Option (List ℕ)) (s : Recorded) (old new : TailBytes) → IsBegun left mid s old → StaysIn mid now old new → (confirmed : IsConfirmedBy mid now old new s) → ReadsAll left now (spelling s ++ result_of s confirmed.order)
read_all None mid now s old new begun stays confirmed = tt
read_all (Some input) mid now s old new begun stays confirmed =
    let is : IsIn input mid old = begun_in input mid s old begun in
    let drained : WasDrained now new = record { all = confirmed.all; end = confirmed.end; short = confirmed.short } in
    let long : length input ≡ new.at = drained_long input now new drained (stays input is) in
    let stand : StandAt input old.at (result_of s confirmed.order) new.at = confirmed.result.stand input is in
    let rest : drop old.at input ≡ result_of s confirmed.order =
    stand.there ∙ ap (λ (b : List ℕ). result_of s confirmed.order ++ b) (drop_all new.at input (omega (arith, long))) ∙ append-nil (result_of s confirmed.order) in
    let whole : input ≡ spelling s ++ result_of s confirmed.order =
    sym (take-append-drop old.at input) ∙ ap (λ (front : List ℕ). front ++ drop old.at input) (begun_spelled input mid s old begun) ∙ ap (λ (b : List ℕ). spelling s ++ b) rest in
    (sym whole, ended_with (Some input) now new input (stays input is) confirmed.end)

pub confirmed_output : (left mid now : Option (List ℕ)) (s : Recorded) (old new : TailBytes) (output : List ℕ) → IsBegun left mid s old → StaysIn mid now old new → IsConfirmedBy mid now old new s → output ≡ same_line → IsOutputOf the_task.Check left now output
confirmed_output left mid now s old new output begun stays confirmed text =
    let order = confirmed.order in
    let same : IsSame (spelling s ++ result_of s order) = record {
      session = s;
      order = order;
      has = record {
        valid = begun.valid;
        spelled = refl;
        each_once = confirmed.each_once;
        after = bytes_after_order s order;
        named = result_of-parts s order;
        short = omega (arith, length-append (spelling s) (result_of s order), begun.long, confirmed.result.at, confirmed.short);
      };
    } in
    record { input = spelling s ++ result_of s order; read = read_all left mid now s old new begun stays confirmed; made = record { same = same; text = text } }
