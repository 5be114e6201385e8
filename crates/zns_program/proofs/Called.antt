-- An input calls for only one answer.
use Rattle.std.proofs.Common.{◌≡◌, ℕ, ◌+◌, List, length, drop, Option, Some, None, sym, ap, ◌∙◌}
use Rattle.zns_types.specs.Rows.{first_holding}
use Rattle.zone_model.specs.Sessions.{Recorded, spelling, result_of}
use Rattle.session_file.specs.declared.file_err.FileErr.{FileErr}
use Rattle.session_file.specs.declared.file_err.FileErr.TheVariants.{Bad, Large}
use Rattle.session_file.specs.Orders.{queues_from}
use Rattle.session_file.specs.Places.{session_in, session_end}
use Rattle.zns_program.specs.declared.status.Status.{Status}
use Rattle.zns_program.specs.declared.status.Status.TheVariants as status
use Rattle.zns_program.specs.declared.task.Task.{Task}
use Rattle.zns_program.specs.declared.task.Task.TheVariants as the_task
use Rattle.zns_program.specs.Differences.{first_difference}
use Rattle.zns_program.specs.Checking.{HasResult, IsSame, IsUnlike}
use Rattle.zns_program.specs.Inputs.{session_rows, checked_rows, host_rows, made_rows, SpellsSession}
use Rattle.zns_program.specs.Outcomes.{CallsFor}
use Rattle.zns_program.specs.Making.{status_of}
use Rattle.zns_program.proofs.Comparisons.{first_difference-same}
use Rattle.zns_program.proofs.Inputs.{unbroken, script_unbroken, made_unbroken, IsRead, is_read}

-- the answer for a first difference, if there is one
abbrev by_difference : Option ℕ → Status
by_difference None = status.Ok
by_difference (Some offset) = status.Differs offset

-- the answer for the first broken rule, or this one if there is none
abbrev by_rule : Option FileErr → Status → Status
by_rule None s = s
by_rule (Some e) s = status_of e

-- where a result first differs from what a session gives in an order
abbrev difference : Recorded → ℕ → List ℕ → List ℕ → Option ℕ
difference s at result order = first_difference at result (result_of s order)

-- where the result in an input first differs from that of its session
abbrev difference_in : List ℕ → Option ℕ
difference_in bytes = difference (session_in bytes) (session_end bytes) (drop (session_end bytes) bytes) (queues_from (length (session_in bytes).acts) (session_end bytes + 12) bytes)

-- the one answer that an input calls for
abbrev called : Task → List ℕ → Status
called the_task.One bytes = by_rule (first_holding (session_rows bytes)) status.Ok
called the_task.Run bytes = by_rule (first_holding (session_rows bytes)) status.Ok
called the_task.Check bytes = by_rule (first_holding (checked_rows bytes)) (by_difference (difference_in bytes))
called the_task.Show bytes = by_rule (first_holding (session_rows bytes)) status.Ok
called the_task.Host bytes = by_rule (first_holding (host_rows bytes)) status.Ok
called (the_task.Gen number count) bytes = by_rule (first_holding (made_rows count)) status.Ok

spelled_called : (bytes : List ℕ) → SpellsSession bytes → status.Ok ≡ by_rule (first_holding (session_rows bytes)) status.Ok
spelled_called bytes is = ap (λ rule. by_rule rule status.Ok) (sym (unbroken is.session bytes is.valid is.spelled))

difference_read : (bytes : List ℕ) (s : Recorded) (order result : List ℕ) → HasResult bytes s order result → difference_in bytes ≡ difference s (length (spelling s)) result order
difference_read bytes s order result has =
    let read : IsRead bytes s order result = is_read bytes s order result has in
    ap (λ (o : List ℕ). difference (session_in bytes) (session_end bytes) (drop (session_end bytes) bytes) o) read.names
    ∙ ap (λ (rest : List ℕ). difference (session_in bytes) (session_end bytes) rest order) read.rest
    ∙ ap (λ at. difference (session_in bytes) at result order) read.end
    ∙ ap (λ (of : Recorded). difference of (length (spelling s)) result order) read.session

-- if there is a result, the answer is the one for its difference
compared_called : (bytes : List ℕ) (s : Recorded) (order result : List ℕ) (found : Option ℕ) → HasResult bytes s order result → difference s (length (spelling s)) result order ≡ found
    → by_difference found ≡ by_rule (first_holding (checked_rows bytes)) (by_difference (difference_in bytes))
compared_called bytes s order result found has is =
    ap by_difference (sym (difference_read bytes s order result has ∙ is))
    ∙ ap (λ rule. by_rule rule (by_difference (difference_in bytes))) (sym (is_read bytes s order result has).passed)

same_called : (bytes : List ℕ) → IsSame bytes → status.Ok ≡ called the_task.Check bytes
same_called bytes same = compared_called bytes same.session same.order (result_of same.session same.order) None same.has (first_difference-same (length (spelling same.session)) (result_of same.session same.order))

unlike_called : (bytes : List ℕ) (offset : ℕ) → IsUnlike bytes offset → status.Differs offset ≡ called the_task.Check bytes
unlike_called bytes offset unlike = compared_called bytes unlike.session unlike.order unlike.result (Some offset) unlike.has unlike.first

refusal_called : (rule : Option FileErr) (e : FileErr) (s : Status) → rule ≡ Some e → status_of e ≡ by_rule rule s
refusal_called rule e s is = ap (λ r. by_rule r s) (sym is)

-- an input calls for no other answer
is_called : (t : Task) (bytes : List ℕ) (answer : Status) → CallsFor t bytes answer → answer ≡ called t bytes
is_called the_task.One bytes status.Ok calls = spelled_called bytes calls
is_called the_task.Run bytes status.Ok calls = spelled_called bytes calls
is_called the_task.Check bytes status.Ok calls = same_called bytes calls
is_called the_task.Show bytes status.Ok calls = spelled_called bytes calls
is_called the_task.Host bytes status.Ok calls = ap (λ rule. by_rule rule status.Ok) (sym (script_unbroken bytes calls))
is_called (the_task.Gen number count) bytes status.Ok calls = ap (λ rule. by_rule rule status.Ok) (sym (made_unbroken count calls))
is_called t bytes status.NoMemory calls = absurd calls
is_called t bytes status.Usage calls = absurd calls
is_called t bytes status.ReadFault calls = absurd calls
is_called t bytes status.WriteFault calls = absurd calls
is_called the_task.One bytes (status.BadFile reason offset) calls = refusal_called _ (Bad reason offset) _ calls
is_called the_task.Run bytes (status.BadFile reason offset) calls = refusal_called _ (Bad reason offset) _ calls
is_called the_task.Check bytes (status.BadFile reason offset) calls = refusal_called _ (Bad reason offset) _ calls
is_called the_task.Show bytes (status.BadFile reason offset) calls = refusal_called _ (Bad reason offset) _ calls
is_called the_task.Host bytes (status.BadFile reason offset) calls = refusal_called _ (Bad reason offset) _ calls
is_called (the_task.Gen number count) bytes (status.BadFile reason offset) calls = refusal_called _ (Bad reason offset) _ calls
is_called the_task.One bytes (status.TooLarge which number) calls = refusal_called _ (Large which number) _ calls
is_called the_task.Run bytes (status.TooLarge which number) calls = refusal_called _ (Large which number) _ calls
is_called the_task.Check bytes (status.TooLarge which number) calls = refusal_called _ (Large which number) _ calls
is_called the_task.Show bytes (status.TooLarge which number) calls = refusal_called _ (Large which number) _ calls
is_called the_task.Host bytes (status.TooLarge which number) calls = refusal_called _ (Large which number) _ calls
is_called (the_task.Gen from count) bytes (status.TooLarge which number) calls = refusal_called _ (Large which number) _ calls
is_called the_task.One bytes (status.Differs offset) calls = absurd calls
is_called the_task.Run bytes (status.Differs offset) calls = absurd calls
is_called the_task.Check bytes (status.Differs offset) calls = unlike_called bytes offset calls
is_called the_task.Show bytes (status.Differs offset) calls = absurd calls
is_called the_task.Host bytes (status.Differs offset) calls = absurd calls
is_called (the_task.Gen number count) bytes (status.Differs offset) calls = absurd calls

-- an input calls for only one answer
pub one_answer : (t : Task) (bytes : List ℕ) (answer other : Status) → CallsFor t bytes answer → CallsFor t bytes other → answer ≡ other
one_answer t bytes answer other calls also = is_called t bytes answer calls ∙ sym (is_called t bytes other also)
