-- The first rule that a result breaks, where other bytes come before its own.
use Rattle.std.proofs.Common.{◌≡◌, ℕ, zero, suc, ◌+◌, ◌*◌, ◌<◌, ◌≤◌, ⊎_elim, true, false, List, [], ◌++◌, map, length, take, drop, Some, refl, sym, ap, subst, ◌∙◌, arith}
use Rattle.std.proofs.Math.Seq.{drop-append-add}
use Rattle.std.proofs.lemmas.Bool.{cases_lt}
use Rattle.std.proofs.lemmas.Bool.Decides.{nat_tests}
use Rattle.std.proofs.lemmas.List.{append-nil, drop-append-le, take-append-le, length-append, length-drop}
use Rattle.std.proofs.lemmas.Option.{same_Some}
use Rattle.std.specs.Prelude.{nat_lt}
use Rattle.byteorder.specs.Endian.{little_number}
use Rattle.byteorder.specs.Numbers.{little_from-append}
use Rattle.zns_types.specs.Fields.{field}
use Rattle.zns_types.specs.Rows.{Row, when, first_holding}
use Rattle.zone_model.specs.declared.act.Act.{Act}
use Rattle.zone_model.specs.Sessions.{rest_of}
use Rattle.session_file.specs.declared.file_err.Reason.TheVariants as reason
use Rattle.session_file.specs.declared.file_err.FileErr.{FileErr}
use Rattle.session_file.specs.declared.file_err.FileErr.TheVariants.{NoMemory, Bad, Large}
use Rattle.session_file.specs.Faults.{FirstBroken, IsFirstOf, later}
use Rattle.session_file.specs.Orders.{order_rows, order_front_rows, result_rows, IsFirstAfter}
use Rattle.session_file.proofs.RowSplits.{first_holding-answers}

-- a rule, where this many other bytes come before
abbrev moved : ℕ → Row FileErr → Row FileErr
moved before r = when r.holds (later before r.answer)

-- ---- bytes that are long enough for the order

-- a place of the bytes has the same bytes where others come before and after them
drop-within : (front bytes more : List ℕ) (at : ℕ) → at ≤ length bytes → drop (length front + at) (front ++ (bytes ++ more)) ≡ drop at bytes ++ more
drop-within front bytes more at h = drop-append-add front (bytes ++ more) at ∙ drop-append-le at bytes more h

field-within : (front bytes more : List ℕ) (at width : ℕ) → at + width ≤ length bytes → field (length front + at) width (front ++ (bytes ++ more)) ≡ field at width bytes
field-within front bytes more at width h =
    ap (little_number width) (drop-within front bytes more at (omega arith)) ∙ little_from-append width (drop at bytes) more (omega (arith, length-drop at bytes))

take-within : (front bytes more : List ℕ) (width : ℕ) → width ≤ length bytes → take width (drop (length front) (front ++ (bytes ++ more))) ≡ take width bytes
take-within front bytes more width h =
    let start : length front ≡ length front + 0 = omega arith in
    ap (λ (k : ℕ). take width (drop k (front ++ (bytes ++ more)))) start
    ∙ ap (take width) (drop-within front bytes more 0 (omega arith))
    ∙ take-append-le width bytes more h

order_rows-within : (n at : ℕ) (front bytes more : List ℕ) (acts : List Act) → at + 2 * n ≤ length bytes → order_rows n (front ++ (bytes ++ more)) (length front + at) acts ≡ map (moved (length front)) (order_rows n bytes at acts)
unfolding order_rows
order_rows-within zero at front bytes more acts h = refl
order_rows-within (suc n) at front bytes more acts h =
    let next : length front + at + 2 ≡ length front + (at + 2) = omega arith in
    rw (field-within front bytes more at 2 (omega arith), next, order_rows-within n (at + 2) front bytes more (rest_of (field at 2 bytes) acts) (omega arith)) refl

-- the rules of the front, with any others after them
front_rows-within : (n : ℕ) (front bytes more : List ℕ) (rest : List (Row FileErr)) → 12 + 2 * n ≤ length bytes → first_holding (order_front_rows (front ++ (bytes ++ more)) (length front) n ++ map (moved (length front)) rest) ≡ first_holding (map (moved (length front)) (order_front_rows bytes 0 n ++ rest))
unfolding order_front_rows
front_rows-within n front bytes more rest h =
    let whole : List ℕ = front ++ (bytes ++ more) in
    let size : length front + (length bytes + length more) ≡ length whole = rw (length-append front (bytes ++ more), length-append bytes more) refl in
    let long : nat_lt (length whole) (length front + 12 + 2 * n) ≡ false = grind (arith, nat_tests) in
    let own_long : nat_lt (length bytes) (12 + 2 * n) ≡ false = grind (arith, nat_tests) in
    let start : length front + 0 ≡ length front = omega arith in
    rw (long, own_long, take-within front bytes more 8 (omega arith), field-within front bytes more 8 4 (omega arith), start) refl

result_rows-within : (front bytes more : List ℕ) (acts : List Act) → 12 + 2 * length acts ≤ length bytes → first_holding (result_rows (front ++ (bytes ++ more)) (length front) acts) ≡ first_holding (map (moved (length front)) (result_rows bytes 0 acts))
unfolding result_rows
result_rows-within front bytes more acts h =
    rw (order_rows-within (length acts) 12 front bytes more acts h) (front_rows-within (length acts) front bytes more (order_rows (length acts) bytes 12 acts) h)

-- ---- bytes that are too few for the order

result_rows-short : (bytes : List ℕ) (from : ℕ) (acts : List Act) → length bytes < from + 12 + 2 * length acts → first_holding (result_rows bytes from acts) ≡ Some (Bad reason.Short (length bytes))
unfolding result_rows order_front_rows
result_rows-short bytes from acts h = let short : nat_lt (length bytes) (from + 12 + 2 * length acts) ≡ true = grind (arith, nat_tests) in rw short refl

-- ---- either

broken-after : (front bytes more : List ℕ) (acts : List Act) (e : FileErr) → (length bytes < 12 + 2 * length acts → more ≡ []) → FirstBroken (result_rows bytes 0 acts) e → FirstBroken (result_rows (front ++ (bytes ++ more)) (length front) acts) (later (length front) e)
broken-after front bytes more acts e none h = ⊎_elim short long (cases_lt (length bytes) (12 + 2 * length acts))
  where
    short : length bytes < 12 + 2 * length acts → FirstBroken (result_rows (front ++ (bytes ++ more)) (length front) acts) (later (length front) e)
    short few =
        let is : Bad reason.Short (length bytes) ≡ e = same_Some _ _ (sym (result_rows-short bytes 0 acts few) ∙ h) in
        let size : length (front ++ (bytes ++ more)) ≡ length front + length bytes = rw (none few, append-nil bytes) (length-append front bytes) in
        result_rows-short (front ++ (bytes ++ more)) (length front) acts (omega (arith, size, few))
        ∙ ap (λ (k : ℕ). Some (Bad reason.Short k)) size
        ∙ ap (λ (x : FileErr). Some (later (length front) x)) is

    long : 12 + 2 * length acts ≤ length bytes → FirstBroken (result_rows (front ++ (bytes ++ more)) (length front) acts) (later (length front) e)
    long enough = result_rows-within front bytes more acts enough ∙ first_holding-answers (later (length front)) (result_rows bytes 0 acts) e h

-- the error is that of the bytes alone, with its offset moved
pub first_after : (before : ℕ) (bytes : List ℕ) (acts : List Act) (e : FileErr) → IsFirstOf (result_rows bytes 0 acts) e → IsFirstAfter before bytes acts (later before e)
first_after before bytes acts NoMemory h = λ front more place none. tt
first_after before bytes acts (Bad r offset) h = λ front more place none. subst (λ (k : ℕ). FirstBroken (result_rows (front ++ (bytes ++ more)) k acts) (later k (Bad r offset))) place (broken-after front bytes more acts (Bad r offset) none h)
first_after before bytes acts (Large which number) h = λ front more place none. subst (λ (k : ℕ). FirstBroken (result_rows (front ++ (bytes ++ more)) k acts) (later k (Large which number))) place (broken-after front bytes more acts (Large which number) none h)
