-- The front of a result: eight bytes of text, the number of acts in four, and the queue of each act in two.
use Rattle.std.specs.Prelude.{◌≡◌, ℕ, zero, suc, ◌+◌, ◌*◌, ◌<◌, not, ◌==◌, nat_lt, List, [], ◌∷◌, ◌++◌, length, take, drop, codes, is_some, slice_index, count_by}
use Rattle.std.specs.Str.{bytes_eq}
use Rattle.zns_types.specs.Fields.{field}
use Rattle.zns_types.specs.Rows.{Row}
use Rattle.zone_model.specs.declared.act.Act.{Act}
use Rattle.zone_model.specs.Sessions.{is_of, next_of, rest_of}
use Rattle.session_file.specs.declared.file_err.Reason.TheVariants as reason
use Rattle.session_file.specs.declared.file_err.FileErr.{FileErr}
use Rattle.session_file.specs.FileRules.{bad}
use Rattle.session_file.specs.Faults.{IsFirstOf}

-- the counts say how many acts each queue has
abbrev pub AreCounts : List Act → List ℕ → Type 0
AreCounts acts counts = (queue : ℕ) → queue < 17 → slice_index counts queue ≡ count_by (is_of queue) acts

-- a number of queues, read from an offset on
abbrev pub queues_from : ℕ → ℕ → List ℕ → List ℕ
queues_from zero at bytes = []
queues_from (suc n) at bytes = field at 2 bytes ∷ queues_from n (at + 2) bytes

-- Each named queue has an act that wasn't named yet: the next one of that queue.
unfoldable pub order_rows : ℕ → List ℕ → ℕ → List Act → List (Row FileErr)
order_rows zero bytes at acts = []
order_rows (suc n) bytes at acts = bad reason.ResultOrder at (not (is_some (next_of (field at 2 bytes) acts))) ∷ order_rows n bytes (at + 2) (rest_of (field at 2 bytes) acts)

-- the text, the number of acts, and room for their queues, from an offset on
unfoldable pub order_front_rows : List ℕ → ℕ → ℕ → List (Row FileErr)
order_front_rows bytes from n =
    bad reason.Short (length bytes) (nat_lt (length bytes) (from + 12 + 2 * n))
    ∷ bad reason.ResultMagic from (not (bytes_eq (take 8 (drop from bytes)) (codes "ZNSR0001")))
    ∷ bad reason.ResultCount (from + 8) (not (field (from + 8) 4 bytes == n))
    ∷ []

-- the front of a result of acts, from an offset on
unfoldable pub result_rows : List ℕ → ℕ → List Act → List (Row FileErr)
result_rows bytes from acts = order_front_rows bytes from (length acts) ++ order_rows (length acts) bytes (from + 12) acts

-- The error is that of the first broken rule, whichever `before` bytes come first and whatever comes after. Only if the bytes are too few
-- for the order does nothing come after them.
abbrev pub IsFirstAfter : ℕ → List ℕ → List Act → FileErr → Type 0
IsFirstAfter before bytes acts e = (front more : List ℕ) → length front ≡ before → (length bytes < 12 + 2 * length acts → more ≡ [])
    → IsFirstOf (result_rows (front ++ (bytes ++ more)) before acts) e
