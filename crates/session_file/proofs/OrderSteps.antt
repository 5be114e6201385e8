-- The queues of an order, read one after another.
use Rattle.std.proofs.Common.{◌≡◌, ℕ, ◌+◌, ◌-◌, ◌*◌, ◌<◌, ◌≤◌, List, [], ◌∷◌, ◌++◌, length, None, Some, refl, sym, ap, ◌∙◌, arith}
use Rattle.std.proofs.lemmas.List.{append-nil, length-set}
use Rattle.std.specs.Prelude.{slice_index, slice_set, count_by}
use Rattle.std.specs.List.{AllByRecursion}
use Rattle.zns_types.specs.Fields.{field}
use Rattle.zns_types.specs.Rows.{first_holding}
use Rattle.zone_model.specs.declared.act.Act.{Act}
use Rattle.zone_model.specs.Sessions.{is_of, rest_of}
use Rattle.session_file.specs.declared.file_err.Reason.TheVariants as reason
use Rattle.session_file.specs.declared.file_err.FileErr.TheVariants.{Bad}
use Rattle.session_file.specs.Orders.{AreCounts, queues_from, order_rows}
use Rattle.session_file.proofs.OrderPlaces.{left_after, left_after-more, left_after-all, queues_from-more, order_rows-more, order_rows-broken, order_rows-all}
use Rattle.session_file.proofs.OrderCounts.{counts-less, no_more}

-- the queues read so far, and the number of acts that each queue has left
pub record SoFar (i at : ℕ) (bytes : List ℕ) (acts : List Act) (queues left : List ℕ) : Type 0 where
  pub read : queues ++ queues_from (length acts - i) (at + 2 * i) bytes ≡ queues_from (length acts) at bytes
  pub rows : first_holding (order_rows (length acts - i) bytes (at + 2 * i) (left_after i at bytes acts)) ≡ first_holding (order_rows (length acts) bytes at acts)
  pub long : length left ≡ 17
  pub counts : AreCounts (left_after i at bytes acts) left

pub so_far-none : (at : ℕ) (bytes : List ℕ) (acts : List Act) (left : List ℕ) → length left ≡ 17 → AreCounts acts left → SoFar 0 at bytes acts [] left
so_far-none at bytes acts left long counts =
    let all : length acts - 0 ≡ length acts = omega arith in
    let start : at + 2 * 0 ≡ at = omega arith in
    record {
      read = rw (all, start) refl;
      rows = rw (all, start) refl;
      long = long;
      counts = counts;
    }

pub so_far-more : (i at : ℕ) (bytes : List ℕ) (acts : List Act) (queues left : List ℕ) (queue : ℕ) → SoFar i at bytes acts queues left → i < length acts → queue ≡ field (at + 2 * i) 2 bytes → queue < 17 → 0 < slice_index left queue → SoFar (i + 1) at bytes acts (queues ++ queue ∷ []) (slice_set left queue (slice_index left queue - 1))
so_far-more i at bytes acts queues left queue s h e small some =
    let next : at + 2 * (i + 1) ≡ (at + 2 * i) + 2 = omega arith in
    let rest : List Act = left_after i at bytes acts in
    let after : left_after (i + 1) at bytes acts ≡ rest_of queue rest = left_after-more i at bytes acts ∙ ap (λ q. rest_of q rest) (sym e) in
    let has : 0 < count_by (is_of (field (at + 2 * i) 2 bytes)) rest = rw (← e) (omega (arith, s.counts queue small)) in
    record {
      read = rw (e, next) (queues_from-more i (length acts) (at + 2 * i) bytes queues (queues_from (length acts) at bytes) h s.read);
      rows = rw (next, left_after-more i at bytes acts) (order_rows-more i (length acts) bytes (at + 2 * i) rest h has ∙ s.rows);
      long = length-set left queue (slice_index left queue - 1) ∙ s.long;
      counts = λ q few. counts-less left rest queue small (omega (arith, s.long)) some s.counts q few ∙ ap (count_by (is_of q)) (sym after);
    }

pub so_far-broken : (i at : ℕ) (bytes : List ℕ) (acts : List Act) (queues left : List ℕ) (queue : ℕ) → SoFar i at bytes acts queues left → AllByRecursion (λ (a : Act). a.queue < 17) acts → i < length acts → queue ≡ field (at + 2 * i) 2 bytes → (queue < 17 → slice_index left queue ≡ 0) → first_holding (order_rows (length acts) bytes at acts) ≡ Some (Bad reason.ResultOrder (at + 2 * i))
so_far-broken i at bytes acts queues left queue s few h e none =
    let rest : List Act = left_after i at bytes acts in
    let no : count_by (is_of (field (at + 2 * i) 2 bytes)) rest ≡ 0 = rw (← e) (no_more left rest queue none s.counts (left_after-all (λ (a : Act). a.queue < 17) i at bytes acts few)) in
    sym s.rows ∙ order_rows-broken i (length acts) bytes (at + 2 * i) rest h no

pub so_far-all : (i at : ℕ) (bytes : List ℕ) (acts : List Act) (queues left : List ℕ) → SoFar i at bytes acts queues left → length acts ≤ i → (queues ≡ queues_from (length acts) at bytes) × (first_holding (order_rows (length acts) bytes at acts) ≡ None)
so_far-all i at bytes acts queues left s h =
    let none : length acts - i ≡ 0 = omega arith in
    let end : queues ++ [] ≡ queues_from (length acts) at bytes = ap (λ k. queues ++ queues_from k (at + 2 * i) bytes) (sym none) ∙ s.read in
    (sym (append-nil queues) ∙ end, sym s.rows ∙ order_rows-all i (length acts) bytes (at + 2 * i) (left_after i at bytes acts) h)
