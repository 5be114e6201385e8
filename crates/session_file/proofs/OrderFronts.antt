-- The front of a result: what its bytes are, and when no rule is broken.
use Rattle.std.proofs.Common.{◌≡◌, ℕ, zero, suc, ◌+◌, ◌*◌, ◌<◌, ◌≤◌, List, [], ◌∷◌, ◌++◌, length, take, drop, codes, None, Some, refl, sym, ap, ◌∙◌, arith}
use Rattle.std.proofs.lemmas.Bool.Decides.{nat_tests}
use Rattle.std.proofs.lemmas.List.{drop-drop, length-drop, length-append, take_at}
use Rattle.std.proofs.lemmas.List.Elements.{recursion_from_All}
use Rattle.std.proofs.lemmas.Slice.Eq.{bytes_eq-Decides}
use Rattle.std.specs.Prelude.{slice_index, count_by, ◌==◌, All}
use Rattle.std.specs.List.{flat_map, AllByRecursion}
use Rattle.byteorder.specs.Endian.{little_bytes, little_number}
use Rattle.byteorder.specs.Numbers.{little_number-reads_back}
use Rattle.zns_types.specs.Fields.{field}
use Rattle.zns_types.specs.Rows.{first_holding}
use Rattle.zns_types.proofs.FieldLemmas.{little_bytes-field}
use Rattle.zns_types.proofs.RowLemmas.{none_holds, none_answers, first_holding-append_none}
use Rattle.zone_model.specs.declared.act.Act.{Act}
use Rattle.zone_model.specs.Sessions.{Recorded, IsSession, IsAct, IsOrder, order_bytes}
use Rattle.session_file.specs.declared.file_err.FileErr.{FileErr}
use Rattle.session_file.specs.Faults.{IsFirstOf}
use Rattle.session_file.specs.Orders.{queues_from, order_rows, order_front_rows, result_rows}
use Rattle.session_file.proofs.Firsts.{first_of, first_of-front, first_of-back}
use Rattle.session_file.proofs.Fronts.{not_false, not_true}
use Rattle.session_file.proofs.RecordPlaces.{joined}
use Rattle.session_file.proofs.OrderPlaces.{order_counts, IsRead, is_read, queues_spelled}

-- the facts that the rules of the front state
pub record Heads (bytes : List ℕ) (from n : ℕ) : Type 0 where
  pub long : from + 12 + 2 * n ≤ length bytes
  pub magic : take 8 (drop from bytes) ≡ codes "ZNSR0001"
  pub count : field (from + 8) 4 bytes ≡ n

heads-passed : (bytes : List ℕ) (from n : ℕ) → first_holding (order_front_rows bytes from n) ≡ None → Heads bytes from n
unfolding order_front_rows
heads-passed bytes from n e =
    let (short, (unlike, (other_count, _))) = none_holds (order_front_rows bytes from n) e in
    record {
      long = grind (arith, nat_tests, short);
      magic = (bytes_eq-Decides (take 8 (drop from bytes)) (codes "ZNSR0001")).0 (not_false _ unlike);
      count = grind (arith, nat_tests, other_count);
    }

passed-heads : (bytes : List ℕ) (from n : ℕ) → Heads bytes from n → first_holding (order_front_rows bytes from n) ≡ None
unfolding order_front_rows
passed-heads bytes from n h =
    none_answers (order_front_rows bytes from n)
    (grind (arith, nat_tests), (not_true _ ((bytes_eq-Decides (take 8 (drop from bytes)) (codes "ZNSR0001")).1 h.magic), (grind (arith, nat_tests), tt)))

pub length-queues_from : (n at : ℕ) (bytes : List ℕ) → length (queues_from n at bytes) ≡ n
length-queues_from zero at bytes = refl
length-queues_from (suc n) at bytes = ap suc (length-queues_from n (at + 2) bytes)

length-flat_map_two : (queues : List ℕ) → length (flat_map (little_bytes 2) queues) ≡ 2 * length queues
length-flat_map_two [] = refl
length-flat_map_two (q ∷ queues) = let rest : length (flat_map (little_bytes 2) queues) ≡ 2 * length queues = length-flat_map_two queues in omega arith

-- the bytes spell the front
pub order_spelled : (bytes : List ℕ) (from n : ℕ) (order : List ℕ) → ((i : ℕ) → slice_index bytes i < 256) → first_holding (order_front_rows bytes from n) ≡ None → order ≡ queues_from n (from + 12) bytes → take (12 + 2 * length order) (drop from bytes) ≡ order_bytes order
order_spelled bytes from n order fits e same =
    let h : Heads bytes from n = heads-passed bytes from n e in
    let len : length order ≡ n = ap length same ∙ length-queues_from n (from + 12) bytes in
    let rest : List ℕ = drop (from + 12 + 2 * n) bytes in
    let number : little_bytes 4 (length order) ≡ take 4 (drop (from + 8) bytes) = ap (little_bytes 4) (len ∙ sym h.count) ∙ little_bytes-field (from + 8) 4 bytes (omega arith) fits in
    let queues : flat_map (little_bytes 2) order ++ rest ≡ drop (from + 12) bytes = ap (λ (qs : List ℕ). flat_map (little_bytes 2) qs ++ rest) same ∙ queues_spelled n (from + 12) bytes h.long fits in
    let whole : order_bytes order ++ rest ≡ drop from bytes = joined from 8 (from + 8) bytes (codes "ZNSR0001") _ refl (sym h.magic) (joined (from + 8) 4 (from + 12) bytes (little_bytes 4 (length order)) _ (omega arith) number queues) in
    let long : length (order_bytes order) ≡ 12 + 2 * length order = omega (arith, length-flat_map_two order) in
    ap (take (12 + 2 * length order)) (sym whole) ∙ take_at (order_bytes order) rest (12 + 2 * length order) long

-- the queues are an order of the acts
pub order_is : (bytes : List ℕ) (at : ℕ) (acts : List Act) (order : List ℕ) → first_holding (order_rows (length acts) bytes at acts) ≡ None → order ≡ queues_from (length acts) at bytes → IsOrder acts order
order_is bytes at acts order e same = λ k. ap (count_by (λ q. q == k)) same ∙ order_counts (length acts) at bytes acts refl e k

pub result-passed : (bytes : List ℕ) (from : ℕ) (acts : List Act) → first_holding (order_front_rows bytes from (length acts)) ≡ None → first_holding (order_rows (length acts) bytes (from + 12) acts) ≡ None → first_holding (result_rows bytes from acts) ≡ None
unfolding result_rows
result-passed bytes from acts h e = first_holding-append_none (order_front_rows bytes from (length acts)) (order_rows (length acts) bytes (from + 12) acts) h ∙ e

pub result-front : (bytes : List ℕ) (from : ℕ) (acts : List Act) (e : FileErr) → first_holding (order_front_rows bytes from (length acts)) ≡ Some e → IsFirstOf (result_rows bytes from acts) e
unfolding result_rows
result-front bytes from acts e h = first_of-front (order_front_rows bytes from (length acts)) (order_rows (length acts) bytes (from + 12) acts) e (first_of (order_front_rows bytes from (length acts)) e h)

pub result-queues : (bytes : List ℕ) (from : ℕ) (acts : List Act) (e : FileErr) → first_holding (order_front_rows bytes from (length acts)) ≡ None → IsFirstOf (order_rows (length acts) bytes (from + 12) acts) e → IsFirstOf (result_rows bytes from acts) e
unfolding result_rows
result-queues bytes from acts e h f = first_of-back (order_front_rows bytes from (length acts)) (order_rows (length acts) bytes (from + 12) acts) e h f

-- an order that the bytes spell is the one that is read, and it breaks no rule
pub record IsOrderOf (bytes : List ℕ) (from : ℕ) (acts : List Act) (order : List ℕ) : Type 0 where
  pub same : queues_from (length acts) (from + 12) bytes ≡ order
  pub passed : first_holding (result_rows bytes from acts) ≡ None

pub all_few : (s : Recorded) → IsSession s → All (λ (a : Act). a.queue < 17) s.acts
all_few s is = λ k d h. let act : IsAct s.geometry _ = is.acts k d h in omega (arith, act.queue, is.geometry.queues.few_queues)

few_queues : (s : Recorded) → IsSession s → AllByRecursion (λ (a : Act). a.queue < 17) s.acts
few_queues s is = recursion_from_All (λ (a : Act). a.queue < 17) s.acts (all_few s is)

pub is_order_of : (bytes : List ℕ) (from : ℕ) (s : Recorded) (order after : List ℕ) → IsSession s → IsOrder s.acts order → drop from bytes ≡ order_bytes order ++ after → IsOrderOf bytes from s.acts order
is_order_of bytes from s order after is o e =
    let tail : List ℕ = flat_map (little_bytes 2) order ++ after in
    let later : drop (from + 12) bytes ≡ tail = sym (drop-drop 12 from bytes) ∙ ap (drop 12) e in
    let r : IsRead order (from + 12) bytes s.acts = is_read order (from + 12) bytes s.acts after o (few_queues s is) later in
    let number : field (from + 8) 4 bytes ≡ length order = ap (little_number 4) (sym (drop-drop 8 from bytes) ∙ ap (drop 8) e) ∙ little_number-reads_back 4 (length order) tail (omega (arith, r.count, is.count)) in
    let heads : Heads bytes from (length s.acts) = record {
      long = omega (arith, r.count, ap length later, length-drop (from + 12) bytes, length-append (flat_map (little_bytes 2) order) after, length-flat_map_two order, ap length e, length-drop from bytes);
      magic = ap (take 8) e;
      count = number ∙ r.count;
    } in
    let all : queues_from (length s.acts) (from + 12) bytes ≡ order = ap (λ n. queues_from n (from + 12) bytes) (sym r.count) ∙ r.same in
    let passed : first_holding (order_rows (length s.acts) bytes (from + 12) s.acts) ≡ None = ap (λ n. first_holding (order_rows n bytes (from + 12) s.acts)) (sym r.count) ∙ r.passed in
    record {
      same = all;
      passed = result-passed bytes from s.acts (passed-heads bytes from (length s.acts) heads) passed;
    }
