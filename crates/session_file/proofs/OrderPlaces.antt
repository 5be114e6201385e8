-- The queues that bytes name, and the acts that remain.
use Rattle.std.proofs.Common.{◌≡◌, ℕ, zero, suc, ◌+◌, ◌-◌, ◌*◌, ◌<◌, ◌≤◌, Bool, true, false, not, List, [], ◌∷◌, ◌++◌, length, drop, None, Some, refl, sym, ap, ◌∙◌, arith}
use Rattle.std.proofs.lemmas.Bool.{eq-eqb}
use Rattle.std.proofs.lemmas.List.{append_assoc, drop-drop, nil_from_length}
use Rattle.std.specs.Prelude.{is_some, slice_index, count_by, ◌==◌}
use Rattle.std.specs.List.{flat_map, AllByRecursion}
use Rattle.byteorder.specs.Endian.{little_bytes, little_number}
use Rattle.byteorder.specs.Numbers.{little_number-reads_back}
use Rattle.drive_rules.specs.Shown.{one}
use Rattle.zns_types.specs.Fields.{field}
use Rattle.zns_types.specs.Rows.{first_holding}
use Rattle.zns_types.proofs.FieldLemmas.{little_bytes-field}
use Rattle.zone_model.specs.declared.act.Act.{Act}
use Rattle.zone_model.specs.Sessions.{is_of, next_of, rest_of}
use Rattle.session_file.specs.declared.file_err.Reason.TheVariants as reason
use Rattle.session_file.specs.declared.file_err.FileErr.{FileErr}
use Rattle.session_file.specs.declared.file_err.FileErr.TheVariants.{Bad}
use Rattle.session_file.specs.Orders.{queues_from, order_rows}
use Rattle.session_file.proofs.RecordPlaces.{joined}
use Rattle.zone_model.proofs.Merging.{count-cons}
use Rattle.session_file.proofs.OrderLists.{HasNext, some-next, counted-next, next-count, uncounted-next, rest-all, next-few, none-counted}

-- the acts that remain after a number of queues were named
abbrev pub left_after : ℕ → ℕ → List ℕ → List Act → List Act
left_after zero at bytes acts = acts
left_after (suc n) at bytes acts = left_after n (at + 2) bytes (rest_of (field at 2 bytes) acts)

pub left_after-more : (i at : ℕ) (bytes : List ℕ) (acts : List Act) → left_after (i + 1) at bytes acts ≡ rest_of (field (at + 2 * i) 2 bytes) (left_after i at bytes acts)
left_after-more zero at bytes acts = let start : at + 2 * 0 ≡ at = omega arith in rw start refl
left_after-more (suc i) at bytes acts =
    let more : suc i + 1 ≡ suc (i + 1) = omega arith in
    let place : at + 2 * suc i ≡ (at + 2) + 2 * i = omega arith in
    rw (more, place) (left_after-more i (at + 2) bytes (rest_of (field at 2 bytes) acts))

pub left_after-all : (P : Act → Type 0) (i at : ℕ) (bytes : List ℕ) (acts : List Act) → AllByRecursion P acts → AllByRecursion P (left_after i at bytes acts)
left_after-all P zero at bytes acts h = h
left_after-all P (suc i) at bytes acts h = left_after-all P i (at + 2) bytes (rest_of (field at 2 bytes) acts) (rest-all P (field at 2 bytes) acts h)

-- ---- one queue more

left : (i n : ℕ) → i < n → n - i ≡ suc (n - (i + 1))
left i n h = omega arith

pub queues_from-more : (i n at : ℕ) (bytes queues whole : List ℕ) → i < n → queues ++ queues_from (n - i) at bytes ≡ whole → (queues ++ field at 2 bytes ∷ []) ++ queues_from (n - (i + 1)) (at + 2) bytes ≡ whole
queues_from-more i n at bytes queues whole h e =
    append_assoc queues (field at 2 bytes ∷ []) (queues_from (n - (i + 1)) (at + 2) bytes)
    ∙ ap (λ k. queues ++ queues_from k at bytes) (sym (left i n h)) ∙ e

has-next : (queue : ℕ) (acts : List Act) → HasNext queue acts → not (is_some (next_of queue acts)) ≡ false
has-next queue acts has = rw has.found refl

pub order_rows-more : (i n : ℕ) (bytes : List ℕ) (at : ℕ) (acts : List Act) → i < n → 0 < count_by (is_of (field at 2 bytes)) acts → first_holding (order_rows (n - (i + 1)) bytes (at + 2) (rest_of (field at 2 bytes) acts)) ≡ first_holding (order_rows (n - i) bytes at acts)
unfolding order_rows
order_rows-more i n bytes at acts h some = rw (left i n h, has-next (field at 2 bytes) acts (counted-next (field at 2 bytes) acts some)) refl

pub order_rows-broken : (i n : ℕ) (bytes : List ℕ) (at : ℕ) (acts : List Act) → i < n → count_by (is_of (field at 2 bytes)) acts ≡ 0 → first_holding (order_rows (n - i) bytes at acts) ≡ Some (Bad reason.ResultOrder at)
unfolding order_rows
order_rows-broken i n bytes at acts h none =
    let no : is_some (next_of (field at 2 bytes) acts) ≡ false = uncounted-next (field at 2 bytes) acts none in
    rw (left i n h, no) refl

pub order_rows-all : (i n : ℕ) (bytes : List ℕ) (at : ℕ) (acts : List Act) → n ≤ i → first_holding (order_rows (n - i) bytes at acts) ≡ None
unfolding order_rows
order_rows-all i n bytes at acts h = let none : n - i ≡ 0 = omega arith in rw none refl

-- ---- all queues

row_passes : (b : Bool) (e : FileErr) (rest : List _) → first_holding (record { holds = not b; answer = e } ∷ rest) ≡ None → (b ≡ true) × (first_holding rest ≡ None)
row_passes true e rest h = (refl, h)
row_passes false e rest h = absurd cc

-- if each named queue has another act, the queues are those of the acts
pub order_counts : (n at : ℕ) (bytes : List ℕ) (acts : List Act) → length acts ≡ n → first_holding (order_rows n bytes at acts) ≡ None → (k : ℕ) → count_by (λ q. q == k) (queues_from n at bytes) ≡ count_by (is_of k) acts
unfolding order_rows
order_counts zero at bytes acts l h k = rw (nil_from_length acts l) refl
order_counts (suc n) at bytes acts l h k =
    let queue : ℕ = field at 2 bytes in
    let p = row_passes (is_some (next_of queue acts)) (Bad reason.ResultOrder at) (order_rows n bytes (at + 2) (rest_of queue acts)) h in
    let has = some-next queue acts p.0 in
    let short : length (rest_of queue acts) ≡ n = omega (arith, has.next.length) in
    let rest : count_by (λ q. q == k) (queues_from n (at + 2) bytes) ≡ count_by (is_of k) (rest_of queue acts) = order_counts n (at + 2) bytes (rest_of queue acts) short p.1 k in
    count-cons (λ q. q == k) queue (queues_from n (at + 2) bytes) ∙ ap (λ m. one (queue == k) + m) rest ∙ sym (next-count queue acts has k)

-- an order that the bytes spell is the one that is read, and each named queue has another act
pub record IsRead (order : List ℕ) (at : ℕ) (bytes : List ℕ) (acts : List Act) : Type 0 where
  pub same : queues_from (length order) at bytes ≡ order
  pub passed : first_holding (order_rows (length order) bytes at acts) ≡ None
  pub count : length order ≡ length acts

pub is_read : (order : List ℕ) (at : ℕ) (bytes : List ℕ) (acts : List Act) (after : List ℕ) → ((k : ℕ) → count_by (λ q. q == k) order ≡ count_by (is_of k) acts) → AllByRecursion (λ (a : Act). a.queue < 17) acts → drop at bytes ≡ flat_map (little_bytes 2) order ++ after → IsRead order at bytes acts
unfolding order_rows
is_read [] at bytes acts after h all e = record { same = refl; passed = refl; count = sym (ap length (none-counted acts (λ k. sym (h k)))) }
is_read (q ∷ order) at bytes acts after h all e =
    let own : one (q == q) ≡ 1 = ap one (eq-eqb q q refl) in
    let named : count_by (λ k. k == q) (q ∷ order) ≡ count_by (is_of q) acts = h q in
    let has = counted-next q acts (omega (arith, own, named, count-cons (λ k. k == q) q order)) in
    let few : q < 17 = next-few q acts all has in
    let start : drop at bytes ≡ little_bytes 2 q ++ (flat_map (little_bytes 2) order ++ after) = e ∙ append_assoc (little_bytes 2 q) (flat_map (little_bytes 2) order) after in
    let here : field at 2 bytes ≡ q = ap (little_number 2) start ∙ little_number-reads_back 2 q (flat_map (little_bytes 2) order ++ after) (omega arith) in
    let later : drop (at + 2) bytes ≡ flat_map (little_bytes 2) order ++ after = sym (drop-drop 2 at bytes) ∙ ap (drop 2) start in
    let fewer : (k : ℕ) → count_by (λ x. x == k) order ≡ count_by (is_of k) (rest_of q acts) = λ k. less k (h k) (next-count q acts has k) in
    let rest : IsRead order (at + 2) bytes (rest_of q acts) = is_read order (at + 2) bytes (rest_of q acts) after fewer (rest-all (λ (a : Act). a.queue < 17) q acts all) later in
    record {
      same = rw (here, rest.same) refl;
      passed = rw (here, has-next q acts has) rest.passed;
      count = ap suc rest.count ∙ sym has.next.length;
    }
  where
    less : (k : ℕ) → count_by (λ x. x == k) (q ∷ order) ≡ count_by (is_of k) acts → count_by (is_of k) acts ≡ one (q == k) + count_by (is_of k) (rest_of q acts) → count_by (λ x. x == k) order ≡ count_by (is_of k) (rest_of q acts)
    less k named left = omega (arith, named, left, count-cons (λ x. x == k) q order)

-- the bytes from an offset on spell these queues
pub queues_spelled : (n at : ℕ) (bytes : List ℕ) → at + 2 * n ≤ length bytes → ((i : ℕ) → slice_index bytes i < 256) → flat_map (little_bytes 2) (queues_from n at bytes) ++ drop (at + 2 * n) bytes ≡ drop at bytes
queues_spelled zero at bytes h fits = let start : at + 2 * 0 ≡ at = omega arith in rw start refl
queues_spelled (suc n) at bytes h fits =
    let place : at + 2 * suc n ≡ (at + 2) + 2 * n = omega arith in
    append_assoc (little_bytes 2 (field at 2 bytes)) (flat_map (little_bytes 2) (queues_from n (at + 2) bytes)) (drop (at + 2 * suc n) bytes)
    ∙ joined at 2 (at + 2) bytes _ _ refl (little_bytes-field at 2 bytes (omega arith) fits)
    (rw place (queues_spelled n (at + 2) bytes (omega arith) fits))
