-- The bytes of a record and the act in them.
use Rattle.std.proofs.Common.{◌≡◌, ℕ, ◌+◌, ◌^◌, ◌<◌, ◌≤◌, List, [], ◌∷◌, ◌++◌, length, take, drop, refl, sym, ap, ◌∙◌, arith}
use Rattle.std.proofs.lemmas.List.{append_assoc, take-append-drop, take_at, drop_at, drop-drop, length-drop, length-take-le, length-append}
use Rattle.std.specs.Prelude.{slice_index}
use Rattle.byteorder.specs.Endian.{little_bytes, little_number}
use Rattle.byteorder.specs.Numbers.{little_number-reads_back}
use Rattle.zns_types.specs.Fields.{field}
use Rattle.zns_types.proofs.FieldLemmas.{little_bytes-field}
use Rattle.zone_model.specs.declared.act.Act.{Act}
use Rattle.zone_model.specs.Sessions.{record_bytes}
use Rattle.session_file.specs.Places.{length_at, act_at, next_at}

-- five parts, and what follows them
pub five_parts : (a b c d e rest : List ℕ) → ((((a ++ b) ++ c) ++ d) ++ e) ++ rest ≡ a ++ (b ++ (c ++ (d ++ (e ++ rest))))
five_parts a b c d e rest = simp append_assoc

-- a part of the bytes, and what follows it
pub joined : (place width next : ℕ) (bytes front back : List ℕ) → place + width ≡ next → front ≡ take width (drop place bytes) → back ≡ drop next bytes → front ++ back ≡ drop place bytes
joined place width next bytes front back n e h = rw (e, h, ← n, ← drop-drop width place bytes) (take-append-drop width (drop place bytes))

-- the record at an offset is the one for its act
pub record_bytes-act_at : (at : ℕ) (bytes : List ℕ) → next_at at bytes ≤ length bytes → field (at + 2) 2 bytes ≡ 0 → ((i : ℕ) → slice_index bytes i < 256) → record_bytes (act_at at bytes) ++ drop (next_at at bytes) bytes ≡ drop at bytes
unfolding act_at length_at
record_bytes-act_at at bytes within zeros fits =
    let n : ℕ = field (at + 4) 4 bytes in
    let payload : List ℕ = take n (drop (at + 72) bytes) in
    let long : length payload ≡ n = length-take-le n (drop (at + 72) bytes) (omega (arith, length-drop (at + 72) bytes)) in
    let queue : little_bytes 2 (field at 2 bytes) ≡ take 2 (drop at bytes) = little_bytes-field at 2 bytes (omega arith) fits in
    let none : (0 ∷ 0 ∷ []) ≡ take 2 (drop (at + 2) bytes) = ap (little_bytes 2) (sym zeros) ∙ little_bytes-field (at + 2) 2 bytes (omega arith) fits in
    let len : little_bytes 4 (length payload) ≡ take 4 (drop (at + 4) bytes) = ap (little_bytes 4) long ∙ little_bytes-field (at + 4) 4 bytes (omega arith) fits in
    five_parts (little_bytes 2 (field at 2 bytes)) (0 ∷ 0 ∷ []) (little_bytes 4 (length payload)) (take 64 (drop (at + 8) bytes)) payload (drop (next_at at bytes) bytes)
    ∙ joined at 2 (at + 2) bytes _ _ refl queue
    (joined (at + 2) 2 (at + 4) bytes _ _ (omega arith) none
    (joined (at + 4) 4 (at + 8) bytes _ _ (omega arith) len
    (joined (at + 8) 64 (at + 72) bytes _ _ (omega arith) refl
    (joined (at + 72) n (next_at at bytes) bytes _ _ refl refl refl))))

-- the parts of an act's record
parts_of : Act → List ℕ → List ℕ
parts_of a rest = little_bytes 2 a.queue ++ ((0 ∷ 0 ∷ []) ++ (little_bytes 4 (length a.payload) ++ (a.sqe.bytes ++ (a.payload ++ rest))))

record_bytes-parts : (a : Act) (rest : List ℕ) → record_bytes a ++ rest ≡ parts_of a rest
unfolding parts_of
record_bytes-parts a rest = five_parts (little_bytes 2 a.queue) (0 ∷ 0 ∷ []) (little_bytes 4 (length a.payload)) a.sqe.bytes a.payload rest

-- the fields at an offset where the record of an act begins
pub record Stands (at : ℕ) (bytes : List ℕ) (a : Act) (after : List ℕ) : Type 0 where
  pub act : act_at at bytes ≡ a
  pub len : length_at at bytes ≡ length a.payload
  pub zeros : field (at + 2) 2 bytes ≡ 0
  pub rest : drop (next_at at bytes) bytes ≡ after
  pub within : next_at at bytes ≤ length bytes

-- an act is its three parts
same_act : (queue : ℕ) (entry payload : List ℕ) (a : Act) → queue ≡ a.queue → entry ≡ a.sqe.bytes → payload ≡ a.payload → record { queue = queue; sqe = record { bytes = entry }; payload = payload } ≡ a
same_act queue entry payload a q e p = rw (q, e, p) refl

-- a place in the record at an offset
inner : (at k : ℕ) (bytes whole : List ℕ) → drop at bytes ≡ whole → drop (at + k) bytes ≡ drop k whole
inner at k bytes whole h = sym (drop-drop k at bytes) ∙ ap (drop k) h

pub act_at-record_bytes : (at : ℕ) (bytes : List ℕ) (a : Act) (rest : List ℕ) → a.queue < 2 ^ 16 → length a.payload < 2 ^ 32 → length a.sqe.bytes ≡ 64 → drop at bytes ≡ record_bytes a ++ rest → Stands at bytes a rest
unfolding act_at length_at parts_of
act_at-record_bytes at bytes a rest q l e h =
    let whole : List ℕ = parts_of a rest in
    let start : drop at bytes ≡ whole = h ∙ record_bytes-parts a rest in
    let queue : field at 2 bytes ≡ a.queue =
    ap (little_number 2) start ∙ little_number-reads_back 2 a.queue ((0 ∷ 0 ∷ []) ++ (little_bytes 4 (length a.payload) ++ (a.sqe.bytes ++ (a.payload ++ rest)))) q in
    let zeros : field (at + 2) 2 bytes ≡ 0 = ap (little_number 2) (inner at 2 bytes whole start) in
    let len : length_at at bytes ≡ length a.payload =
    ap (little_number 4) (inner at 4 bytes whole start) ∙ little_number-reads_back 4 (length a.payload) (a.sqe.bytes ++ (a.payload ++ rest)) l in
    let entry : take 64 (drop (at + 8) bytes) ≡ a.sqe.bytes = ap (take 64) (inner at 8 bytes whole start) ∙ take_at a.sqe.bytes (a.payload ++ rest) 64 e in
    let later : drop (at + 72) bytes ≡ a.payload ++ rest = inner at 72 bytes whole start ∙ drop_at a.sqe.bytes (a.payload ++ rest) 64 e in
    let payload : take (length_at at bytes) (drop (at + 72) bytes) ≡ a.payload =
    ap (take (length_at at bytes)) later ∙ take_at a.payload rest (length_at at bytes) (sym len) in
    record {
      act = same_act (field at 2 bytes) (take 64 (drop (at + 8) bytes)) (take (length_at at bytes) (drop (at + 72) bytes)) a queue entry payload;
      len = len;
      zeros = zeros;
      rest = inner (at + 72) (length_at at bytes) bytes (a.payload ++ rest) later ∙ drop_at a.payload rest (length_at at bytes) (sym len);
      within = omega (arith, len, ap length later, length-drop (at + 72) bytes, length-append a.payload rest, ap length start, length-drop at bytes, length-append a.sqe.bytes (a.payload ++ rest));
    }
