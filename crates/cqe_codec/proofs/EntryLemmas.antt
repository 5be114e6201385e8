-- An entry spells its fields, and no other entry does.
use Rattle.std.proofs.Common.{◌≡◌, ℕ, ◌+◌, ◌<◌, List, [], ◌++◌, length, take, drop, refl, sym, ap, subst, ◌∙◌, arith}
use Rattle.std.proofs.lemmas.List.{take-append-drop, get_or-drop, drop_all, drop-drop}
use Rattle.std.proofs.lemmas.Bool.Decides.{nat_tests}
use Rattle.std.specs.Prelude.{slice_index}
use Rattle.byteorder.specs.Endian.{little_bytes}
use Rattle.zns_types.specs.Fields.{field, dword, bits}
use Rattle.zns_types.proofs.FieldLemmas.{little_bytes-field, field-from_bytes}
use Rattle.cqe_codec.specs.declared.cqe.Cqe.{Cqe}
use Rattle.cqe_codec.specs.Entries.{entry_bytes, status_dword, Spells, SpellsStatus, FitsEntry}

-- the last dword of an entry spells its fields
spells-status_dword : (c : Cqe) → FitsEntry c → SpellsStatus (status_dword c) c
spells-status_dword c f = grind (arith, nat_tests)

-- the bytes of an entry spell its fields
pub spells-entry_bytes : (c : Cqe) → FitsEntry c → Spells (entry_bytes c) c
spells-entry_bytes c f = record {
  dw0 = omega arith;
  dw1 = omega arith;
  head = omega arith;
  sqid = omega arith;
  status = subst (λ status. SpellsStatus status c) (sym (field-from_bytes 12 4 (status_dword c) (entry_bytes c) (spells-status_dword c f).fits refl)) (spells-status_dword c f);
}

-- a dword that spells the fields of an entry is its last dword
status_dword-spelled : (status : ℕ) (c : Cqe) → SpellsStatus status c → status_dword c ≡ status
status_dword-spelled status c s = grind (arith, nat_tests)

-- a part of the bytes, and what follows it
joined : (place width : ℕ) (bytes front back : List ℕ) → front ≡ take width (drop place bytes) → back ≡ drop (place + width) bytes → front ++ back ≡ drop place bytes
joined place width bytes front back e h = rw (e, h, ← drop-drop width place bytes) (take-append-drop width (drop place bytes))

-- a dword in two halves
halves : (bytes : List ℕ) → ((i : ℕ) → slice_index bytes i < 256) → (bits 15 0 (dword 2 bytes) ≡ field 8 2 bytes) × (bits 31 16 (dword 2 bytes) ≡ field 10 2 bytes)
halves bytes fits =
    let low : (i : ℕ) → slice_index (drop 8 bytes) i < 256 = λ i. rw get_or-drop (fits (8 + i)) in
    let third : slice_index (drop 10 bytes) 0 ≡ slice_index (drop 8 bytes) 2 = simp get_or-drop in
    let fourth : slice_index (drop 10 bytes) 1 ≡ slice_index (drop 8 bytes) 3 = simp get_or-drop in
    (omega (arith, low 0, low 1, low 2, low 3), omega (arith, low 0, low 1, low 2, low 3))

-- bytes that spell the fields are those of their entry
pub entry_bytes-spelled : (bytes : List ℕ) (c : Cqe) → length bytes ≡ 16 → ((i : ℕ) → slice_index bytes i < 256) → Spells bytes c → entry_bytes c ≡ bytes
entry_bytes-spelled bytes c len fits s =
    let half = halves bytes fits in
    let dw0 : little_bytes 4 c.dw0 ≡ take 4 (drop 0 bytes) =
    ap (little_bytes 4) (sym s.dw0) ∙ little_bytes-field 0 4 bytes (omega arith) fits in
    let dw1 : little_bytes 4 c.dw1 ≡ take 4 (drop 4 bytes) =
    ap (little_bytes 4) (sym s.dw1) ∙ little_bytes-field 4 4 bytes (omega arith) fits in
    let head : little_bytes 2 c.head ≡ take 2 (drop 8 bytes) =
    ap (little_bytes 2) (sym s.head ∙ half.0) ∙ little_bytes-field 8 2 bytes (omega arith) fits in
    let sqid : little_bytes 2 c.sqid ≡ take 2 (drop 10 bytes) =
    ap (little_bytes 2) (sym s.sqid ∙ half.1) ∙ little_bytes-field 10 2 bytes (omega arith) fits in
    let status : little_bytes 4 (status_dword c) ≡ take 4 (drop 12 bytes) =
    ap (little_bytes 4) (status_dword-spelled (dword 3 bytes) c s.status) ∙ little_bytes-field 12 4 bytes (omega arith) fits in
    let end : [] ≡ drop 16 bytes = sym (drop_all 16 bytes (omega arith)) in
    joined 0 4 bytes _ _ dw0 (joined 4 4 bytes _ _ dw1 (joined 8 2 bytes _ _ head (joined 10 2 bytes _ _ sqid (joined 12 4 bytes _ _ status end))))
