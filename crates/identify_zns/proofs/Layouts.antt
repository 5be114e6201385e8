-- Fields written into zeros, in order, make the page.
use Rattle.std.proofs.Common.{◌≡◌, ℕ, ◌+◌, ◌-◌, ◌≤◌, List, [], ◌∷◌, ◌++◌, length, take, drop, refl, sym, ap, subst, ◌∙◌, arith, length-append}
use Rattle.std.specs.Prelude.{replicate}
use Rattle.std.proofs.Math.Seq.{take-append-add}
use Rattle.std.proofs.lemmas.List.{append_assoc, length-replicate, take-replicate, drop-replicate, drop-drop, drop_at}
use Rattle.identify_zns.specs.Layout.{PageField, page, page_from, overwritten}

-- bytes with these fields written, one after another
abbrev pub written : List ℕ → List PageField → List ℕ
written bytes [] = bytes
written bytes (f ∷ fs) = written (overwritten bytes f.place f.bytes) fs

-- the fields stand in order, from a place on and within a page
abbrev pub AreLaid : ℕ → List PageField → Type 0
AreLaid here [] = Unit {0}
AreLaid here (f ∷ fs) = (here ≤ f.place) × (f.place + length f.bytes ≤ 4096) × AreLaid (f.place + length f.bytes) fs

take_past : (front back : List ℕ) (place : ℕ) → length front ≤ place → take place (front ++ back) ≡ front ++ take (place - length front) back
take_past front back place le =
    let split : place ≡ length front + (place - length front) = omega arith in
    ap (λ n. take n (front ++ back)) split ∙ take-append-add front back (place - length front)

drop_past : (front back : List ℕ) (place : ℕ) → length front ≤ place → drop place (front ++ back) ≡ drop (place - length front) back
drop_past front back place le =
    let split : place ≡ length front + (place - length front) = omega arith in
    ap (λ n. drop n (front ++ back)) split ∙ sym (drop-drop (place - length front) (length front) (front ++ back)) ∙ ap (drop (place - length front)) (drop_at front back (length front) refl)

-- one field, written into the zeros after what stands there
overwritten-zeros : (front bytes : List ℕ) (here place : ℕ) → length front ≡ here → here ≤ place → place + length bytes ≤ 4096
    → overwritten (front ++ replicate (4096 - here) 0) place bytes ≡ (front ++ (replicate (place - here) 0 ++ bytes)) ++ replicate (4096 - (place + length bytes)) 0
unfolding overwritten
overwritten-zeros front bytes here place len order within =
    let zeros : List ℕ = replicate (4096 - here) 0 in
    let before : take place (front ++ zeros) ≡ front ++ replicate (place - here) 0 =
    take_past front zeros place (omega arith) ∙ ap (λ n. front ++ take (place - n) zeros) len ∙ ap (λ (xs : List ℕ). front ++ xs) (take-replicate (place - here) (4096 - here) 0 (omega arith)) in
    let after : drop (place + length bytes) (front ++ zeros) ≡ replicate (4096 - (place + length bytes)) 0 =
    drop_past front zeros (place + length bytes) (omega arith)
    ∙ drop-replicate (place + length bytes - length front) (4096 - here) 0
    ∙ ap (λ n. replicate n 0) (omega arith) in
    rw (before, after) (simp append_assoc)

pub written_from : (front : List ℕ) (here : ℕ) (fs : List PageField) → length front ≡ here → AreLaid here fs → written (front ++ replicate (4096 - here) 0) fs ≡ front ++ page_from here fs
written_from front here [] len laid = refl
written_from front here (f ∷ fs) len laid =
    let next = front ++ (replicate (f.place - here) 0 ++ f.bytes) in
    let next_len : length next ≡ f.place + length f.bytes = simp (length-append, length-replicate) (omega (arith, laid.0)) in
    ap (λ (bytes : List ℕ). written bytes fs) (overwritten-zeros front f.bytes here f.place len laid.0 laid.1)
    ∙ written_from next (f.place + length f.bytes) fs next_len laid.2
    ∙ simp append_assoc

-- all fields, written into zeros
pub written-page : (fs : List PageField) → AreLaid 0 fs → written (replicate 4096 0) fs ≡ page fs
unfolding page
written-page fs laid = written_from [] 0 fs refl laid

-- a field stands at its place, with more after it
pub record StandsIn (bytes : List ℕ) (f : PageField) : Type 0 where
  pub rest : List ℕ
  pub is : drop f.place bytes ≡ f.bytes ++ rest

-- each field stands at its place
abbrev pub Stand : List ℕ → List PageField → Type 0
Stand bytes [] = Unit {0}
Stand bytes (f ∷ fs) = StandsIn bytes f × Stand bytes fs

stand_from : (front : List ℕ) (here : ℕ) (fs : List PageField) → length front ≡ here → AreLaid here fs → Stand (front ++ page_from here fs) fs
stand_from front here [] len laid = tt
stand_from front here (f ∷ fs) len laid =
    let zeros : List ℕ = replicate (f.place - here) 0 in
    let rest : List ℕ = page_from (f.place + length f.bytes) fs in
    let next : List ℕ = front ++ (zeros ++ f.bytes) in
    let next_len : length next ≡ f.place + length f.bytes = simp (length-append, length-replicate) (omega (arith, laid.0)) in
    let zeros_len : length zeros ≡ f.place - length front = length-replicate (f.place - here) 0 ∙ omega arith in
    let first : drop f.place (front ++ (zeros ++ (f.bytes ++ rest))) ≡ f.bytes ++ rest = drop_past front (zeros ++ (f.bytes ++ rest)) f.place (omega (arith, laid.0)) ∙ drop_at zeros (f.bytes ++ rest) (f.place - length front) zeros_len in
    let others : Stand (next ++ rest) fs = stand_from next (f.place + length f.bytes) fs next_len laid.2 in
    let same : next ++ rest ≡ front ++ (zeros ++ (f.bytes ++ rest)) = simp append_assoc in
    let stands : StandsIn (front ++ (zeros ++ (f.bytes ++ rest))) f = record { rest = rest; is = first } in
    (stands, subst (λ (bytes : List ℕ). Stand bytes fs) same others)

-- the fields of a page stand at their places
pub stand-page : (fs : List PageField) → AreLaid 0 fs → Stand (page fs) fs
unfolding page
stand-page fs laid = stand_from [] 0 fs refl laid
