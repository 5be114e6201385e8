-- How an input is compared with bytes, one part after another.
use Rattle.std.proofs.Common.{◌≡◌, ◌≢◌, ℕ, suc, ◌+◌, ◌-◌, ◌<◌, ◌≤◌, Bool, true, false, cond, List, [], ◌∷◌, ◌++◌, length, take, drop, get_or, Some, None, refl, sym, ap, subst, ◌∙◌, ⊎_elim, arith}
use Rattle.std.proofs.lemmas.Bool.{eq-eqb, cases_lt}
use Rattle.std.proofs.lemmas.Bool.Decides.{nat_tests, Decides-eqb}
use Rattle.std.proofs.lemmas.Slice.Eq.{starts_is}
use Rattle.std.proofs.lemmas.List.{append-nil, append_assoc, length-append, length-drop, drop-drop, drop_all, drop_more, take_more, take-append-drop, take_all}
use Rattle.std.specs.Prelude.{◌==◌, Result, Ok, Err, IfOk, IfErr}
use Rattle.std.specs.List.{flat_map, starts_with}
use Rattle.zns_program.specs.declared.comparing.Difference.{Difference}
use Rattle.zns_program.specs.Differences.{first_difference, StandAt, DiffersFrom, IsDifference}

-- ---- first differences

-- a common front of two lists can be skipped
pub first_difference-append : (at : ℕ) (xs ys zs : List ℕ) → first_difference at (xs ++ ys) (xs ++ zs) ≡ first_difference (at + length xs) ys zs
unfolding first_difference
first_difference-append at [] ys zs = ap (λ n. first_difference n ys zs) (omega arith)
first_difference-append at (x ∷ xs) ys zs =
    rw (eq-eqb x x refl) (first_difference-append (at + 1) xs ys zs ∙ ap (λ n. first_difference n ys zs) (omega arith))

-- a list doesn't differ from itself
pub first_difference-same : (at : ℕ) (xs : List ℕ) → first_difference at xs xs ≡ None
unfolding first_difference
first_difference-same at [] = refl
first_difference-same at (x ∷ xs) = rw (eq-eqb x x refl) (first_difference-same (at + 1) xs)

-- the input ends here, or has another byte
differs_here : (input : List ℕ) (at byte : ℕ) (more : List ℕ) → (at < length input → get_or input at 0 ≢ byte) → first_difference at (drop at input) (byte ∷ more) ≡ Some at
unfolding first_difference
differs_here input at byte more other = ⊎_elim (λ h. there h) (λ h. rw (drop_all at input h) refl) (cases_lt at (length input))
  where
    there : at < length input → first_difference at (drop at input) (byte ∷ more) ≡ Some at
    there h =
        let unlike : (get_or input at 0 == byte) ≡ false = grind (arith, nat_tests, other h) in
        rw (drop_more input at 0 h, unlike) refl

-- the input goes on, and the bytes end
pub differs_past : (input : List ℕ) (at : ℕ) → at < length input → first_difference at (drop at input) [] ≡ Some at
unfolding first_difference
differs_past input at h = rw (drop_more input at 0 h) refl

-- ---- parts

pub nothing_stands : (input : List ℕ) (at : ℕ) → at ≤ length input → StandAt input at [] at
nothing_stands input at h = record { there = refl; end = omega arith; within = h }

pub stand_after : (input : List ℕ) (at mid end : ℕ) (xs ys : List ℕ) → StandAt input at xs mid → StandAt input mid ys end → StandAt input at (xs ++ ys) end
stand_after input at mid end xs ys first second = record {
  there = first.there ∙ ap (λ (rest : List ℕ). xs ++ rest) second.there ∙ sym (append_assoc xs ys (drop end input));
  end = omega (arith, first.end, second.end, length-append xs ys);
  within = second.within;
}

-- the input differs in a later part
pub differs_later : (input : List ℕ) (at mid : ℕ) (xs ys : List ℕ) (offset : ℕ) → StandAt input at xs mid → DiffersFrom input mid ys offset → DiffersFrom input at (xs ++ ys) offset
differs_later input at mid xs ys offset first second = λ after.
    ap (λ (rest : List ℕ). first_difference at rest ((xs ++ ys) ++ after)) first.there
    ∙ ap (λ (bytes : List ℕ). first_difference at (xs ++ drop mid input) bytes) (append_assoc xs ys after)
    ∙ first_difference-append at xs (drop mid input) (ys ++ after)
    ∙ ap (λ n. first_difference n (drop mid input) (ys ++ after)) (sym first.end)
    ∙ second after

-- the input differs in an earlier part
pub differs_sooner : (input : List ℕ) (at : ℕ) (xs ys : List ℕ) (offset : ℕ) → DiffersFrom input at xs offset → DiffersFrom input at (xs ++ ys) offset
differs_sooner input at xs ys offset first = λ after.
    ap (λ (bytes : List ℕ). first_difference at (drop at input) bytes) (append_assoc xs ys after) ∙ first (ys ++ after)

-- the input differs in bytes with nothing after them
pub differs_alone : (input : List ℕ) (at : ℕ) (xs : List ℕ) (offset : ℕ) → DiffersFrom input at xs offset → IsDifference input at xs offset
differs_alone input at xs offset all = ap (λ (bytes : List ℕ). first_difference at (drop at input) bytes) (sym (append-nil xs)) ∙ all []

-- the input goes on after all parts
pub goes_on : (input : List ℕ) (at end : ℕ) (xs : List ℕ) → StandAt input at xs end → end < length input → first_difference at (drop at input) xs ≡ Some end
goes_on input at end xs stand h =
    ap (λ (rest : List ℕ). first_difference at rest xs) stand.there
    ∙ ap (λ (bytes : List ℕ). first_difference at (xs ++ drop end input) bytes) (sym (append-nil xs))
    ∙ first_difference-append at xs (drop end input) []
    ∙ ap (λ n. first_difference n (drop end input) []) (sym stand.end)
    ∙ differs_past input end h

-- the input ends after all parts
pub ends_there : (input : List ℕ) (at end : ℕ) (xs : List ℕ) → StandAt input at xs end → length input ≤ end → drop at input ≡ xs
ends_there input at end xs stand h = stand.there ∙ ap (λ (rest : List ℕ). xs ++ rest) (drop_all end input h) ∙ append-nil xs

-- ---- the same bytes, and answers

pub stand_same : (input : List ℕ) (from to : ℕ) (xs ys : List ℕ) → xs ≡ ys → StandAt input from xs to → StandAt input from ys to
stand_same input from to xs ys same stand = let P : List ℕ → Type 0 = λ bytes. StandAt input from bytes to in subst P same stand

pub differs_same : (input : List ℕ) (from : ℕ) (xs ys : List ℕ) (offset : ℕ) → xs ≡ ys → DiffersFrom input from xs offset → DiffersFrom input from ys offset
differs_same input from xs ys offset same differs = let P : List ℕ → Type 0 = λ bytes. DiffersFrom input from bytes offset in subst P same differs

pub answer_stands : (r : Result ℕ Difference) (input : List ℕ) (from mid : ℕ) (xs ys : List ℕ) → StandAt input from xs mid → IfOk r (StandAt input mid ys) → IfOk r (StandAt input from (xs ++ ys))
answer_stands (Ok end) input from mid xs ys first second = stand_after input from mid end xs ys first second
answer_stands (Err e) input from mid xs ys first second = second

pub answer_differs : (r : Result ℕ Difference) (input : List ℕ) (from mid : ℕ) (xs ys : List ℕ) → StandAt input from xs mid → IfErr r (λ d. DiffersFrom input mid ys d.offset) → IfErr r (λ d. DiffersFrom input from (xs ++ ys) d.offset)
answer_differs (Ok end) input from mid xs ys first second = second
answer_differs (Err e) input from mid xs ys first second = differs_later input from mid xs ys e.offset first second

-- ---- bytes that are held of a longer input

-- a first difference is at most at the end of the first list
difference-within : (at : ℕ) (xs ys : List ℕ) (offset : ℕ) → first_difference at xs ys ≡ Some offset → offset ≤ at + length xs
unfolding first_difference
difference-within at [] [] offset e = absurd cc
difference-within at [] (y ∷ ys) offset e = let same : at ≡ offset = cc in omega (arith, same)
difference-within at (x ∷ xs) [] offset e = let same : at ≡ offset = cc in omega (arith, same)
difference-within at (x ∷ xs) (y ∷ ys) offset e = by_byte (x == y) (λ h. difference-within (at + 1) xs ys offset h) e
  where
    by_byte : (b : Bool) → (first_difference (at + 1) xs ys ≡ Some offset → offset ≤ at + 1 + length xs) → cond b (first_difference (at + 1) xs ys) (Some at) ≡ Some offset → offset ≤ at + suc (length xs)
    by_byte true later e = omega (arith, later e)
    by_byte false later e = let same : at ≡ offset = cc in omega (arith, same)

pub differs-within : (held bytes : List ℕ) (offset : ℕ) → DiffersFrom held 0 bytes offset → offset ≤ length held
differs-within held bytes offset differs = omega (arith, difference-within 0 held (bytes ++ []) offset (differs []))

-- the same with places counted from elsewhere
difference-shift : (from at : ℕ) (xs ys : List ℕ) (offset : ℕ) → first_difference at xs ys ≡ Some offset → first_difference (from + at) xs ys ≡ Some (from + offset)
unfolding first_difference
difference-shift from at [] [] offset e = absurd cc
difference-shift from at [] (y ∷ ys) offset e = let same : at ≡ offset = cc in ap (λ n. Some (from + n)) same
difference-shift from at (x ∷ xs) [] offset e = let same : at ≡ offset = cc in ap (λ n. Some (from + n)) same
difference-shift from at (x ∷ xs) (y ∷ ys) offset e = by_byte (x == y) (λ h. difference-shift from (at + 1) xs ys offset h) e
  where
    by_byte : (b : Bool) → (first_difference (at + 1) xs ys ≡ Some offset → first_difference (from + (at + 1)) xs ys ≡ Some (from + offset)) → cond b (first_difference (at + 1) xs ys) (Some at) ≡ Some offset
        → cond b (first_difference (from + at + 1) xs ys) (Some (from + at)) ≡ Some (from + offset)
    by_byte true later e = ap (λ n. first_difference n xs ys) (omega arith) ∙ later e
    by_byte false later e = let same : at ≡ offset = cc in ap (λ n. Some (from + n)) same

-- where the held bytes differ from these, so does the longer input
difference-held : (at : ℕ) (held bytes more after : List ℕ) (offset : ℕ) → ((rest : List ℕ) → first_difference at held (bytes ++ rest) ≡ Some offset) → (length held < length bytes → more ≡ []) → first_difference at (held ++ more) (bytes ++ after) ≡ Some offset
unfolding first_difference
difference-held at held [] more after offset differs ends =
    let none : None ≡ Some offset = sym (first_difference-same at held) ∙ differs held in absurd cc
difference-held at [] (y ∷ bytes) more after offset differs ends =
    let none : more ≡ [] = ends (omega arith) in
    rw none (differs after)
difference-held at (x ∷ held) (y ∷ bytes) more after offset differs ends = by_byte (x == y) differs (λ h few. difference-held (at + 1) held bytes more after offset h few)
  where
    by_byte : (b : Bool) → ((rest : List ℕ) → cond b (first_difference (at + 1) held (bytes ++ rest)) (Some at) ≡ Some offset)
        → (((rest : List ℕ) → first_difference (at + 1) held (bytes ++ rest) ≡ Some offset) → (length held < length bytes → more ≡ []) → first_difference (at + 1) (held ++ more) (bytes ++ after) ≡ Some offset)
        → cond b (first_difference (at + 1) (held ++ more) (bytes ++ after)) (Some at) ≡ Some offset
    by_byte true differs later = later differs (λ few. ends (omega arith))
    by_byte false differs later = differs after

pub held_differs : (at : ℕ) (held bytes more : List ℕ) (offset : ℕ) → DiffersFrom held 0 bytes offset → (length held < length bytes → more ≡ []) → (after : List ℕ) → first_difference at (held ++ more) (bytes ++ after) ≡ Some (at + offset)
held_differs at held bytes more offset differs ends after =
    ap (λ n. first_difference n (held ++ more) (bytes ++ after)) (omega arith) ∙ difference-shift at 0 (held ++ more) (bytes ++ after) offset (difference-held 0 held bytes more after offset differs ends)

-- ---- byte by byte

pub bytes_stand : (input xs : List ℕ) (from at i : ℕ) → length xs ≤ i → StandAt input from (take i xs) at → StandAt input from xs at
bytes_stand input xs from at i all stand = stand_same input from at (take i xs) xs (take_all i xs all) stand

-- the input begins with these bytes from there on
pub begins_stand : (input : List ℕ) (at : ℕ) (bytes : List ℕ) (says : Bool) → at ≤ length input → says ≡ starts_with (λ x y. x == y) (take (length input - at) (drop at input)) bytes → says ≡ true → StandAt input at bytes (at + length bytes)
begins_stand input at bytes says within is so =
    let rest : take (length input - at) (drop at input) ≡ drop at input = take_all (length input - at) (drop at input) (omega (arith, length-drop at input)) in
    let front : drop at input ≡ bytes ++ drop (length bytes) (drop at input) =
    (starts_is Decides-eqb (drop at input) bytes says (is ∙ ap (λ (s : List ℕ). starts_with (λ x y. x == y) s bytes) rest)).0 so in
    record {
      there = front ∙ ap (λ (b : List ℕ). bytes ++ b) (drop-drop (length bytes) at input);
      end = omega arith;
      within = omega (arith, within, ap length front, length-append bytes (drop (length bytes) (drop at input)), length-drop at input);
    }

pub byte_stands : (input made : List ℕ) (from at i : ℕ) → at < length input → i < length made → get_or input at 0 ≡ get_or made i 0 → StandAt input from (take i made) at → StandAt input from (take (i + 1) made) (at + 1)
byte_stands input made from at i within few same stand =
    let one : StandAt input at (get_or made i 0 ∷ []) (at + 1) = record {
      there = drop_more input at 0 within ∙ ap (λ byte. byte ∷ drop (at + 1) input) same;
      end = omega arith;
      within = omega arith;
    } in
    rw (take_more made i 0 few) (stand_after input from at (at + 1) (take i made) (get_or made i 0 ∷ []) stand one)

pub byte_differs : (input made : List ℕ) (from at i : ℕ) → i < length made → (at < length input → get_or input at 0 ≢ get_or made i 0) → StandAt input from (take i made) at → DiffersFrom input from made at
byte_differs input made from at i few other stand after =
    let rest : List ℕ = drop (i + 1) made ++ after in
    let here : DiffersFrom input at (get_or made i 0 ∷ drop (i + 1) made) at = λ more. differs_here input at (get_or made i 0) (drop (i + 1) made ++ more) other in
    let whole : made ≡ take i made ++ get_or made i 0 ∷ drop (i + 1) made = sym (take-append-drop i made) ∙ ap (λ (tail : List ℕ). take i made ++ tail) (drop_more made i 0 few) in
    ap (λ (bytes : List ℕ). first_difference from (drop from input) (bytes ++ after)) whole
    ∙ differs_later input from at (take i made) (get_or made i 0 ∷ drop (i + 1) made) at stand here after

-- ---- item by item

pub items_stand : {X : Type 0} (f : X → List ℕ) (input : List ℕ) (xs : List X) (from at i : ℕ) → length xs ≤ i → StandAt input from (flat_map f (take i xs)) at → StandAt input from (flat_map f xs) at
items_stand f input xs from at i all stand = stand_same input from at (flat_map f (take i xs)) (flat_map f xs) (ap (flat_map f) (take_all i xs all)) stand

flat_map-append : {X : Type 0} (f : X → List ℕ) (xs ys : List X) → flat_map f (xs ++ ys) ≡ flat_map f xs ++ flat_map f ys
flat_map-append f [] ys = refl
flat_map-append f (x ∷ xs) ys = ap (λ (tail : List ℕ). f x ++ tail) (flat_map-append f xs ys) ∙ sym (append_assoc (f x) (flat_map f xs) (flat_map f ys))

pub item_stands : {X : Type 0} (f : X → List ℕ) (input : List ℕ) (xs : List X) (from at end i : ℕ) (d : X) → i < length xs → StandAt input from (flat_map f (take i xs)) at → StandAt input at (f (get_or xs i d)) end
    → StandAt input from (flat_map f (take (i + 1) xs)) end
item_stands f input xs from at end i d few before here =
    let x = get_or xs i d in
    let more : flat_map f (take (i + 1) xs) ≡ flat_map f (take i xs) ++ f x =
    ap (flat_map f) (take_more xs i d few) ∙ flat_map-append f (take i xs) (x ∷ []) ∙ ap (λ (tail : List ℕ). flat_map f (take i xs) ++ tail) (append-nil (f x)) in
    rw more (stand_after input from at end (flat_map f (take i xs)) (f x) before here)

pub item_differs : {X : Type 0} (f : X → List ℕ) (input : List ℕ) (xs : List X) (from at i : ℕ) (d : X) (offset : ℕ) → i < length xs → StandAt input from (flat_map f (take i xs)) at → DiffersFrom input at (f (get_or xs i d)) offset
    → DiffersFrom input from (flat_map f xs) offset
item_differs f input xs from at i d offset few before here =
    let x = get_or xs i d in
    let whole : flat_map f xs ≡ flat_map f (take i xs) ++ (f x ++ flat_map f (drop (i + 1) xs)) =
    ap (flat_map f) (sym (take-append-drop i xs) ∙ ap (λ (tail : List _). take i xs ++ tail) (drop_more xs i d few)) ∙ flat_map-append f (take i xs) (x ∷ drop (i + 1) xs) in
    rw whole (differs_later input from at (flat_map f (take i xs)) (f x ++ flat_map f (drop (i + 1) xs)) offset before (differs_sooner input at (f x) (flat_map f (drop (i + 1) xs)) offset here))
