-- An input whose front was taken, while the rest still comes from a source.
use Rattle.std.proofs.Common.{◌≡◌, ℕ, ◌+◌, ◌<◌, ◌≤◌, List, [], ◌++◌, length, take, drop, Option, Some, None, refl, sym, ap, subst, ◌∙◌, arith}
use Rattle.std.proofs.lemmas.List.{append_assoc, take-append-drop, drop_at, length-append, length-take, drop-drop}
use Rattle.std.specs.Io.KnownBytes.{Consumes, IsAtEnd}
use Rattle.zns_io.specs.Faults.{Rose}
use Rattle.zns_io.specs.declared.read_err.ReadErr.{ReadErr}
use Rattle.zns_io.specs.declared.read_err.ReadErr.TheVariants as read_err
use Rattle.session_file.specs.Streams.{GoesOn}
use Rattle.zns_program.specs.declared.compare_err.CompareErr.{CompareErr}
use Rattle.zns_program.specs.declared.compare_err.CompareErr.TheVariants as compare_err
use Rattle.zns_program.specs.Differences.{first_difference, StandAt, DiffersFrom}
use Rattle.zns_program.specs.Tails.{TailBytes, IsIn, StaysIn, IsOver, ComeNext, ComeOthers, StopsBy}
use Rattle.zns_program.specs.Making.{compare_err_of}
use Rattle.zns_program.proofs.Comparisons.{stand_after, differs_later, differs_sooner, held_differs}

-- ---- the same input

pub stays_here : (left : Option (List ℕ)) (t : TailBytes) → StaysIn left left t t
stays_here left t = λ input is. is

pub stays_then : (left mid now : Option (List ℕ)) (a b c : TailBytes) → StaysIn left mid a b → StaysIn mid now b c → StaysIn left now a c
stays_then left mid now a b c first second = λ input is. second input (first input is)

-- one more piece was read
pub stays_read : (left now : Option (List ℕ)) (old new : TailBytes) → GoesOn left now old.held new.held → new.at ≡ old.at → StaysIn left now old new
stays_read left now old new more same = λ input is. record {
  front = is.front;
  long = is.long ∙ sym same;
  came = more (Some input) is.front is.came;
}

-- some bytes were taken
pub stays_taken : (left : Option (List ℕ)) (old new : TailBytes) (count : ℕ) → count ≤ length old.held → new.held ≡ drop count old.held → new.at ≡ old.at + count → StaysIn left left old new
stays_taken left old new count few held at = λ input is.
    let same : is.front ++ old.held ≡ (is.front ++ take count old.held) ++ new.held =
    ap (λ (b : List ℕ). is.front ++ b) (sym (take-append-drop count old.held)) ∙ sym (append_assoc is.front (take count old.held) (drop count old.held)) ∙ ap (λ (b : List ℕ). (is.front ++ take count old.held) ++ b) (sym held) in
    record {
      front = is.front ++ take count old.held;
      long = omega (arith, is.long, at, length-append is.front (take count old.held), length-take count old.held);
      came = subst (Consumes (Some input) left) same is.came;
    }

-- the rest of the input: the held bytes, and then what the source still gives
pub record HasLeft (input : List ℕ) (left : Option (List ℕ)) (t : TailBytes) : Type 0 where
  pub more : List ℕ
  pub whole : drop t.at input ≡ t.held ++ more
  pub long : length input ≡ t.at + length t.held + length more
  pub all : IsAtEnd left → more ≡ []

pub has_left : (input : List ℕ) (left : Option (List ℕ)) (t : TailBytes) → IsIn input left t → HasLeft input left t
has_left input None t is = absurd is.came
has_left input (Some told) t is = record {
  more = told;
  whole = ap (drop t.at) (is.came ∙ append_assoc is.front t.held told) ∙ drop_at is.front (t.held ++ told) t.at is.long;
  long = omega (arith, ap length is.came, length-append (is.front ++ t.held) told, length-append is.front t.held, is.long);
  all = λ end. end;
}

-- ---- what comes next

pub nothing_next : (left : Option (List ℕ)) (t : TailBytes) → ComeNext left t t []
nothing_next left t = record {
  at = omega arith;
  stand = λ input is. record { there = refl; end = omega arith; within = omega (arith, (has_left input left t is).long) };
}

pub next_same : (left : Option (List ℕ)) (old new : TailBytes) (xs ys : List ℕ) → xs ≡ ys → ComeNext left old new xs → ComeNext left old new ys
next_same left old new xs ys same next = subst (ComeNext left old new) same next

pub next_then : (left mid : Option (List ℕ)) (old between new : TailBytes) (xs ys : List ℕ) → StaysIn left mid old between → ComeNext left old between xs → ComeNext mid between new ys → ComeNext left old new (xs ++ ys)
next_then left mid old between new xs ys stays first second = record {
  at = omega (arith, first.at, second.at, length-append xs ys);
  stand = λ input is. stand_after input old.at between.at new.at xs ys (first.stand input is) (second.stand input (stays input is));
}

pub others_same : (left : Option (List ℕ)) (old : TailBytes) (xs ys : List ℕ) (offset : ℕ) → xs ≡ ys → ComeOthers left old xs offset → ComeOthers left old ys offset
others_same left old xs ys offset same others = let P : List ℕ → Type 0 = λ bytes. ComeOthers left old bytes offset in subst P same others

-- other bytes came in the first part
pub others_sooner : (left : Option (List ℕ)) (old : TailBytes) (xs ys : List ℕ) (offset : ℕ) → ComeOthers left old xs offset → ComeOthers left old (xs ++ ys) offset
others_sooner left old xs ys offset others = λ input is. differs_sooner input old.at xs ys offset (others input is)

pub others_later : (left mid : Option (List ℕ)) (old between : TailBytes) (xs ys : List ℕ) (offset : ℕ) → StaysIn left mid old between → ComeNext left old between xs → ComeOthers mid between ys offset → ComeOthers left old (xs ++ ys) offset
others_later left mid old between xs ys offset stays first others = λ input is.
    differs_later input old.at between.at xs ys offset (first.stand input is) (others input (stays input is))

-- ---- bytes that are held are compared

-- the bytes are at the front of the held bytes, and are taken
pub held_next : (left mid : Option (List ℕ)) (old filled new : TailBytes) (bytes : List ℕ) (end : ℕ) → StaysIn left mid old filled → filled.at ≡ old.at → StandAt filled.held 0 bytes end → new.held ≡ drop end filled.held → new.at ≡ filled.at + end → ComeNext left old new bytes
held_next left mid old filled new bytes end stays same stand held at = record {
  at = omega (arith, at, same, stand.end);
  stand = λ input is.
      let left : HasLeft input mid filled = has_left input mid filled (stays input is) in
      let rest : drop old.at input ≡ bytes ++ (drop end filled.held ++ left.more) =
      ap (λ (n : ℕ). drop n input) (sym same) ∙ left.whole ∙ ap (λ (b : List ℕ). b ++ left.more) stand.there ∙ append_assoc bytes (drop end filled.held) left.more in
      let after : drop new.at input ≡ drop end filled.held ++ left.more =
      ap (λ (n : ℕ). drop n input) (at ∙ ap (λ (n : ℕ). n + end) same) ∙ sym (drop-drop-after old.at end input) ∙ ap (drop end) rest ∙ drop_at bytes (drop end filled.held ++ left.more) end (omega (arith, stand.end)) in
      record {
        there = rest ∙ ap (λ (b : List ℕ). bytes ++ b) (sym after);
        end = omega (arith, at, same, stand.end);
        within = omega (arith, at, left.long, stand.within);
      };
}
  where
    drop-drop-after : (n k : ℕ) (xs : List ℕ) → drop k (drop n xs) ≡ drop (n + k) xs
    drop-drop-after n k xs = drop-drop k n xs ∙ ap (λ (m : ℕ). drop m xs) (omega arith)

-- other bytes are there, or the input ends
pub held_others : (left mid : Option (List ℕ)) (old filled : TailBytes) (bytes : List ℕ) (offset : ℕ) → StaysIn left mid old filled → filled.at ≡ old.at → DiffersFrom filled.held 0 bytes offset → (length filled.held < length bytes → IsAtEnd mid)
    → ComeOthers left old bytes (filled.at + offset)
held_others left mid old filled bytes offset stays same differs ends = λ input is after.
    let rest : HasLeft input mid filled = has_left input mid filled (stays input is) in
    ap (λ (n : ℕ). first_difference n (drop n input) (bytes ++ after)) (sym same)
    ∙ ap (λ (b : List ℕ). first_difference filled.at b (bytes ++ after)) rest.whole
    ∙ held_differs filled.at filled.held bytes rest.more offset differs (λ few. rest.all (ends few)) after

-- ---- errors

-- a count that rose from a later value rose from an earlier one
pub rose_from : (first mid now : ℕ) → first ≤ mid → Rose mid now → Rose first now
rose_from first mid now few rose = omega (arith, few, rose)

-- what is said of a difference may be replaced by what follows from it
pub stops_so : (first mid now : ℕ) (new : TailBytes) (P Q : ℕ → Type 0) (e : CompareErr) → first ≤ mid → ((offset : ℕ) → P offset → Q offset) → StopsBy mid now new P e → StopsBy first now new Q e
stops_so first mid now new P Q compare_err.NoMemory few so stops = tt
stops_so first mid now new P Q compare_err.Failed few so stops = rose_from first mid now few stops
stops_so first mid now new P Q compare_err.Over few so stops = stops
stops_so first mid now new P Q (compare_err.Differs offset) few so stops = so offset stops

-- an error of reading
pub stops_reading : (first now : ℕ) (new : TailBytes) (P : ℕ → Type 0) (e : ReadErr) → (e ≡ read_err.Over → IsOver new) → (e ≡ read_err.Failed → Rose first now) → StopsBy first now new P (compare_err_of e)
stops_reading first now new P read_err.NoMemory over fault = tt
stops_reading first now new P read_err.Failed over fault = fault refl
stops_reading first now new P read_err.Over over fault = over refl
