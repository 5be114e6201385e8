-- Writing bytes piece by piece to a sink that tells them.
use Rattle.std.proofs.Common.{◌≡◌, ℕ, ◌-◌, ◌<◌, List, [], ◌∷◌, ◌++◌, length, take, drop, Option, Some, None, Result, Ok, Err, refl, sym, ap, ◌∙◌, subst, arith, append_assoc, length-append, length-drop}
use Rattle.std.proofs.lemmas.List.{take-append-drop, take_all, take_at}
use Rattle.zns_io.specs.Told.{Gains}
use Rattle.zns_io.specs.Writing.{GainsPrefix, OffersAll, all_written, failed, written}
use Rattle.zns_io.specs.declared.failed.Failed.{Failed}

-- two pieces gained one after another are one
pub Gains-then : (a b c : Option (List ℕ)) (front more : List ℕ) → Gains a b front → Gains b c more → Gains a c (front ++ more)
Gains-then a b None front more p q = tt
Gains-then a None (Some zs) front more p q = absurd q
Gains-then None (Some ys) (Some zs) front more p q = absurd p
Gains-then (Some xs) (Some ys) (Some zs) front more p q = q ∙ ap (λ (r : List ℕ). r ++ more) p ∙ append_assoc xs front more

-- all of `bytes` but `rest`, which is still left, were written
pub record WrittenUpTo (before now : Option (List ℕ)) (bytes rest : List ℕ) : Type 0 where
  pub front : List ℕ
  pub whole : bytes ≡ front ++ rest
  pub gained : Gains before now front

-- one more piece of what is left
pub written_then : (a b c : Option (List ℕ)) (bytes rest : List ℕ) (count : ℕ) → WrittenUpTo a b bytes rest → Gains b c (take count rest) → WrittenUpTo a c bytes (take (length rest - count) (drop count rest))
written_then a b c bytes rest count w q = record {
  front = w.front ++ take count rest;
  whole =
      rw (take_all (length rest - count) (drop count rest) (omega (arith, length-drop count rest)))
      (w.whole ∙ ap (λ (r : List ℕ). w.front ++ r) (sym (take-append-drop count rest)) ∙ sym (append_assoc w.front (take count rest) (drop count rest)));
  gained = Gains-then a b c w.front (take count rest) w.gained q;
}

-- a failure while something is left leaves only a front of the bytes written
pub written_prefix : (a b c : Option (List ℕ)) (bytes rest : List ℕ) → WrittenUpTo a b bytes rest → c ≡ b → 0 < length rest → GainsPrefix a c bytes
written_prefix a b c bytes rest w same some = rw same (
  length w.front,
  omega (arith, some, ap length w.whole, length-append w.front rest),
  let P : List ℕ → Type 0 = λ f. Gains a b f in subst P (sym (rw w.whole (take_at w.front rest (length w.front) refl))) w.gained,
)

-- all before the rest was offered: however the rest ends, so does the whole
abbrev pub OfferedUpTo : {K : Type 0} → (K → List ℕ → Result ℕ Failed → K → Type 0) → K → K → List ℕ → List ℕ → Type 0
OfferedUpTo {K} step first now bytes rest = (answer : Result (Unit {0}) Failed) (last : K) → OffersAll step now rest answer last → OffersAll step first bytes answer last

module _ {K : Type 0} (step : K → List ℕ → Result ℕ Failed → K → Type 0) (first now : K) (bytes : List ℕ) where
  -- nothing is left
  pub offered_all : (rest : List ℕ) → OfferedUpTo step first now bytes rest → length rest ≡ 0 → OffersAll step first bytes (Ok tt) now
  offered_all [] w e = w (Ok tt) now all_written
  offered_all (b ∷ rest) w e = absurd cc

  -- the write of the rest fails
  pub offered_failed : (rest : List ℕ) (last : K) (e : Failed) (answer : Result (Unit {0}) Failed) →
      OfferedUpTo step first now bytes rest → 0 < length rest → step now rest (Err e) last → answer ≡ Err e → OffersAll step first bytes answer last
  offered_failed rest last e answer w some s same = rw same (w (Err e) last (failed some s))

  -- one more piece of what is left
  pub offered_then : (rest : List ℕ) (next : K) (count : ℕ) →
      OfferedUpTo step first now bytes rest → 0 < length rest → step now rest (Ok count) next → OfferedUpTo step first next bytes (take (length rest - count) (drop count rest))
  offered_then rest next count w some s =
      rw (take_all (length rest - count) (drop count rest) (omega (arith, length-drop count rest)))
      (λ answer last more. w answer last (written some s more))
