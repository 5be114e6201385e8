-- Reading bytes piece by piece from a source that tells them.
use Rattle.std.proofs.Common.{◌≡◌, ℕ, ◌<◌, List, [], ◌++◌, length, take, Result, Ok, Option, Some, None, sym, ap, ◌∙◌, arith, append_assoc, length-append}
use Rattle.std.proofs.lemmas.List.{drop_at}
use Rattle.std.specs.Io.KnownBytes.{Consumes}
use Rattle.zns_io.specs.Reading.{ReadsFront, GaveInTurn, none_read, one_read}
use Rattle.zns_io.specs.declared.failed.Failed.{Failed}

-- two pieces read one after another are one
pub Consumes-then : (a b c : Option (List ℕ)) (front more : List ℕ) → Consumes a b front → Consumes b c more → Consumes a c (front ++ more)
Consumes-then None b c front more p q = tt
Consumes-then (Some xs) None c front more p q = absurd p
Consumes-then (Some xs) (Some ys) None front more p q = absurd q
Consumes-then (Some xs) (Some ys) (Some zs) front more p q = p ∙ ap (λ (r : List ℕ). front ++ r) q ∙ sym (append_assoc front more zs)

-- the first bytes were read, as many as the count
pub ReadsFront-consumed : (a b : Option (List ℕ)) (front : List ℕ) (count : ℕ) → Consumes a b front → length front ≡ count → ReadsFront a b count
ReadsFront-consumed None b front count p e = tt
ReadsFront-consumed (Some xs) None front count p e = absurd p
ReadsFront-consumed (Some xs) (Some ys) front count p e =
    (omega (arith, e, ap length p, length-append front ys), ap Some (sym (rw p (drop_at front ys count e))))

-- nothing was read so far
pub gave_nothing : {S : Type 0} (step : S → List ℕ → Result ℕ Failed → List ℕ → S → Type 0) (first : S) (bytes : List ℕ) → bytes ≡ [] → GaveInTurn step first bytes first
gave_nothing step first bytes e = rw e none_read

-- one more read gave some bytes
pub gave_more : {S : Type 0} (step : S → List ℕ → Result ℕ Failed → List ℕ → S → Type 0) (first now next : S) (bytes more room out : List ℕ) (count : ℕ) →
    GaveInTurn step first bytes now → 0 < count → step now room (Ok count) out next → more ≡ bytes ++ take count out → GaveInTurn step first more next
gave_more step first now next bytes more room out count w some s e = rw e (one_read w some s)
