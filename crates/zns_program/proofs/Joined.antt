-- An input whose front was read before the rest.
use Rattle.std.proofs.Common.{◌≡◌, ℕ, ◌+◌, ◌-◌, ◌^◌, ◌≤◌, List, [], ◌++◌, length, drop, Option, Some, None, Err, refl, sym, ap, ◌∙◌, arith}
use Rattle.std.proofs.lemmas.List.{append-nil, drop_at, drop-drop, length-append}
use Rattle.std.specs.Io.KnownBytes.{Consumes}
use Rattle.zns_io.specs.declared.read_err.ReadErr.TheVariants as errors
use Rattle.zns_io.specs.Reading.{ReadsAll, ReadsFrontUpTo, IsByLimit}

pub joined_all : (first left now : Option (List ℕ)) (front rest : List ℕ) → Consumes first left front → ReadsAll left now rest → ReadsAll first now (front ++ rest)
joined_all None left now front rest came read = tt
joined_all (Some told) None now front rest came read = absurd came
joined_all (Some told) (Some more) now front rest came read = (ap (λ (b : List ℕ). front ++ b) read.0 ∙ sym came, read.1)

-- reading all bytes reads a front of them
pub all_front : (left now : Option (List ℕ)) (bytes : List ℕ) (most : ℕ) → ReadsAll left now bytes → length bytes ≤ most → ReadsFrontUpTo left now most
all_front None now bytes most read few = (0, omega arith, tt)
all_front (Some told) now bytes most read few =
    let gone : drop (length bytes) told ≡ [] = ap (drop (length bytes)) (sym (append-nil told)) ∙ drop_at told [] (length bytes) (sym (ap length read.0)) in
    (length bytes, few, (omega (arith, ap length read.0), read.1 ∙ ap Some (sym gone)))

-- a front was read, and then more
pub front_then : (first left now : Option (List ℕ)) (front : List ℕ) (more most : ℕ) → Consumes first left front → ReadsFrontUpTo left now more → length front + more ≤ most → ReadsFrontUpTo first now most
front_then None left now front more most came read few = (0, omega arith, tt)
front_then (Some told) None now front more most came read few = absurd came
front_then (Some told) (Some rest) now front more most came read few =
    let count : ℕ = read.0 in
    let same : drop count rest ≡ drop (length front + count) told =
    sym (ap (drop (length front + count)) came ∙ sym (drop-drop count (length front) (front ++ rest)) ∙ ap (drop count) (drop_at front rest (length front) refl)) in
    (length front + count, omega (arith, few, read.1), (omega (arith, ap length came, length-append front rest, read.2.0), read.2.1 ∙ ap Some same))

-- too many bytes came after the front
pub joined_over : (first left : Option (List ℕ)) (front : List ℕ) → Consumes first left front → length front ≤ 2 ^ 29 → IsByLimit left (2 ^ 29 - length front) (Err errors.Over) → IsByLimit first (2 ^ 29) (Err errors.Over)
joined_over None left front came few over = tt
joined_over (Some told) None front came few over = absurd came
joined_over (Some told) (Some rest) front came few over = omega (arith, over, ap length came, length-append front rest)
