-- Where the queues stand.
use Rattle.std.proofs.Common.{◌≡◌, ◌≢◌, ℕ, zero, suc, ◌<◌, false, List, [], ◌∷◌, length, map, get_or, set, replicate, refl, ap, sym, arith, ⊎_elim}
use mathlib.Core.Option.{some, some-injective, some-ne-none}
use lib.ListN.{get_elem?}
use Rattle.atomic_table.proofs.Lists.{at_set}
use Rattle.zone_desk.specs.Passes.{is_given, NoneJoined}
use Rattle.zone_desk.specs.declared.sight.Standing.{Standing}
use Rattle.zone_desk.specs.declared.sight.Standing.TheVariants.{Free, Live, Joined}

pub free_from : (l : List Standing) (q : ℕ) → q < length l → get_or (map is_given l) q false ≡ false → get_elem? l q ≡ some Free
free_from [] q h e = absurd (omega arith)
free_from (Free ∷ l) zero h e = refl
free_from (Live ∷ l) zero h e = absurd (cc e)
free_from (Joined own seen ∷ l) zero h e = absurd (cc e)
free_from (x ∷ l) (suc q) h e = free_from l q (omega arith) e

pub none_given : (n : ℕ) → replicate n false ≡ map is_given (replicate n Free)
none_given zero = refl
none_given (suc n) = ap (λ l. false ∷ l) (none_given n)

pub length-free : (n : ℕ) → length (replicate n Free) ≡ n
length-free zero = refl
length-free (suc n) = ap suc (length-free n)

pub none-joined : (n : ℕ) → NoneJoined (replicate n Free)
none-joined zero q own seen e = some-ne-none (Joined own seen) (sym e)
none-joined (suc n) zero own seen e = absurd (cc (some-injective Free (Joined own seen) e))
none-joined (suc n) (suc q) own seen e = none-joined n q own seen e

pub none-joined-set : (l : List Standing) (q : ℕ) → NoneJoined l → NoneJoined (set l q Live)
none-joined-set l q none k own seen e =
    ⊎_elim (λ (t : (k ≡ q) × (Live ≡ Joined own seen)). absurd (cc (t.1))) (λ (t : (k ≢ q) × (get_elem? l k ≡ some (Joined own seen))). none k own seen t.1) (at_set l q k Live (Joined own seen) e)
