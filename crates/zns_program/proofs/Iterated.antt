-- What an iterator over a list has given, and what is left.
use Rattle.std.proofs.Common.{◌≡◌, ◌<◌, List, [], ◌∷◌, ◌++◌, length, get_or, ap, subst, refl, ◌∙◌, arith, length-append}
use Rattle.std.proofs.lemmas.List.{get_or_at}
use Rattle.std.specs.Prelude.{All}
use Rattle.std.specs.Iterator.{Yields}
use Rattle.std.specs.Vec.Iter.{into_iter_items, into_iter_steps}
use Rattle.std.specs.declared.vec.IntoIter.{IntoIter}

-- the elements are those that it has given, then those that are left
pub given_first : {X A : Type 0} (from : IntoIter X A) (given : List X) (now : IntoIter X A) → Yields into_iter_steps from given now → into_iter_items from ≡ given ++ into_iter_items now
given_first from [] now yields = ap into_iter_items yields
given_first from (x ∷ xs) now yields = yields.1.0 ∙ ap (λ ys. x ∷ ys) (given_first yields.0 xs now yields.2)

-- what holds of all holds of one of them
pub all_here : {X : Type 0} (P : X → Type 0) (all before : List X) (x : X) (rest : List X) → all ≡ before ++ x ∷ rest → All P all → P x
all_here P all before x rest whole is =
    let there : get_or all (length before) x ≡ x = ap (λ (xs : List _). get_or xs (length before) x) whole ∙ get_or_at before x rest x (length before) refl in
    let within : length before < length all = omega (arith, ap length whole, length-append before (x ∷ rest)) in
    subst P there (is (length before) x within)
