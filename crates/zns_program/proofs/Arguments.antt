-- The arguments that remain once the first was taken.
use Rattle.std.proofs.Common.{◌≡◌, ℕ, ◌<◌, ◌↔◌, List, [], ◌∷◌, ◌++◌, length, drop, ◌∙◌, ap, refl, IsSome, arith}
use Rattle.std.specs.Iterator.{Yields}
use Rattle.std.specs.Option.{option_to_list}
use Rattle.std.specs.Vec.Iter.{into_iter_items, into_iter_steps}
use Rattle.std.specs.declared.option.Option.{Option}
use Rattle.std.specs.declared.option.Option.TheVariants.{Some, None}
use Rattle.std.specs.declared.vec.IntoIter.{IntoIter}

-- a list of `count` elements without its first one, which was taken if there was one
pub without_first : {X : Type 0} (first : Option X) (all rest : List X) (count : ℕ) → all ≡ option_to_list first ++ rest → count ≡ length all → (IsSome first ↔ (0 < count)) → drop 1 all ≡ rest
without_first None [] rest count e len some = e
without_first None (x ∷ xs) rest count e len some = grind (arith, e, len, some)
without_first (Some x) all rest count e len some = ap (drop 1) e

-- an iterator has given all its elements once none is left
pub all_given : {X A : Type 0} (from : IntoIter X A) (given : List X) (now : IntoIter X A) → Yields into_iter_steps from given now → length (into_iter_items now) ≡ 0 → into_iter_items from ≡ given
all_given from [] now yields none = ap into_iter_items yields ∙ nothing (into_iter_items now) none
  where
    nothing : {X : Type 0} (xs : List X) → length xs ≡ 0 → xs ≡ []
    nothing [] e = refl
    nothing (x ∷ xs) e = absurd (omega (arith, e))
all_given from (x ∷ xs) now yields none = yields.1.0 ∙ ap (λ ys. x ∷ ys) (all_given yields.0 xs now yields.2 none)
