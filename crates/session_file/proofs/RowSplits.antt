-- Tables of rules that are joined, or that give other answers.
use Rattle.std.proofs.Common.{◌≡◌, Bool, true, false, cond, List, [], ◌∷◌, ◌++◌, map, Some, None, refl, ap}
use Rattle.std.proofs.lemmas.Option.{same_Some}
use Rattle.zns_types.specs.declared.field.GeomErr.{GeomErr}
use Rattle.zns_types.specs.Rows.{Row, when, first_holding}
use Rattle.session_file.specs.FileRules.{on_header, in_header}

-- if no rule of the joined table is broken, none of either part is
pub first_holding-parts : {A : Type 0} (rs more : List (Row A)) → first_holding (rs ++ more) ≡ None → (first_holding rs ≡ None) × (first_holding more ≡ None)
first_holding-parts [] more e = (refl, e)
first_holding-parts {A} (r ∷ rs) more e = go r.holds e (first_holding-parts rs more)
  where
    go : (b : Bool) → cond b (Some r.answer) (first_holding (rs ++ more)) ≡ None → (first_holding (rs ++ more) ≡ None → (first_holding rs ≡ None) × (first_holding more ≡ None)) → (cond b (Some r.answer) (first_holding rs) ≡ None) × (first_holding more ≡ None)
    go true e k = absurd cc
    go false e k = k e

-- if the rules give other answers, the first broken rule stays the same
pub first_holding-answers : {A B : Type 0} (f : A → B) (rs : List (Row A)) (a : A) → first_holding rs ≡ Some a → first_holding (map (λ (r : Row A). when r.holds (f r.answer)) rs) ≡ Some (f a)
first_holding-answers f [] a h = absurd cc
first_holding-answers {A} {B} f (r ∷ rs) a h = go r.holds h (first_holding-answers f rs a)
  where
    others : List (Row B)
    others = map (λ (x : Row A). when x.holds (f x.answer)) rs

    go : (b : Bool) → cond b (Some r.answer) (first_holding rs) ≡ Some a → (first_holding rs ≡ Some a → first_holding others ≡ Some (f a)) → cond b (Some (f r.answer)) (first_holding others) ≡ Some (f a)
    go true h k = ap (λ (x : A). Some (f x)) (same_Some r.answer a h)
    go false h k = k h

-- the first broken rule on drives is broken in the header
pub on_header-some : (rs : List (Row GeomErr)) (e : GeomErr) → first_holding rs ≡ Some e → first_holding (map on_header rs) ≡ Some (in_header e)
on_header-some rs e h = first_holding-answers in_header rs e h

-- if no rule on drives is broken, none is in the header
pub on_header-none : (rs : List (Row GeomErr)) → first_holding rs ≡ None → first_holding (map on_header rs) ≡ None
on_header-none [] h = refl
on_header-none (r ∷ rs) h = go r.holds h (on_header-none rs)
  where
    go : (b : Bool) → cond b (Some r.answer) (first_holding rs) ≡ None → (first_holding rs ≡ None → first_holding (map on_header rs) ≡ None) → cond b (Some (in_header r.answer)) (first_holding (map on_header rs)) ≡ None
    go true h k = absurd cc
    go false h k = k h
