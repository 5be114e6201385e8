-- What follows from which row of a table holds first.
use Rattle.std.proofs.Common.{◌≡◌, Bool, true, false, cond, List, [], ◌∷◌, ◌++◌, Option, Some, None, refl, ap}
use Rattle.zns_types.specs.Rows.{Row, first_holding}

-- if the first rows answer, that is the answer
pub first_holding-append_some : {A : Type 0} (rs more : List (Row A)) (a : A) → first_holding rs ≡ Some a → first_holding (rs ++ more) ≡ Some a
first_holding-append_some [] more a e = absurd cc
first_holding-append_some {A} (r ∷ rs) more a e = go r.holds e (first_holding-append_some rs more a)
  where
    go : (b : Bool) → cond b (Some r.answer) (first_holding rs) ≡ Some a → (first_holding rs ≡ Some a → first_holding (rs ++ more) ≡ Some a) → cond b (Some r.answer) (first_holding (rs ++ more)) ≡ Some a
    go true e k = e
    go false e k = k e

-- if they don't, the other rows answer
pub first_holding-append_none : {A : Type 0} (rs more : List (Row A)) → first_holding rs ≡ None → first_holding (rs ++ more) ≡ first_holding more
first_holding-append_none [] more e = refl
first_holding-append_none {A} (r ∷ rs) more e = go r.holds e (first_holding-append_none rs more)
  where
    go : (b : Bool) → cond b (Some r.answer) (first_holding rs) ≡ None → (first_holding rs ≡ None → first_holding (rs ++ more) ≡ first_holding more) → cond b (Some r.answer) (first_holding (rs ++ more)) ≡ first_holding more
    go true e k = absurd cc
    go false e k = k e

-- rows of which none holds answer nothing
pub first_holding-append_idle : {A : Type 0} (rs more : List (Row A)) → first_holding more ≡ None → first_holding (rs ++ more) ≡ first_holding rs
first_holding-append_idle [] more e = e
first_holding-append_idle {A} (r ∷ rs) more e = ap (λ (o : Option A). cond r.holds (Some r.answer) o) (first_holding-append_idle rs more e)

-- each row's condition fails
abbrev pub NoneHolds : {A : Type 0} → List (Row A) → Type 0
NoneHolds [] = Unit {0}
NoneHolds (r ∷ rs) = (r.holds ≡ false) × NoneHolds rs

first_fails : {A : Type 0} (b : Bool) (a : A) (rest : Option A) → cond b (Some a) rest ≡ None → (b ≡ false) × (rest ≡ None)
first_fails true a rest e = absurd cc
first_fails false a rest e = (refl, e)

-- if no row answers, no condition holds
pub none_holds : {A : Type 0} (rs : List (Row A)) → first_holding rs ≡ None → NoneHolds rs
none_holds [] e = tt
none_holds (r ∷ rs) e = let h = first_fails r.holds r.answer (first_holding rs) e in (h.0, none_holds rs h.1)

-- if no condition holds, no row answers
pub none_answers : {A : Type 0} (rs : List (Row A)) → NoneHolds rs → first_holding rs ≡ None
none_answers [] h = refl
none_answers (r ∷ rs) h = rw h.0 (none_answers rs h.1)
