-- What stays true of the views when one changes or is added.
use Rattle.std.proofs.Common.{◌≡◌, ◌≢◌, ℕ, zero, suc, ◌+◌, ◌<◌, ◌≤◌, ◌⊎◌, List, [], ◌∷◌, ◌++◌, length, map, get_or, set, Option, Some, None, refl, ap, sym, ◌∙◌, subst, arith, inl, inr, ⊎_elim}
use mathlib.Core.Option.{some, some-injective, some-ne-none}
use mathlib.Core.Logic.{dite}
use native.Mathlib.Decide.{ℕ_discrete}
use lib.ListN.{get_elem?}
use Rattle.atomic_table.proofs.Lists.{at_set, at_longer, set_else}
use Rattle.zone_desk.specs.Rules.{Alone, IsOut, spares}
use Rattle.zone_desk.specs.declared.sight.Kind.TheVariants.{Queue}
use Rattle.zone_desk.specs.declared.sight.Sight.{Sight}

-- ---- places of a list

module _ {A : Type 0} where
  pub at_within : (l : List A) (i : ℕ) (a : A) → get_elem? l i ≡ some a → i < length l
  at_within [] i a e = absurd (some-ne-none a (sym e))
  at_within (x ∷ xs) zero a e = omega arith
  at_within (x ∷ xs) (suc i) a e = let h = at_within xs i a e in omega arith

  pub at_same : (l : List A) (i : ℕ) (a b : A) → get_elem? l i ≡ some a → get_elem? l i ≡ some b → a ≡ b
  at_same l i a b e f = some-injective a b (sym e ∙ f)

  pub set_at : (l : List A) (i : ℕ) (a b : A) → get_elem? l i ≡ some a → get_elem? (set l i b) i ≡ some b
  set_at [] i a b e = absurd (some-ne-none a (sym e))
  set_at (x ∷ xs) zero a b e = refl
  set_at (x ∷ xs) (suc i) a b e = set_at xs i a b e

  pub at_end : (l : List A) (a b : A) (j : ℕ) → get_elem? (l ++ a ∷ []) j ≡ some b → (get_elem? l j ≡ some b) ⊎ ((j ≡ length l) × (a ≡ b))
  at_end [] a b zero e = inr (refl, some-injective a b e)
  at_end [] a b (suc j) e = absurd (some-ne-none b (sym e))
  at_end (x ∷ xs) a b zero e = inl e
  at_end (x ∷ xs) a b (suc j) e = ⊎_elim inl (λ (t : (j ≡ length xs) × (a ≡ b)). inr ((let h = t.0 in omega arith), t.1)) (at_end xs a b j e)

  -- what holds of each other member, and of the new one, holds of all
  pub each_set : (P : ℕ → A → Type 0) (l : List A) (id : ℕ) (w : A) → ((j : ℕ) (u : A) → j ≢ id → get_elem? l j ≡ some u → P j u) → P id w
      → (j : ℕ) (u : A) → get_elem? (set l id w) j ≡ some u → P j u
  each_set P l id w others mine j u e =
      ⊎_elim (λ (t : (j ≡ id) × (w ≡ u)). subst (λ (k : ℕ). P k u) (sym t.0) (subst (P id) t.1 mine)) (λ (t : (j ≢ id) × (get_elem? l j ≡ some u)). others j u t.0 t.1) (at_set l id j w u e)

  pub each_end : (P : ℕ → A → Type 0) (l : List A) (w : A) → ((j : ℕ) (u : A) → get_elem? l j ≡ some u → P j u) → P (length l) w
      → (j : ℕ) (u : A) → get_elem? (l ++ w ∷ []) j ≡ some u → P j u
  each_end P l w others mine j u e =
      ⊎_elim (λ (t : get_elem? l j ≡ some u). others j u t) (λ (t : (j ≡ length l) × (w ≡ u)). subst (λ (k : ℕ). P k u) (sym t.0) (subst (P (length l)) t.1 mine)) (at_end l w u j e)

  pub at_some : (l : List A) (i : ℕ) → i < length l → (a : A) × (get_elem? l i ≡ some a)
  at_some [] i h = absurd (omega arith)
  at_some (x ∷ xs) zero h = (x, refl)
  at_some (x ∷ xs) (suc i) h = at_some xs i (omega arith)

  pub map_at : (f : A → ℕ) (l : List A) (i : ℕ) (a : A) → get_elem? l i ≡ some a → get_or (map f l) i 0 ≡ f a
  map_at f [] i a e = absurd (some-ne-none a (sym e))
  map_at f (x ∷ xs) zero a e = ap f (some-injective x a e)
  map_at f (x ∷ xs) (suc i) a e = map_at f xs i a e

  -- each member of a mapped list was made from the member at its place
  pub map_back : {B : Type 0} (f : A → B) (l : List A) (i : ℕ) (b : B) → get_elem? (map f l) i ≡ some b → (a : A) × ((get_elem? l i ≡ some a) × (f a ≡ b))
  map_back f [] i b e = absurd (some-ne-none b (sym e))
  map_back f (x ∷ xs) zero b e = (x, (refl, some-injective (f x) b e))
  map_back f (x ∷ xs) (suc i) b e = map_back f xs i b e

pub words_again : (ws : List ℕ) (i : ℕ) → i < length ws → set ws i (get_or ws i 0) ≡ ws
words_again [] i h = absurd (omega arith)
words_again (x ∷ xs) zero h = refl
words_again (x ∷ xs) (suc i) h = ap (λ z. x ∷ z) (words_again xs i (omega arith))

-- ---- the sum of the spares

pub spares_set : (l : List Sight) (i : ℕ) (v w : Sight) → get_elem? l i ≡ some v → spares (set l i w) + v.spare ≡ spares l + w.spare
spares_set [] i v w e = absurd (some-ne-none v (sym e))
spares_set (x ∷ xs) zero v w e = let is : x.spare ≡ v.spare = ap (λ (m : Sight). m.spare) (some-injective x v e) in omega arith
spares_set (x ∷ xs) (suc i) v w e = let r = spares_set xs i v w e in omega arith

pub spares_end : (l : List Sight) (w : Sight) → spares (l ++ w ∷ []) ≡ spares l + w.spare
spares_end [] w = omega arith
spares_end (x ∷ xs) w = let r = spares_end xs w in omega arith

pub spare_le : (l : List Sight) (i : ℕ) (v : Sight) → get_elem? l i ≡ some v → v.spare ≤ spares l
spare_le [] i v e = absurd (some-ne-none v (sym e))
spare_le (x ∷ xs) zero v e = let is : x.spare ≡ v.spare = ap (λ (m : Sight). m.spare) (some-injective x v e) in omega arith
spare_le (x ∷ xs) (suc i) v e = let r = spare_le xs i v e in omega arith

-- ---- one pass for each queue

-- each queue still has at most one pass if the changed seat stays of its queue, or is no pass any more
pub alone_set : (views : List Sight) (id : ℕ) (v w : Sight) → get_elem? views id ≡ some v → (w.kind ≡ Queue → (v.kind ≡ Queue) × (w.queue ≡ v.queue)) → Alone views → Alone (set views id w)
alone_set views id v w at same al i j a b ea eb ka kb q =
    ⊎_elim
    (λ (s : (i ≡ id) × (w ≡ a)). ⊎_elim
    (λ (t : (j ≡ id) × (w ≡ b)). s.0 ∙ sym t.0)
    (λ (t : (j ≢ id) × (get_elem? views j ≡ some b)).
    let k = same (ap (λ (x : Sight). x.kind) s.1 ∙ ka) in
    s.0 ∙ al id j v b at t.1 k.0 kb (sym k.1 ∙ ap (λ (x : Sight). x.queue) s.1 ∙ q))
    (at_set views id j w b eb))
    (λ (s : (i ≢ id) × (get_elem? views i ≡ some a)). ⊎_elim
    (λ (t : (j ≡ id) × (w ≡ b)).
    let k = same (ap (λ (x : Sight). x.kind) t.1 ∙ kb) in
    al i id a v s.1 at ka k.0 (q ∙ sym (ap (λ (x : Sight). x.queue) t.1) ∙ k.1) ∙ sym t.0)
    (λ (t : (j ≢ id) × (get_elem? views j ≡ some b)). al i j a b s.1 t.1 ka kb q)
    (at_set views id j w b eb))
    (at_set views id i w a ea)

-- and if a seat is added that is no pass, or whose queue has none
pub alone_end : (views : List Sight) (w : Sight) → ((j : ℕ) (u : Sight) → get_elem? views j ≡ some u → u.kind ≡ Queue → w.kind ≡ Queue → u.queue ≢ w.queue) → Alone views → Alone (views ++ w ∷ [])
alone_end views w new al i j a b ea eb ka kb q =
    ⊎_elim
    (λ (s : get_elem? views i ≡ some a). ⊎_elim
    (λ (t : get_elem? views j ≡ some b). al i j a b s t ka kb q)
    (λ (t : (j ≡ length views) × (w ≡ b)). absurd (new i a s ka (ap (λ (x : Sight). x.kind) t.1 ∙ kb) (q ∙ sym (ap (λ (x : Sight). x.queue) t.1))))
    (at_end views w b j eb))
    (λ (s : (i ≡ length views) × (w ≡ a)). ⊎_elim
    (λ (t : get_elem? views j ≡ some b). absurd (new j b t kb (ap (λ (x : Sight). x.kind) s.1 ∙ ka) (sym (ap (λ (x : Sight). x.queue) s.1 ∙ q))))
    (λ (t : (j ≡ length views) × (w ≡ b)). s.0 ∙ sym t.0)
    (at_end views w b j eb))
    (at_end views w a i ea)

-- ---- who holds a word

pub out_new : (P : Sight → Type 0) (views : List Sight) (id : ℕ) (v w : Sight) → get_elem? views id ≡ some v → P w → IsOut P (Some id) (set views id w)
out_new P views id v w at p = (w, set_at views id v w at, p)

-- a view that keeps the part may change
pub out_set : (P : Sight → Type 0) (holder : Option ℕ) (views : List Sight) (id : ℕ) (v w : Sight) → get_elem? views id ≡ some v → (P v → P w) → IsOut P holder views → IsOut P holder (set views id w)
out_set P None views id v w at keep o = tt
out_set P (Some k) views id v w at keep o =
    dite (ℕ_discrete k id)
    (λ (e : k ≡ id). (
      w,
      subst (λ (j : ℕ). get_elem? (set views id w) j ≡ some w) (sym e) (set_at views id v w at),
      keep (subst P (at_same views id o.0 v (subst (λ (j : ℕ). get_elem? views j ≡ some o.0) e o.1) at) o.2),
    ))
    (λ (ne : k ≢ id). (o.0, set_else views id k w ne ∙ o.1, o.2))

pub out_end : (P : Sight → Type 0) (holder : Option ℕ) (views : List Sight) (w : Sight) → IsOut P holder views → IsOut P holder (views ++ w ∷ [])
out_end P None views w o = tt
out_end P (Some k) views w o = (o.0, at_longer views (w ∷ []) k o.0 o.1, o.2)

-- the seat after the last holds nothing
pub out_within : (P : Sight → Type 0) (holder : Option ℕ) (views : List Sight) → IsOut P holder views → holder ≢ Some (length views)
out_within P None views o e = absurd (cc e)
out_within P (Some k) views o e = let is : k ≡ length views = cc e in let near = at_within views k o.0 o.1 in absurd (omega arith)
