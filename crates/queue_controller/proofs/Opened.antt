-- The jobs of a session are made one after another.
use Rattle.std.proofs.Common.{◌≡◌, ℕ, zero, suc, ◌+◌, ◌<◌, ◌≤◌, ◌⊎◌, true, false, List, [], ◌∷◌, ◌++◌, length, get_or, set, replicate, refl, ap, sym, ◌∙◌, subst, arith, leb, append-nil, inl, inr, ⊎_elim}
use Rattle.std.proofs.lemmas.Bool.Decides.{leb_tells}
use mathlib.Core.Option.{some, some-injective, some-ne-none}
use lib.ListN.{get_elem?}
use Rattle.std.specs.Global.{Vec}
use Rattle.atomic_table.proofs.Lists.{set_here, set_else, at_longer, at_last}
use Rattle.zone_desk.specs.Passes.{DeskId, is_given, is_taken}
use Rattle.zone_desk.specs.declared.sight.Standing.{Standing}
use Rattle.zone_desk.specs.declared.sight.Standing.TheVariants.{Free, Live}
use Rattle.queue_controller.specs.Jobs.{Starts}
use Rattle.queue_controller.specs.Sessions.{IsOpen, AllOpen}
use Rattle.queue_controller.specs.declared.job.Job.{Job}
use Rattle.queue_controller.specs.declared.job.Prepared.{Prepared}

pub taken_free : (l : List Standing) (q : ℕ) → get_elem? l q ≡ some Free → is_taken l q ≡ false
taken_free [] q e = absurd (some-ne-none Free (sym e))
taken_free (x ∷ l) zero e = ap is_given (some-injective x Free e)
taken_free (x ∷ l) (suc q) e = taken_free l q e

module _ {A : Type 0} where
  pub within_by : (l : List A) (i : ℕ) (a : A) → get_elem? l i ≡ some a → i < length l
  within_by [] i a e = absurd (some-ne-none a (sym e))
  within_by (x ∷ xs) zero a e = omega arith
  within_by (x ∷ xs) (suc i) a e = let h = within_by xs i a e in omega arith

  pub at_end : (l : List A) (a b : A) (j : ℕ) → get_elem? (l ++ a ∷ []) j ≡ some b → (get_elem? l j ≡ some b) ⊎ ((j ≡ length l) × (a ≡ b))
  at_end [] a b zero e = inr (refl, some-injective a b e)
  at_end [] a b (suc j) e = absurd (some-ne-none b (sym e))
  at_end (x ∷ xs) a b zero e = inl e
  at_end (x ∷ xs) a b (suc j) e = ⊎_elim inl (λ (t : (j ≡ length xs) × (a ≡ b)). inr ((let h = t.0 in omega arith), t.1)) (at_end xs a b j e)

  pub at_seam : (xs ys : List A) (a : A) → get_elem? (xs ++ a ∷ ys) (length xs) ≡ some a
  at_seam [] ys a = refl
  at_seam (x ∷ xs) ys a = at_seam xs ys a

  pub seam : (xs ys : List A) (a d : A) → get_or (xs ++ a ∷ ys) (length xs) d ≡ a
  seam [] ys a d = refl
  seam (x ∷ xs) ys a d = seam xs ys a d

  pub length-row : (n : ℕ) (a : A) → length (replicate n a) ≡ n
  length-row zero a = refl
  length-row (suc n) a = ap suc (length-row n a)

  pub row_at : (n k : ℕ) (a : A) → k < n → get_elem? (replicate n a) k ≡ some a
  row_at zero k a h = absurd (omega arith)
  row_at (suc n) zero a h = refl
  row_at (suc n) (suc k) a h = row_at n k a (omega arith)

  pub all_yielded : (xs ys all : List A) → xs ++ ys ≡ all → length ys ≡ 0 → xs ≡ all
  all_yielded xs [] all e none_left = sym (append-nil xs) ∙ e
  all_yielded xs (y ∷ ys) all e none_left = absurd (omega arith)

pub live_more : (l : List Standing) (i : ℕ) → i < length l → ((k : ℕ) → k < i → get_elem? l k ≡ some Live) → (k : ℕ) → k < i + 1 → get_elem? (set l i Live) k ≡ some Live
live_more l i near old k h =
    ⊎_elim
    (λ (t : (leb (suc k) i ≡ true) × (suc k ≤ i)). let below = t.1 in set_else l i k Live (λ e. omega arith) ∙ old k (omega arith))
    (λ (t : (leb (suc k) i ≡ false) × (i < suc k)). let past = t.1 in let e : i ≡ k = omega arith in subst (λ (j : ℕ). get_elem? (set l i Live) j ≡ some Live) e (set_here l i Live near))
    (leb_tells (suc k) i)

pub jobs_more : (desk : DeskId) (ys : List (Vec Prepared)) (js : List Job) (l : Vec Prepared) (j : Job) → AllOpen desk ys js → length js ≡ length ys → Starts desk j → j.pass.sight.queue ≡ length ys → j.left.items ≡ l.items → AllOpen desk (ys ++ l ∷ []) (js ++ j ∷ [])
jobs_more desk ys js l j old same starts queue left k x e =
    ⊎_elim
    (λ (t : get_elem? js k ≡ some x). let o = old k x t in record { starts = o.starts; queue_is = o.queue_is; list = o.list; at = at_longer ys (l ∷ []) k o.list o.at; left = o.left })
    (λ (t : (k ≡ length js) × (j ≡ x)).
    subst (λ (y : Job). IsOpen desk (ys ++ l ∷ []) k y) t.1
    record { starts = starts; queue_is = queue ∙ sym (t.0 ∙ same); list = l; at = at_last ys l k (sym (t.0 ∙ same)); left = left })
    (at_end js j x k e)
