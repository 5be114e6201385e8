-- The acts of each queue.
use Rattle.std.proofs.Common.{◌≡◌, ℕ, zero, suc, ◌+◌, List, [], ◌∷◌, ◌++◌, length, set, refl, ap, sym, ◌∙◌, subst, arith, length-append, length-set, ⊎_elim}
use Rattle.std.specs.Prelude.{◌≢◌}
use Rattle.std.proofs.lemmas.List.{map-append}
use Rattle.std.specs.Global.{Vec}
use mathlib.Core.Option.{some, some-injective, some-ne-none}
use lib.ListN.{get_elem?}
use Rattle.atomic_table.proofs.Lists.{at_set}
use Rattle.zns_types.specs.declared.fields.GeometryFields.{GeometryFields}
use Rattle.zone_model.specs.declared.act.Act.{Act}
use Rattle.zone_desk.proofs.Lists.{acts_of-own, acts_of-other}
use Rattle.queue_controller.specs.Jobs.{IsPrepared, ArePrepared, acts_in}
use Rattle.queue_controller.specs.Sessions.{total, AreEmpty, IsDealt, AreDealt}
use Rattle.queue_controller.specs.declared.job.Prepared.{Prepared}

-- ---- no acts

pub empty_more : (ls : List (Vec Prepared)) (l : Vec Prepared) → AreEmpty ls → l.items ≡ [] → AreEmpty (ls ++ l ∷ [])
empty_more [] l all e = (e, tt)
empty_more (x ∷ ls) l all e = (all.0, empty_more ls l all.1 e)

empty_total : (ls : List (Vec Prepared)) → AreEmpty ls → total ls ≡ 0
empty_total [] all = refl
empty_total (l ∷ ls) all =
    let first = ap (λ (xs : List Prepared). length xs) all.0 in
    let others = empty_total ls all.1 in
    omega (arith, first, others)

empty_at : (ls : List (Vec Prepared)) (q : ℕ) (l : Vec Prepared) → AreEmpty ls → get_elem? ls q ≡ some l → l.items ≡ []
empty_at [] q l all e = absurd (some-ne-none l (sym e))
empty_at (x ∷ ls) zero l all e = ap (λ (y : Vec Prepared). y.items) (sym (some-injective x l e)) ∙ all.0
empty_at (x ∷ ls) (suc q) l all e = empty_at ls q l all.1 e

pub dealt_none : (g : GeometryFields) (ls : List (Vec Prepared)) → length ls ≡ g.queues → AreEmpty ls → AreDealt g [] ls
dealt_none g ls count all = record {
  count = count;
  each = λ q l e. let none = empty_at ls q l all e in record { acts_are = ap acts_in none; prepared = subst (ArePrepared g q) (sym none) tt };
  sum = empty_total ls all;
}

-- ---- one act more

prepared_more : (g : GeometryFields) (q : ℕ) (ps : List Prepared) (p : Prepared) → ArePrepared g q ps → IsPrepared g q p → ArePrepared g q (ps ++ p ∷ [])
prepared_more g q [] p all is = (is, tt)
prepared_more g q (x ∷ ps) p all is = (all.0, prepared_more g q ps p all.1 is)

total_set : (ls : List (Vec Prepared)) (i : ℕ) (old new : Vec Prepared) → get_elem? ls i ≡ some old → total (set ls i new) + length old.items ≡ total ls + length new.items
total_set [] i old new e = absurd (some-ne-none old (sym e))
total_set (x ∷ ls) zero old new e = let same = ap (λ (y : Vec Prepared). length y.items) (some-injective x old e) in omega (arith, same)
total_set (x ∷ ls) (suc i) old new e = let others = total_set ls i old new e in omega (arith, others)

-- the act was added to the list of its queue
pub record Adds (g : GeometryFields) (a : Act) (old new : Vec Prepared) : Type 0 where
  pub prepared : Prepared
  pub items : new.items ≡ old.items ++ prepared ∷ []
  pub act_is : prepared.act ≡ a
  pub is : IsPrepared g a.queue prepared

dealt_own : (g : GeometryFields) (acts : List Act) (a : Act) (old new : Vec Prepared) → IsDealt g acts a.queue old.items → Adds g a old new → IsDealt g (acts ++ a ∷ []) a.queue new.items
dealt_own g acts a old new is adds = record {
  acts_are = ap acts_in adds.items ∙ (map-append (λ (p : Prepared). p.act) old.items (adds.prepared ∷ []) ∙ (rw (is.acts_are, adds.act_is) refl ∙ sym (acts_of-own a.queue acts a refl)));
  prepared = subst (ArePrepared g a.queue) (sym adds.items) (prepared_more g a.queue old.items adds.prepared is.prepared adds.is);
}

dealt_other : (g : GeometryFields) (acts : List Act) (a : Act) (q : ℕ) (l : Vec Prepared) → q ≢ a.queue → IsDealt g acts q l.items → IsDealt g (acts ++ a ∷ []) q l.items
dealt_other g acts a q l ne is = record { acts_are = is.acts_are ∙ sym (acts_of-other q acts a (λ e. ne (sym e))); prepared = is.prepared }

pub dealt_more : (g : GeometryFields) (acts : List Act) (ls : List (Vec Prepared)) (a : Act) (old new : Vec Prepared) → AreDealt g acts ls → get_elem? ls a.queue ≡ some old → Adds g a old new → AreDealt g (acts ++ a ∷ []) (set ls a.queue new)
dealt_more g acts ls a old new dealt at adds = record {
  count = length-set ls a.queue new ∙ dealt.count;
  each = λ q l e. ⊎_elim
      (λ (t : (q ≡ a.queue) × (new ≡ l)).
      subst (λ (k : ℕ). IsDealt g (acts ++ a ∷ []) k l.items) (sym t.0)
      (subst (λ (m : Vec Prepared). IsDealt g (acts ++ a ∷ []) a.queue m.items) t.1
      (dealt_own g acts a old new (dealt.each a.queue old at) adds)))
      (λ (t : (q ≢ a.queue) × (get_elem? ls q ≡ some l)). dealt_other g acts a q l t.0 (dealt.each q l t.1))
      (at_set ls a.queue q new l e);
  sum =
      let moved = total_set ls a.queue old new at in
      let longer = ap (λ (xs : List Prepared). length xs) adds.items ∙ length-append old.items (adds.prepared ∷ []) in
      let sum = dealt.sum in
      omega (arith, moved, longer, sum, length-append acts (a ∷ []));
}
