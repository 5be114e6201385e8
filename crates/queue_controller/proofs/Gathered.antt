-- The replies of the queues are put into the order of all acts.
use Rattle.std.proofs.Common.{◌≡◌, ℕ, zero, suc, ◌+◌, ◌<◌, ◌≤◌, true, false, cond, eq-eqb, List, [], ◌∷◌, ◌++◌, length, get_or, set, take, drop, refl, ap, sym, ◌∙◌, subst, arith, lt_of_not-le, ⊎_elim}
use Rattle.std.specs.Prelude.{◌≢◌}
use Rattle.std.specs.Global.{Global}
use Rattle.std.specs.declared.collections.VecDeque.{VecDeque}
use mathlib.Core.Option.{some}
use lib.ListN.{get_elem?}
use Rattle.atomic_table.proofs.Lists.{at_set, at_index}
use Rattle.zns_types.specs.declared.fields.GeometryFields.{GeometryFields}
use Rattle.zone_model.specs.declared.act.Act.{Act}
use Rattle.zone_model.specs.declared.reply.Reply.{Reply}
use Rattle.zone_model.specs.Sessions.{is_of, acts_of}
use Rattle.queue_controller.specs.Replies.{response_at, queue_responses, Respond}
use Rattle.queue_controller.specs.Jobs.{IsReplyTo}
use Rattle.queue_controller.specs.Sessions.{AllSaid}
use Rattle.queue_controller.proofs.Responses.{queue_responses-own, queue_responses-other, First, respond_first}

-- the act at a place of a list, and what comes before and after it
pub record Here (acts : List Act) (n : ℕ) : Type 0 where
  pub act : Act
  pub at : get_or acts n act ≡ act
  pub from_it : drop n acts ≡ act ∷ drop (n + 1) acts
  pub with_it : take (n + 1) acts ≡ take n acts ++ act ∷ []

pub here : (acts : List Act) (n : ℕ) → n < length acts → Here acts n
here [] n h = absurd (omega arith)
here (a ∷ acts) zero h = record { act = a; at = refl; from_it = refl; with_it = refl }
here (a ∷ acts) (suc n) h =
    let there = here acts n (omega arith) in
    let next : suc n + 1 ≡ suc (n + 1) = omega arith in
    record {
      act = there.act;
      at = there.at;
      from_it = there.from_it ∙ ap (λ k. there.act ∷ drop k (a ∷ acts)) (sym next);
      with_it = ap (λ k. take k (a ∷ acts)) next ∙ ap (λ (l : List Act). a ∷ l) there.with_it;
    }

-- if a queue has no acts in a list, none of its members is of the queue
pub none_at : (q : ℕ) (acts : List Act) (i : ℕ) (d : Act) → i < length acts → acts_of q acts ≡ [] → (get_or acts i d).queue ≢ q
none_at q [] i d h none is = absurd (omega arith)
none_at q (a ∷ acts) zero d h none is = absurd (cc (none, ap (λ t. cond t (a ∷ acts_of q acts) (acts_of q acts)) (eq-eqb a.queue q is)))
none_at q (a ∷ acts) (suc i) d h none is =
    none_at q acts i d (omega arith) (elim (is_of q a) as (λ t. cond t (a ∷ acts_of q acts) (acts_of q acts) ≡ [] → acts_of q acts ≡ []) [ true ↦ λ e. absurd (cc e) | false ↦ λ e. e ] none) is

-- so there is a list for its queue
near_by : (said : List (VecDeque Reply Global)) (log : List Act) (n : ℕ) (x : Here log n) (q : ℕ) → q ≡ x.act.queue → n < length log → ((queue : ℕ) → length said ≤ queue → acts_of queue log ≡ []) → q < length said
near_by said log n x q mine inside others = lt_of_not-le (λ far. none_at q log n x.act inside (others q far) (ap (λ (a : Act). a.queue) x.at ∙ sym mine))

-- the act whose reply comes next, of this queue, which has a list
pub record Turn (said : List (VecDeque Reply Global)) (log : List Act) (n q : ℕ) : Type 0 where
  pub place : Here log n
  pub mine : q ≡ place.act.queue
  pub near : q < length said

pub turn : (said : List (VecDeque Reply Global)) (log acts : List Act) (n q : ℕ) → acts ≡ log → n < length acts → ((d : Act) → q ≡ (get_or acts n d).queue) → ((queue : ℕ) → length said ≤ queue → acts_of queue log ≡ []) → Turn said log n q
turn said log acts n q same within is others =
    let inside : n < length log = subst (λ (l : List Act). n < length l) same within in
    let x = here log n inside in
    let mine : q ≡ x.act.queue = is x.act ∙ (ap (λ (l : List Act). (get_or l n x.act).queue) same ∙ ap (λ (a : Act). a.queue) x.at) in
    record { place = x; mine = mine; near = near_by said log n x q mine inside others }

-- the next act's reply is the first of its queue
pub first_said : (g : GeometryFields) (before acts : List Act) (a : Act) (said : List (VecDeque Reply Global)) (d : VecDeque Reply Global) → AllSaid g before (a ∷ acts) said → get_elem? said a.queue ≡ some d
    → First d.items (response_at g before a) (queue_responses g a.queue (before ++ a ∷ []) acts)
first_said g before acts a said d all at = respond_first d.items (response_at g before a) (queue_responses g a.queue (before ++ a ∷ []) acts) (subst (Respond d.items) (queue_responses-own g a.queue before acts a refl) (all a.queue d at))

-- the others are those to the acts that are left
pub others_said : (g : GeometryFields) (before acts : List Act) (a : Act) (said : List (VecDeque Reply Global)) (d : VecDeque Reply Global) → AllSaid g before (a ∷ acts) said
    → Respond d.items (queue_responses g a.queue (before ++ a ∷ []) acts) → AllSaid g (before ++ a ∷ []) acts (set said a.queue d)
others_said g before acts a said d all rest q e at = ⊎_elim
    (λ (t : (q ≡ a.queue) × (d ≡ e)).
    subst (λ (k : ℕ). Respond e.items (queue_responses g k (before ++ a ∷ []) acts)) (sym t.0)
    (subst (λ (x : VecDeque Reply Global). Respond x.items (queue_responses g a.queue (before ++ a ∷ []) acts)) t.1 rest))
    (λ (t : (q ≢ a.queue) × (get_elem? said q ≡ some e)).
    subst (Respond e.items) (queue_responses-other g q before acts a (λ is. t.0 (sym is))) (all q e t.1))
    (at_set said a.queue q d e at)

-- ---- the loop

module _ (g : GeometryFields) (log : List Act) (n : ℕ) (said : List (VecDeque Reply Global)) (all : AllSaid g (take n log) (drop n log) said) (x : Here log n) (q : ℕ) (mine : q ≡ x.act.queue) (d : VecDeque Reply Global) (near : q < length said) (there : d ≡ get_or said q d) where
  all_here : AllSaid g (take n log) (x.act ∷ drop (n + 1) log) said
  all_here = subst (λ (l : List Act). AllSaid g (take n log) l said) x.from_it all

  first_here : First d.items (response_at g (take n log) x.act) (queue_responses g x.act.queue (take n log ++ x.act ∷ []) (drop (n + 1) log))
  first_here = first_said g (take n log) (drop (n + 1) log) x.act said d all_here (ap (λ (k : ℕ). get_elem? said k) (sym mine) ∙ at_index said q d near there)

  pub some_here : 1 ≤ length d.items
  some_here = let long : length d.items ≡ length first_here.others + 1 = ap (λ (l : List Reply). length l) first_here.are ∙ omega arith in omega (arith, long)

  -- the reply that was taken is the first
  pub reply_here : (r : Reply) (rs : List Reply) → d.items ≡ r ∷ rs → IsReplyTo g x.act r (take n log)
  reply_here r rs e = let same : first_here.reply ≡ r = cc (first_here.are, e) in subst (λ (y : Reply). IsReplyTo g x.act y (take n log)) same (record { is = first_here.is; short = first_here.short })

  pub others_here : (r : Reply) (e : VecDeque Reply Global) → d.items ≡ r ∷ e.items → AllSaid g (take (n + 1) log) (drop (n + 1) log) (set said q e)
  others_here r e rest =
      let same : first_here.others ≡ e.items = cc (first_here.are, rest) in
      let respond : Respond e.items (queue_responses g x.act.queue (take n log ++ x.act ∷ []) (drop (n + 1) log)) = subst (λ (rs : List Reply). Respond rs (queue_responses g x.act.queue (take n log ++ x.act ∷ []) (drop (n + 1) log))) same first_here.respond in
      subst (λ (k : ℕ). AllSaid g (take (n + 1) log) (drop (n + 1) log) (set said k e)) (sym mine)
      (subst (λ (l : List Act). AllSaid g l (drop (n + 1) log) (set said x.act.queue e)) (sym x.with_it)
      (others_said g (take n log) (drop (n + 1) log) x.act said e all_here respond))
