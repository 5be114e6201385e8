-- Jobs that are done, and the end of a session.
use Rattle.std.proofs.Common.{◌≡◌, ℕ, zero, suc, ◌<◌, ◌≤◌, true, false, List, [], ◌∷◌, ◌++◌, length, map, get_or, take, refl, ap, sym, ◌∙◌, subst, subst₂, arith, leb, ⊎_elim}
use Rattle.std.specs.Prelude.{◌≢◌, All}
use Rattle.std.proofs.lemmas.Bool.Decides.{leb_tells}
use Rattle.std.specs.Global.{Vec, Global}
use Rattle.std.specs.declared.collections.VecDeque.{VecDeque}
use mathlib.Core.Option.{some, some-injective, some-ne-none}
use lib.ListN.{get_elem?}
use Rattle.atomic_table.proofs.Lists.{at_map, at_longer, at_last}
use Rattle.zns_types.specs.declared.fields.GeometryFields.{GeometryFields}
use Rattle.zone_model.specs.declared.act.Act.{Act}
use Rattle.zone_model.specs.declared.reply.Reply.{Reply}
use Rattle.zone_model.specs.Sessions.{IsAct, acts_of}
use Rattle.zone_desk.specs.Passes.{DeskId, Pass, IsIdle, AllIdle, Exactly, HaveKnown, NoOthers}
use Rattle.zone_desk.specs.declared.sight.Standing.{Standing}
use Rattle.zone_desk.specs.declared.sight.Standing.TheVariants.{Live}
use Rattle.queue_controller.specs.Replies.{queue_responses, Respond}
use Rattle.queue_controller.specs.Jobs.{Starts, Finishes, acts_in}
use Rattle.queue_controller.specs.Sessions.{AreDealt, AllHave, AllOpen, AllRest, AllSaid}
use Rattle.queue_controller.specs.declared.job.Job.{Job}
use Rattle.queue_controller.specs.declared.job.Prepared.{Prepared}
use Rattle.queue_controller.proofs.Opened.{within_by, at_end}
use Rattle.queue_controller.proofs.Responses.{queue_responses-same}
use Rattle.queue_controller.proofs.SameQueues.{no_acts}

module _ {A : Type 0} where
  pub at_some : (l : List A) (i : ℕ) → i < length l → (a : A) × (get_elem? l i ≡ some a)
  at_some [] i h = absurd (omega arith)
  at_some (x ∷ xs) zero h = (x, refl)
  at_some (x ∷ xs) (suc i) h = at_some xs i (omega arith)

  pub or_at : (l : List A) (i : ℕ) (a d : A) → get_elem? l i ≡ some a → get_or l i d ≡ a
  or_at [] i a d e = absurd (some-ne-none a (sym e))
  or_at (x ∷ xs) zero a d e = some-injective x a e
  or_at (x ∷ xs) (suc i) a d e = or_at xs i a d e

  pub map_back : {B : Type 0} (f : A → B) (l : List A) (i : ℕ) (b : B) → get_elem? (map f l) i ≡ some b → (a : A) × ((get_elem? l i ≡ some a) × (f a ≡ b))
  map_back f [] i b e = absurd (some-ne-none b (sym e))
  map_back f (x ∷ xs) zero b e = (x, (refl, some-injective (f x) b e))
  map_back f (x ∷ xs) (suc i) b e = map_back f xs i b e

  taken : (xs ys : List A) → take (length xs) (xs ++ ys) ≡ xs
  taken [] ys = refl
  taken (x ∷ xs) ys = ap (λ z. x ∷ z) (taken xs ys)

  pub taken_all : (n : ℕ) (xs ys : List A) → n ≡ length xs → take n (xs ++ ys) ≡ xs
  taken_all n xs ys e = ap (λ (k : ℕ). take k (xs ++ ys)) e ∙ taken xs ys

-- ---- the passes

abbrev pub pass_of : Job → Pass
pass_of j = j.pass

module _ (desk : DeskId) (acts : List Act) (jobs : List Job) (rest : AllRest desk acts jobs) (ps : List Pass) (are : ps ≡ map pass_of jobs) where
  -- the job of a pass
  job_of : (i : ℕ) (p : Pass) → get_elem? ps i ≡ some p → (j : Job) × ((get_elem? jobs i ≡ some j) × (j.pass ≡ p))
  job_of i p e = map_back pass_of jobs i p (ap (λ (l : List Pass). get_elem? l i) (sym are) ∙ e)

  pub pass_at : (i : ℕ) (j : Job) → get_elem? jobs i ≡ some j → get_elem? ps i ≡ some j.pass
  pass_at i j e = ap (λ (l : List Pass). get_elem? l i) are ∙ at_map pass_of jobs i j e

  pub all_idle : AllIdle desk ps
  all_idle i p e =
      let t = job_of i p e in
      let r = rest i t.0 t.1.0 in
      subst (λ (q : Pass). (q.desk ≡ desk) × IsIdle q.sight) t.1.1 (r.desk_is, r.idle)

  queue_is : (i : ℕ) (p : Pass) → get_elem? ps i ≡ some p → p.sight.queue ≡ i
  queue_is i p e = let t = job_of i p e in ap (λ (q : Pass). q.sight.queue) (sym t.1.1) ∙ (rest i t.0 t.1.0).queue_is

  pub exactly : (standings : List Standing) → AllHave (length jobs) standings → Exactly standings ps
  exactly standings have = record {
    distinct = λ i j p q ei ej same. sym (queue_is i p ei) ∙ (same ∙ queue_is j q ej);
    all = λ q live.
        let near = within_by standings q Live live in
        let long = have.0 in
        let t = at_some jobs q (omega arith) in
        (q, (pass_of t.0, pass_at q t.0 t.1, (rest q t.0 t.1).queue_is));
    live = λ i p e. let t = job_of i p e in ap (λ (k : ℕ). get_elem? standings k) (queue_is i p e) ∙ have.1 i (within_by jobs i t.0 t.1.0);
  }

not_live : (n : ℕ) (standings : List Standing) → AllHave n standings → (q : ℕ) → n ≤ q → get_elem? standings q ≢ some Live
not_live n standings have q far e = let near = within_by standings q Live e in let long = have.0 in omega arith

-- ---- the journal

module _ (g : GeometryFields) (desk : DeskId) (acts : List Act) (jobs : List Job) (rest : AllRest desk acts jobs) (ps : List Pass) (are : ps ≡ map pass_of jobs) (count : length jobs ≡ g.queues) (log : List Act) (known : HaveKnown log ps) where
  -- the journal has the acts of each queue that were asked for
  own_acts : (q : ℕ) (j : Job) → get_elem? jobs q ≡ some j → acts_of q log ≡ acts_of q acts
  own_acts q j e =
      let r = rest q j e in
      ap (λ (k : ℕ). acts_of k log) (sym r.queue_is) ∙ ((known q j.pass (pass_at desk acts jobs rest ps are q j e)).1 ∙ r.own)

  pub same_queues : All (IsAct g) acts → (standings : List Standing) → AllHave (length jobs) standings → NoOthers log standings → (q : ℕ) → acts_of q log ≡ acts_of q acts
  same_queues within standings have others q = ⊎_elim
      (λ (t : (leb (suc q) (length jobs) ≡ true) × (suc q ≤ length jobs)). let j = at_some jobs q t.1 in own_acts q j.0 j.1)
      (λ (t : (leb (suc q) (length jobs) ≡ false) × (length jobs < suc q)).
      let past = t.1 in
      others q (not_live (length jobs) standings have q (omega arith)) ∙ sym (no_acts g acts q within (omega (arith, past, count))))
      (leb_tells (suc q) (length jobs))

  -- the replies of a job are those to its queue's acts in the journal
  pub job_said : (q : ℕ) (j : Job) → get_elem? jobs q ≡ some j → Respond j.replies.items (queue_responses desk.geometry q [] log)
  job_said q j e =
      let r = rest q j e in
      let k = known q j.pass (pass_at desk acts jobs rest ps are q j e) in
      let seen : List Act = j.pass.sight.seen in
      let more : acts_of q (seen ++ k.0.0) ≡ acts_of q seen = ap (acts_of q) k.0.1 ∙ (own_acts q j e ∙ sym (r.seen ∙ r.own)) in
      subst (Respond j.replies.items) (sym (queue_responses-same desk.geometry q seen k.0.0 more) ∙ ap (queue_responses desk.geometry q []) k.0.1) r.replies

-- ---- the replies

-- each list of replies is that of the job at its place
abbrev pub FromJobs : List Job → List (VecDeque Reply Global) → Type 0
FromJobs jobs said = (q : ℕ) (d : VecDeque Reply Global) → get_elem? said q ≡ some d → (j : Job) × ((get_elem? jobs q ≡ some j) × (d.items ≡ j.replies.items))

pub from_none : (said : List (VecDeque Reply Global)) → said ≡ [] → FromJobs [] said
from_none said none q d e = absurd (some-ne-none d (sym (ap (λ (l : List (VecDeque Reply Global)). get_elem? l q) (sym none) ∙ e)))

pub from_more : (jobs : List Job) (j : Job) (said : List (VecDeque Reply Global)) (d : VecDeque Reply Global) → FromJobs jobs said → length said ≡ length jobs → d.items ≡ j.replies.items → FromJobs (jobs ++ j ∷ []) (said ++ d ∷ [])
from_more jobs j said d from count is q x e = ⊎_elim
    (λ (t : get_elem? said q ≡ some x). let o = from q x t in (o.0, (at_longer jobs (j ∷ []) q o.0 o.1.0, o.1.1)))
    (λ (t : (q ≡ length said) × (d ≡ x)).
    (j, (at_last jobs j q (sym (t.0 ∙ count)), ap (λ (y : VecDeque Reply Global). y.items) (sym t.1) ∙ is)))
    (at_end said d x q e)

pub all_said : (g : GeometryFields) (jobs : List Job) (said : List (VecDeque Reply Global)) (log : List Act) → FromJobs jobs said
    → ((q : ℕ) (j : Job) → get_elem? jobs q ≡ some j → Respond j.replies.items (queue_responses g q [] log)) → AllSaid g [] log said
all_said g jobs said log from all q d e = let t = from q d e in subst (λ (rs : List Reply). Respond rs (queue_responses g q [] log)) (sym t.1.1) (all q t.0 t.1.0)

-- ---- the work

-- jobs that were opened start
pub all_start : (desk : DeskId) (lists : List (Vec Prepared)) (jobs : List Job) → AllOpen desk lists jobs → (k : ℕ) (d : Job) → k < length jobs → Starts desk (get_or jobs k d)
all_start desk lists jobs opened k d h = let t = at_some jobs k h in subst (Starts desk) (sym (or_at jobs k t.0 d t.1)) (opened k t.0 t.1).starts

-- jobs that were opened and served rest
pub all_rest : (desk : DeskId) (g : GeometryFields) (acts : List Act) (lists : List (Vec Prepared)) (old new : List Job) → AllOpen desk lists old → AreDealt g acts lists → length new ≡ length old
    → ((i : ℕ) (d : Job) → i < length old → Finishes desk (get_or old i d) (get_or new i d)) → AllRest desk acts new
all_rest desk g acts lists old new opened dealt same done q j e =
    let near = within_by new q j e in
    let h : q < length old = omega arith in
    let t = at_some old q h in
    let o = opened q t.0 t.1 in
    let f : Finishes desk t.0 j = subst₂ (λ (x y : Job). Finishes desk x y) (or_at old q t.0 j t.1) (or_at new q j j e) (done q j h) in
    record {
      desk_is = f.desk_is;
      queue_is = f.queue ∙ o.queue_is;
      idle = f.idle;
      own = f.own ∙ (ap acts_in o.left ∙ (dealt.each q o.list o.at).acts_are);
      seen = ap (λ (z : ℕ). acts_of z j.pass.sight.seen) (sym o.queue_is) ∙ f.seen;
      replies = subst (λ (z : ℕ). Respond j.replies.items (queue_responses desk.geometry z [] j.pass.sight.seen)) o.queue_is f.replies;
    }
