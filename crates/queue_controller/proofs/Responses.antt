-- Responses to acts that come one after another.
use Rattle.std.proofs.Common.{◌≡◌, ℕ, true, false, cond, List, [], ◌∷◌, ◌++◌, refl, ap, sym, ◌∙◌, suc, arith, append_assoc, append-nil, eq-eqb, ne_eqb}
use Rattle.std.specs.Prelude.{◌≢◌}
use Rattle.std.proofs.lemmas.List.{append_cancel_left, map-append}
use Rattle.std.proofs.lemmas.List.Elements.{filter-append, All-push}
use Rattle.zns_types.specs.declared.fields.GeometryFields.{GeometryFields}
use Rattle.zone_model.specs.declared.act.Act.{Act}
use Rattle.zone_model.specs.declared.reply.Reply.{Reply}
use Rattle.zone_model.specs.Sessions.{is_of, acts_of}
use Rattle.session_file.specs.Results.{IsShort}
use Rattle.queue_controller.specs.Replies.{Response, response_of, response_at, queue_responses, all_responses, Respond}

pub queue_responses-append : (g : GeometryFields) (q : ℕ) (b xs ys : List Act) → queue_responses g q b (xs ++ ys) ≡ queue_responses g q b xs ++ queue_responses g q (b ++ xs) ys
queue_responses-append g q b [] ys = ap (λ (l : List Act). queue_responses g q l ys) (sym (append-nil b))
queue_responses-append g q b (x ∷ xs) ys =
    let m : List Act = b ++ x ∷ [] in
    let r : Response = response_at g b x in
    let more : queue_responses g q m (xs ++ ys) ≡ queue_responses g q m xs ++ queue_responses g q (b ++ x ∷ xs) ys =
    queue_responses-append g q m xs ys ∙ ap (λ (l : List Act). queue_responses g q m xs ++ queue_responses g q l ys) (append_assoc b (x ∷ []) xs) in
    elim (is_of q x) as (λ t. cond t (r ∷ queue_responses g q m (xs ++ ys)) (queue_responses g q m (xs ++ ys)) ≡ cond t (r ∷ queue_responses g q m xs) (queue_responses g q m xs) ++ queue_responses g q (b ++ x ∷ xs) ys) [ true ↦ ap (λ w. r ∷ w) more | false ↦ more ]

queue_responses-none : (g : GeometryFields) (q : ℕ) (b xs : List Act) → acts_of q xs ≡ [] → queue_responses g q b xs ≡ []
queue_responses-none g q b [] e = refl
queue_responses-none g q b (x ∷ xs) e =
    let m : List Act = b ++ x ∷ [] in
    elim (is_of q x) as (λ t. cond t (x ∷ acts_of q xs) (acts_of q xs) ≡ [] → cond t (response_at g b x ∷ queue_responses g q m xs) (queue_responses g q m xs) ≡ []) [ true ↦ λ h. absurd (cc h) | false ↦ λ h. queue_responses-none g q m xs h ] e

-- a longer list without more acts of the queue has no more responses to it
pub queue_responses-same : (g : GeometryFields) (q : ℕ) (xs ys : List Act) → acts_of q (xs ++ ys) ≡ acts_of q xs → queue_responses g q [] (xs ++ ys) ≡ queue_responses g q [] xs
queue_responses-same g q xs ys e =
    let none : acts_of q ys ≡ [] = append_cancel_left (acts_of q xs) (acts_of q ys) [] (sym (filter-append (is_of q) xs ys) ∙ (e ∙ sym (append-nil (acts_of q xs)))) in
    queue_responses-append g q [] xs ys ∙ (ap (λ w. queue_responses g q [] xs ++ w) (queue_responses-none g q xs ys none) ∙ append-nil (queue_responses g q [] xs))

-- the responses to acts that begin with one of the queue
pub queue_responses-own : (g : GeometryFields) (q : ℕ) (b xs : List Act) (a : Act) → a.queue ≡ q → queue_responses g q b (a ∷ xs) ≡ response_at g b a ∷ queue_responses g q (b ++ a ∷ []) xs
queue_responses-own g q b xs a is = ap (λ t. cond t (response_at g b a ∷ queue_responses g q (b ++ a ∷ []) xs) (queue_responses g q (b ++ a ∷ []) xs)) (eq-eqb a.queue q is)

-- the responses to acts that begin with one of another queue
pub queue_responses-other : (g : GeometryFields) (q : ℕ) (b xs : List Act) (a : Act) → a.queue ≢ q → queue_responses g q b (a ∷ xs) ≡ queue_responses g q (b ++ a ∷ []) xs
queue_responses-other g q b xs a ne = ap (λ t. cond t (response_at g b a ∷ queue_responses g q (b ++ a ∷ []) xs) (queue_responses g q (b ++ a ∷ []) xs)) (ne_eqb a.queue q ne)

pub all_responses-push : (g : GeometryFields) (b xs : List Act) (a : Act) → all_responses g b (xs ++ a ∷ []) ≡ all_responses g b xs ++ response_at g (b ++ xs) a ∷ []
all_responses-push g b [] a = ap (λ (l : List Act). response_at g l a ∷ []) (sym (append-nil b))
all_responses-push g b (x ∷ xs) a = ap (λ w. response_at g b x ∷ w) (all_responses-push g (b ++ x ∷ []) xs a ∙ ap (λ (l : List Act). all_responses g (b ++ x ∷ []) xs ++ response_at g l a ∷ []) (append_assoc b (x ∷ []) xs))

-- ---- replies

pub respond_none : (rs : List Reply) → rs ≡ [] → Respond rs []
respond_none rs e = rw e (record { are = refl; short = λ k d h. absurd (omega arith) })

pub respond_more : (rs : List Reply) (xs : List Response) (r : Reply) (x : Response) → Respond rs xs → response_of r ≡ x → IsShort r → Respond (rs ++ r ∷ []) (xs ++ x ∷ [])
respond_more rs xs r x old is small = record {
  are = map-append response_of rs (r ∷ []) ∙ rw (old.are, is) refl;
  short = All-push IsShort rs r old.short small;
}

-- the first reply, and the others
pub record First (rs : List Reply) (x : Response) (xs : List Response) : Type 0 where
  pub reply : Reply
  pub others : List Reply
  pub are : rs ≡ reply ∷ others
  pub is : response_of reply ≡ x
  pub short : IsShort reply
  pub respond : Respond others xs

pub respond_first : (rs : List Reply) (x : Response) (xs : List Response) → Respond rs (x ∷ xs) → First rs x xs
respond_first [] x xs all = absurd (cc all.are)
respond_first (r ∷ rs) x xs all = record {
  reply = r;
  others = rs;
  are = refl;
  is = cc all.are;
  short = all.short 0 r (omega arith);
  respond = record { are = cc all.are; short = λ k d h. all.short (suc k) d (omega arith) };
}
