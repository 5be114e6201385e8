-- Prefixes of one list, and the acts of a queue in a list that grows at its end.
use Rattle.std.proofs.Common.{◌≡◌, ◌≢◌, ◌⊎◌, ℕ, ◌<◌, ◌≤◌, Bool, true, false, cond, leb, inl, inr, List, [], ◌∷◌, ◌++◌, length, refl, ap, sym, ◌∙◌, arith, append_assoc, append-nil, eq-eqb, ne_eqb}
use mathlib.Core.List.{IsPrefix}
use Rattle.std.proofs.lemmas.List.{append_cancel_left}
use Rattle.std.proofs.lemmas.List.Elements.{filter-append}
use Rattle.std.proofs.lemmas.Bool.Decides.{leb_tells}
use Rattle.zone_model.specs.declared.act.Act.{Act}
use Rattle.zone_model.specs.Sessions.{is_of, acts_of}
use Rattle.zone_desk.specs.Sights.{longer, shorter}

pub prefix_self : {A : Type 0} (xs : List A) → IsPrefix xs xs
prefix_self [] = ([], refl)
prefix_self (x ∷ xs) = let r = prefix_self xs in (r.0, ap (λ ys. x ∷ ys) r.1)

pub prefix_more : {A : Type 0} (xs ys zs : List A) → IsPrefix xs ys → IsPrefix xs (ys ++ zs)
prefix_more xs ys zs p = (p.0 ++ zs, sym (append_assoc xs p.0 zs) ∙ ap (λ w. w ++ zs) p.1)

-- of two prefixes of one list, the shorter is a prefix of the longer
pub prefix_shorter : {A : Type 0} (xs ys zs : List A) → IsPrefix xs zs → IsPrefix ys zs → length xs ≤ length ys → IsPrefix xs ys
prefix_shorter [] ys zs p q le = (ys, refl)
prefix_shorter (x ∷ xs) [] zs p q le = absurd (omega arith)
prefix_shorter (x ∷ xs) (y ∷ ys) [] p q le = absurd (cc (p.1))
prefix_shorter (x ∷ xs) (y ∷ ys) (z ∷ zs) p q le =
    let heads : x ≡ y = cc (p.1, q.1) in
    let rest = prefix_shorter xs ys zs (p.0, cc (p.1)) (q.0, cc (q.1)) (omega arith) in
    (rest.0, cc (heads, rest.1))

-- an act of the queue is added at the end
pub acts_of-own : (queue : ℕ) (log : List Act) (a : Act) → a.queue ≡ queue → acts_of queue (log ++ a ∷ []) ≡ acts_of queue log ++ a ∷ []
acts_of-own queue log a is = filter-append (is_of queue) log (a ∷ []) ∙ ap (λ b. acts_of queue log ++ cond b (a ∷ []) []) (eq-eqb a.queue queue is)

-- an act of another queue adds none
pub acts_of-other : (queue : ℕ) (log : List Act) (a : Act) → a.queue ≢ queue → acts_of queue (log ++ a ∷ []) ≡ acts_of queue log
acts_of-other queue log a ne = filter-append (is_of queue) log (a ∷ []) ∙ (ap (λ b. acts_of queue log ++ cond b (a ∷ []) []) (ne_eqb a.queue queue ne) ∙ append-nil (acts_of queue log))

nil_left : {A : Type 0} (xs ys : List A) → xs ++ ys ≡ [] → xs ≡ []
nil_left [] ys e = refl
nil_left (x ∷ xs) ys e = absurd (cc e)

-- a prefix of a list without acts of the queue has none
pub acts_of-none : (queue : ℕ) (xs log : List Act) → IsPrefix xs log → acts_of queue log ≡ [] → acts_of queue xs ≡ []
acts_of-none queue xs log p none = nil_left (acts_of queue xs) (acts_of queue p.0) (sym (filter-append (is_of queue) xs p.0) ∙ (ap (acts_of queue) p.1 ∙ none))

-- a list between two that have the same acts of a queue has them too
pub acts_of-between : (queue : ℕ) (xs ys zs own : List Act) → IsPrefix xs ys → IsPrefix ys zs → acts_of queue xs ≡ own → acts_of queue zs ≡ own → acts_of queue ys ≡ own
acts_of-between queue xs ys zs own p r first last =
    let a : acts_of queue ys ≡ acts_of queue xs ++ acts_of queue p.0 = ap (acts_of queue) (sym p.1) ∙ filter-append (is_of queue) xs p.0 in
    let b : acts_of queue zs ≡ acts_of queue ys ++ acts_of queue r.0 = ap (acts_of queue) (sym r.1) ∙ filter-append (is_of queue) ys r.0 in
    let all : acts_of queue xs ++ (acts_of queue p.0 ++ acts_of queue r.0) ≡ acts_of queue xs ++ [] =
    sym (append_assoc (acts_of queue xs) (acts_of queue p.0) (acts_of queue r.0)) ∙ (ap (λ z. z ++ acts_of queue r.0) (sym a) ∙ (sym b ∙ (last ∙ (sym first ∙ sym (append-nil (acts_of queue xs)))))) in
    let none : acts_of queue p.0 ≡ [] = nil_left (acts_of queue p.0) (acts_of queue r.0) (append_cancel_left (acts_of queue xs) (acts_of queue p.0 ++ acts_of queue r.0) [] all) in
    a ∙ (ap (λ z. acts_of queue xs ++ z) none ∙ (append-nil (acts_of queue xs) ∙ first))

-- if the shorter of two lists is a prefix of the longer, each is a prefix of the longer
told_by : (xs ys : List Act) (b : Bool) → ((b ≡ true) × (length xs ≤ length ys)) ⊎ ((b ≡ false) × (length ys < length xs)) → (length (cond b xs ys) ≤ length (cond b ys xs) → IsPrefix (cond b xs ys) (cond b ys xs)) → IsPrefix xs (cond b ys xs) × IsPrefix ys (cond b ys xs)
told_by xs ys true (inl t) h = let le = t.1 in (h le, prefix_self ys)
told_by xs ys true (inr t) h = absurd (cc (t.0))
told_by xs ys false (inl t) h = absurd (cc (t.0))
told_by xs ys false (inr t) h = let lt = t.1 in (prefix_self xs, h (omega arith))

pub told-both : (xs ys : List Act) → (length (shorter xs ys) ≤ length (longer xs ys) → IsPrefix (shorter xs ys) (longer xs ys)) → IsPrefix xs (longer xs ys) × IsPrefix ys (longer xs ys)
told-both xs ys h = told_by xs ys (leb (length xs) (length ys)) (leb_tells (length xs) (length ys)) h
