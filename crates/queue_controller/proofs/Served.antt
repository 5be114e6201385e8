-- A worker served one more act.
use Rattle.std.proofs.Common.{◌≡◌, ℕ, List, [], ◌∷◌, ◌++◌, ap, sym, ◌∙◌, subst, append_assoc}
use Rattle.zns_types.specs.declared.fields.GeometryFields.{GeometryFields}
use Rattle.zone_model.specs.declared.act.Act.{Act}
use Rattle.zone_model.specs.declared.reply.Reply.{Reply}
use Rattle.zone_model.specs.Sessions.{acts_of}
use Rattle.zone_desk.specs.declared.sight.Sight.{Sight}
use Rattle.zone_desk.proofs.Lists.{acts_of-own}
use Rattle.queue_controller.specs.Serving.{Serves}
use Rattle.queue_controller.specs.Replies.{response_at, queue_responses, Respond}
use Rattle.queue_controller.specs.Jobs.{IsReplyTo}
use Rattle.queue_controller.proofs.Responses.{queue_responses-append, queue_responses-own, queue_responses-same, respond_more}

module _ (v w : Sight) (a : Act) (P : List Act → Type 0) (s : Serves v a P w) where
  -- its own acts, and those that are left
  pub next_own : (left all : List Act) → v.own ++ a ∷ left ≡ all → w.own ++ left ≡ all
  next_own left all own = ap (λ (l : List Act). l ++ left) s.own ∙ (append_assoc v.own (a ∷ []) left ∙ own)

  pub next_seen : a.queue ≡ v.queue → acts_of w.queue w.seen ≡ w.own
  next_seen mine =
      ap (λ (q : ℕ). acts_of q w.seen) s.queue
      ∙ (ap (acts_of v.queue) s.seen
      ∙ (acts_of-own v.queue (v.seen ++ s.between) a mine
      ∙ (ap (λ (l : List Act). l ++ a ∷ []) s.before ∙ sym s.own)))

module _ (g : GeometryFields) (v w : Sight) (a : Act) (r : Reply) (s : Serves v a (IsReplyTo g a r) w) where
  pub next_replies : (rs : List Reply) → a.queue ≡ v.queue → acts_of v.queue v.seen ≡ v.own → Respond rs (queue_responses g v.queue [] v.seen) → Respond (rs ++ r ∷ []) (queue_responses g w.queue [] w.seen)
  next_replies rs mine own old =
      let q : ℕ = v.queue in
      let seen : List Act = v.seen ++ s.between in
      let same : queue_responses g q [] v.seen ≡ queue_responses g q [] seen = sym (queue_responses-same g q v.seen s.between (s.before ∙ sym own)) in
      let more : Respond (rs ++ r ∷ []) (queue_responses g q [] seen ++ response_at g seen a ∷ []) =
      respond_more rs (queue_responses g q [] seen) r (response_at g seen a) (subst (Respond rs) same old) s.answered.is s.answered.short in
      let all : queue_responses g q [] (seen ++ a ∷ []) ≡ queue_responses g q [] seen ++ response_at g seen a ∷ [] =
      queue_responses-append g q [] seen (a ∷ []) ∙ ap (λ l. queue_responses g q [] seen ++ l) (queue_responses-own g q seen [] a mine) in
      subst (Respond (rs ++ r ∷ [])) (sym all ∙ (ap (queue_responses g q []) (sym s.seen) ∙ ap (λ (k : ℕ). queue_responses g k [] w.seen) (sym s.queue))) more
