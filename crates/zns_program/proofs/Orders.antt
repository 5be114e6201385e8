-- The order of the file, and what is written of acts one after another.
use Rattle.std.proofs.Common.{◌≡◌, ℕ, ◌+◌, List, [], ◌∷◌, ◌++◌, refl, sym, ap, ◌∙◌}
use Rattle.std.specs.Prelude.{◌==◌}
use Rattle.std.proofs.lemmas.Bool.{eq-eqb}
use Rattle.std.proofs.lemmas.List.{append_assoc, append-nil}
use Rattle.drive_rules.specs.Shown.{one}
use Rattle.zns_types.specs.declared.fields.GeometryFields.{GeometryFields}
use Rattle.zone_model.specs.declared.act.Act.{Act}
use Rattle.zone_model.specs.Places.{Place}
use Rattle.zone_model.specs.Answers.{answered, answered_back, and_then}
use Rattle.zone_model.specs.Entries.{posted}
use Rattle.zone_model.specs.Replies.{reply_bytes}
use Rattle.zone_model.specs.Sessions.{is_of, IsOrder, merged, own_order, reply_part, replies_bytes}
use Rattle.zone_model.proofs.Histories.{answered-push}
use Rattle.zone_model.proofs.Merging.{count-cons}

-- the order of the file is an order of the acts
pub own_order-is_order : (acts : List Act) → IsOrder acts (own_order acts)
own_order-is_order [] queue = refl
own_order-is_order (a ∷ acts) queue =
    count-cons (λ q. q == queue) a.queue (own_order acts)
    ∙ ap (λ (n : ℕ). one (is_of queue a) + n) (own_order-is_order acts queue)
    ∙ sym (count-cons (is_of queue) a acts)

-- the acts in the order of the file are the acts
pub merged-own_order : (acts : List Act) → merged acts (own_order acts) ≡ acts
merged-own_order [] = refl
merged-own_order (a ∷ acts) = rw (eq-eqb a.queue a.queue refl) (ap (λ (more : List Act). a ∷ more) (merged-own_order acts))

-- what is written of an act after a history
abbrev pub act_bytes : GeometryFields → List Place → Act → List ℕ
act_bytes g h a = reply_part (posted g h a) (reply_bytes g h a)

pushed : (g : GeometryFields) (h : List Place) (pre mid : List Act) (a : Act) → h ≡ answered g pre → replies_bytes g h (mid ++ a ∷ []) ≡ replies_bytes g h mid ++ act_bytes g (answered g (pre ++ mid)) a
pushed g h pre [] a e = append-nil _ ∙ ap (λ (x : List Place). act_bytes g x a) (e ∙ ap (answered g) (sym (append-nil pre)))
pushed g h pre (b ∷ mid) a e =
    let next : and_then g h b ≡ answered g (pre ++ b ∷ []) = ap (λ (x : List Place). and_then g x b) e ∙ sym (answered-push g pre b) in
    let rest = pushed g (and_then g h b) (pre ++ b ∷ []) mid a next in
    let joined : (pre ++ b ∷ []) ++ mid ≡ pre ++ b ∷ mid = append_assoc pre (b ∷ []) mid in
    ap (λ (tail : List ℕ). act_bytes g h b ++ tail) (rest ∙ ap (λ (acts : List Act). replies_bytes g (and_then g h b) mid ++ act_bytes g (answered g acts) a) joined)
    ∙ sym (append_assoc (act_bytes g h b) (replies_bytes g (and_then g h b) mid) (act_bytes g (answered g (pre ++ b ∷ mid)) a))

-- what is written of one more act
pub replies_bytes-push : (g : GeometryFields) (acts : List Act) (a : Act) → replies_bytes g [] (acts ++ a ∷ []) ≡ replies_bytes g [] acts ++ act_bytes g (answered g acts) a
unfolding answered answered_back
replies_bytes-push g acts a = pushed g [] [] acts a refl
