-- What is written of the replies that answer all acts.
use Rattle.std.proofs.Common.{◌≡◌, ℕ, suc, List, [], ◌∷◌, ◌++◌, length, map, refl, sym, ap, ◌∙◌, subst}
use Rattle.std.proofs.lemmas.List.{length-map}
use Rattle.std.specs.List.{flat_map}
use Rattle.zns_types.specs.declared.fields.GeometryFields.{GeometryFields}
use Rattle.zone_model.specs.declared.act.Act.{Act}
use Rattle.zone_model.specs.declared.reply.Reply.{Reply}
use Rattle.zone_model.specs.Laws.{IsKept}
use Rattle.zone_model.specs.Places.{Place}
use Rattle.zone_model.specs.Answers.{answered, answered_back, and_then}
use Rattle.zone_model.specs.Entries.{posted}
use Rattle.zone_model.specs.Replies.{reply_bytes}
use Rattle.zone_model.specs.Sessions.{Recorded, IsMerge, own_order, reply_part, replies_bytes, result_bytes}
use Rattle.zone_model.proofs.Histories.{answered-push}
use Rattle.session_file.specs.Results.{part_of}
use Rattle.queue_controller.specs.Replies.{Response, response_of, response_at, all_responses, Respond}
use Rattle.queue_controller.specs.Sessions.{Runs}
use Rattle.queue_controller.specs.declared.closing.Outcome.{Outcome}
use Rattle.zns_program.specs.Serving.{AreReplies}
use Rattle.zns_program.specs.Runs.{IsRun}

-- what is written of a response
abbrev pub written : Response → List ℕ
written r = reply_part r.entries r.read

responses-count : (g : GeometryFields) (before acts : List Act) → length (all_responses g before acts) ≡ length acts
responses-count g before [] = refl
responses-count g before (a ∷ acts) = ap suc (responses-count g (before ++ a ∷ []) acts)

parts : (g : GeometryFields) (h : List Place) (before acts : List Act) (replies : List Reply) → h ≡ answered g before → map response_of replies ≡ all_responses g before acts → flat_map part_of replies ≡ replies_bytes g h acts
parts g h before [] [] at are = refl
parts g h before [] (r ∷ replies) at are = absurd (cc are)
parts g h before (a ∷ acts) [] at are = absurd (cc are)
parts g h before (a ∷ acts) (r ∷ replies) at are =
    let first : response_of r ≡ response_at g before a = cc are in
    let others : map response_of replies ≡ all_responses g (before ++ a ∷ []) acts = cc are in
    let next : and_then g h a ≡ answered g (before ++ a ∷ []) = ap (λ (x : List Place). and_then g x a) at ∙ sym (answered-push g before a) in
    let part : part_of r ≡ written (response_at g before a) = ap written first in
    ap (λ (bytes : List ℕ). bytes ++ flat_map part_of replies) part
    ∙ (ap (λ (bytes : List ℕ). written (response_at g before a) ++ bytes) (parts g (and_then g h a) (before ++ a ∷ []) acts replies next others)
    ∙ ap (λ (x : List Place). reply_part (posted g x a) (reply_bytes g x a) ++ replies_bytes g (and_then g h a) acts) (sym at))

pub are_replies : (g : GeometryFields) (acts : List Act) (replies : List Reply) → Respond replies (all_responses g [] acts) → AreReplies g acts replies
unfolding answered answered_back
are_replies g acts replies respond = record {
  count = sym (length-map replies response_of) ∙ (ap (λ (l : List Response). length l) respond.are ∙ responses-count g [] acts);
  short = respond.short;
  bytes = parts g [] [] acts replies refl respond.are;
}

-- the result file of an outcome is a result of its session
pub is_run : (s : Recorded) (o : Outcome) → Runs s o → IsRun s (result_bytes o.drive.geometry (own_order o.drive.acts) o.drive.acts)
is_run s o runs =
    let order : List ℕ = own_order o.drive.acts in
    record {
      order = order;
      result = record {
        each_once = runs.each_once;
        spelled = ap (λ (g : GeometryFields). result_bytes g order o.drive.acts) runs.geometry ∙ ap (result_bytes s.geometry order) runs.merged;
      };
      queues = subst (IsMerge s.acts) runs.merged runs.queues;
      kept = subst (IsKept s.geometry) runs.merged runs.kept;
    }
