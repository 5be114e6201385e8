-- The whole result file.
use Rattle.std.proofs.Common.{◌≡◌, ℕ, List, refl, sym, ap, subst}
use Rattle.std.specs.Prelude.{Result, Ok, Err, IfOk}
use Rattle.zns_types.specs.declared.fields.GeometryFields.{GeometryFields}
use Rattle.zone_model.specs.declared.act.Act.{Act}
use Rattle.zone_model.specs.declared.reply.Reply.{Reply}
use Rattle.zone_model.specs.Answers.{answered}
use Rattle.zone_model.specs.Notices.{changed}
use Rattle.zone_model.specs.Replies.{descriptors}
use Rattle.drive_rules.specs.Reports.{bytes_of_all, changed_page}
use Rattle.zone_model.specs.Sessions.{Recorded, own_order, result_bytes}
use Rattle.session_file.specs.Results.{result_parts}
use Rattle.zns_program.specs.Sessions.{IsOwnResult}
use Rattle.zns_program.specs.Serving.{AreReplies}
use Rattle.zns_program.proofs.Orders.{own_order-is_order, merged-own_order}

-- the parts of the result of a drive that served acts in their own order
pub whole : (g : GeometryFields) (acts : List Act) (replies : List Reply) (zones page : List ℕ) → AreReplies g acts replies
    → zones ≡ bytes_of_all (descriptors g (answered g acts)) → page ≡ changed_page g (changed g (answered g acts))
    → result_parts (own_order acts) replies zones page ≡ result_bytes g (own_order acts) acts
unfolding result_parts result_bytes
whole g acts replies zones page are zones_are page_is = rw (are.bytes, zones_are, page_is) refl

-- the result in the order of the file
pub own_result : (s : Recorded) → IsOwnResult s (result_bytes s.geometry (own_order s.acts) s.acts)
own_result s = record { each_once = own_order-is_order s.acts; spelled = ap (result_bytes s.geometry (own_order s.acts)) (sym (merged-own_order s.acts)) }

-- what holds of a list holds of a result that is this list
pub answer_has : {E : Type 0} (r : Result (List ℕ) E) (x : List ℕ) (P : List ℕ → Type 0) → IfOk r (λ b. b ≡ x) → P x → IfOk r P
answer_has (Ok b) x P is has = subst P (sym is) has
answer_has (Err error) x P is has = is
