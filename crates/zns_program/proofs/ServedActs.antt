-- What is written of acts that are served one after another, with one more.
use Rattle.std.proofs.Common.{◌≡◌, ℕ, List, [], ◌∷◌, ◌++◌, refl, sym, ap, ◌∙◌}
use Rattle.std.proofs.lemmas.List.{append_assoc}
use Rattle.zns_types.specs.declared.fields.GeometryFields.{GeometryFields}
use Rattle.zone_model.specs.declared.act.Act.{Act}
use Rattle.zone_model.specs.Answers.{answered}
use Rattle.zone_model.specs.Notices.{changed}
use Rattle.zone_model.specs.Replies.{descriptors}
use Rattle.zone_model.specs.Sessions.{own_order, order_bytes, replies_bytes, result_bytes}
use Rattle.drive_rules.specs.Reports.{bytes_of_all, changed_page}
use Rattle.zns_program.proofs.Orders.{act_bytes, replies_bytes-push}

pub one_act_more : (g : GeometryFields) (acts : List Act) (a : Act) (start file next : List ℕ) → file ≡ start ++ replies_bytes g [] acts → next ≡ file ++ act_bytes g (answered g acts) a → next ≡ start ++ replies_bytes g [] (acts ++ a ∷ [])
one_act_more g acts a start file next f n =
    n ∙ ap (λ (b : List ℕ). b ++ act_bytes g (answered g acts) a) f
    ∙ append_assoc start (replies_bytes g [] acts) (act_bytes g (answered g acts) a)
    ∙ ap (λ (b : List ℕ). start ++ b) (sym (replies_bytes-push g acts a))

-- the whole file, once all acts are served
pub all_served : (g : GeometryFields) (acts : List Act) (file zones page : List ℕ) → file ≡ order_bytes (own_order acts) ++ replies_bytes g [] acts
    → zones ≡ bytes_of_all (descriptors g (answered g acts)) → page ≡ changed_page g (changed g (answered g acts))
    → file ++ zones ++ page ≡ result_bytes g (own_order acts) acts
unfolding result_bytes
all_served g acts file zones page file_is zones_are page_is = rw (file_is, zones_are, page_is) refl
