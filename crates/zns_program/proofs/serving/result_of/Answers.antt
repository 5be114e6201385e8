use Rattle.std.proofs.Common.{◌≡◌, List, ◌∙◌, ap}
use Rattle.zone_model.specs.declared.act.Act.{Act}
use Rattle.zone_model.specs.Sessions.{own_order, result_bytes}
use Rattle.session_file.specs.Results.{result_parts}
use Rattle.zns_program.proofs.Results.{whole, answer_has}
use Rattle.zns_program.proofs.serving.result_of.Goals as goal

pub returns : goal.returns
returns c =
    let drive = c.args.drive.now in
    let replies = c.args.replies.now.replies in
    let zones = c.deref.result.now in
    let page = c.deref-2.result.now in
    let parts = whole drive.geometry drive.acts replies zones page c.requires (c.deref.ensures.value ∙ c.in_ok-descriptors.ensures) (c.deref-2.ensures.value ∙ c.in_ok-page.ensures) in
    let acts_is = ap (λ (acts : List Act). result_parts (own_order acts) replies zones page) c.journal.ensures.acts in
    answer_has c.write_result.result (result_parts (own_order c.journal.result.now.acts) replies zones page) (λ bytes. bytes ≡ result_bytes drive.geometry (own_order drive.acts) drive.acts) c.write_result.ensures (acts_is ∙ parts)
