use Rattle.std.proofs.Common.{◌≡◌, [], ◌++◌, sym, ap, subst, ◌∙◌}
use Rattle.solo_drive.specs.Drives.{Drive}
use Rattle.zone_model.specs.Sessions.{own_order, order_bytes, replies_bytes, result_bytes}
use Rattle.zns_program.specs.Sessions.{IsOwnResult}
use Rattle.zns_program.proofs.Results.{own_result, answer_has}
use Rattle.zns_program.proofs.ServedActs.{all_served}
use Rattle.zns_program.proofs.serving.serve.Goals as goal

pub returns : goal.returns
returns c =
    let s = c.args.session in
    let drive = c.serve_acts.new.drive in
    let file = c.serve_acts.new.file in
    let zones = c.deref.result.now in
    let page = c.deref-2.result.now in
    let made = ap (λ (d : Drive). d.geometry) c.in_ok-drive.ensures in
    let acts_is : drive.acts ≡ s.acts = cc (c.in_ok-serve_acts.ensures.acts, c.into_vec.ensures, c.into_parts-acts.ensures.acts) in
    let geometry_is : drive.geometry ≡ s.geometry = cc (c.in_ok-serve_acts.ensures.geometry, made, c.into_parts-acts.ensures.geometry) in
    let written : file ≡ order_bytes (own_order drive.acts) ++ replies_bytes drive.geometry [] drive.acts = cc (c.in_ok-serve_acts.ensures.file, c.in_ok-file.ensures, c.in_ok-serve_acts.ensures.acts, c.in_ok-serve_acts.ensures.geometry, c.into_vec.ensures) in
    let whole = all_served drive.geometry drive.acts file zones page written (c.deref.ensures.value ∙ c.in_ok-descriptors.ensures) (c.deref-2.ensures.value ∙ c.in_ok-page.ensures) in
    let own : IsOwnResult s (result_bytes drive.geometry (own_order drive.acts) drive.acts) = rw (geometry_is, acts_is) (own_result s) in
    answer_has c.finish.result (file ++ zones ++ page) (IsOwnResult s) c.finish.ensures (subst (IsOwnResult s) (sym whole) own)
