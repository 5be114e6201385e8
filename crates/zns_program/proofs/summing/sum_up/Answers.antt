use Rattle.std.proofs.Common.{◌≡◌, List, length, ap, ◌∙◌}
use Rattle.zone_model.specs.declared.act.Act.{Act}
use Rattle.solo_drive.specs.Drives.{Drive}
use Rattle.zns_program.proofs.Counted.{same_totals}
use Rattle.zns_program.proofs.summing.sum_up.Goals as goal

pub returns : goal.returns
returns c =
    let drive = c.serve_acts.new.drive in
    let made = ap (λ (d : Drive). d.geometry) c.in_ok-drive.ensures in
    let geometry_is : drive.geometry ≡ c.args.session.geometry = cc (c.in_ok-counts.ensures.geometry, made, c.into_parts-acts.ensures.geometry) in
    let acts_is : drive.acts ≡ c.args.session.acts = cc (c.in_ok-counts.ensures.acts, c.into_vec.ensures, c.into_parts-acts.ensures.acts) in
    rw c.limits-limits.ensures (same_totals c.args.session drive c.len-commands.result c.in_ok-counts.counts.success c.in_ok-counts.counts.refused c.pointers_of.result geometry_is acts_is (c.len-commands.ensures ∙ ap (λ (acts : List Act). length acts) c.into_parts-acts.ensures.acts) c.in_ok-counts.ensures.success c.in_ok-counts.ensures.refused c.pointers_of.ensures)
