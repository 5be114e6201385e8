use Rattle.std.proofs.Common.{◌≡◌, ◌∷◌, [], ◌++◌, arith, length-append, ◌∙◌}
use Rattle.zone_model.specs.Answers.{answered}
use Rattle.zns_program.proofs.Orders.{act_bytes}
use Rattle.zns_program.proofs.ServedActs.{one_act_more}
use Rattle.zns_program.proofs.serving.serve_acts.Goals as goal

pub loop-act-preserved : goal.loop-act-preserved
loop-act-preserved c =
    let g = c.args.drive.now.geometry in
    let all = c.loop-act.invariant in
    let more : c.serve_into.new.file ≡ c.loop-act.file ++ act_bytes g (answered g c.loop-act.yielded) c.in-Some.act = rw (all.geometry, all.acts) at c.in_ok-serve_into.ensures.file in
    record {
      acts = rw (← all.acts) c.in_ok-serve_into.ensures.acts;
      spare = omega (arith, length-append c.loop-act.yielded (c.in-Some.act ∷ []), c.in_ok-serve_into.ensures.spare, all.spare);
      geometry = c.in_ok-serve_into.ensures.geometry ∙ all.geometry;
      file = one_act_more g c.loop-act.yielded c.in-Some.act c.args.file.now c.loop-act.file c.serve_into.new.file all.file more;
    }
