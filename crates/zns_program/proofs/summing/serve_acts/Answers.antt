use Rattle.std.proofs.Common.{◌≡◌, ◌∷◌, [], sym, ap, ◌∙◌, refl, arith, length-append}
use Rattle.std.specs.Prelude.{not, count_by}
use Rattle.zns_types.specs.Statuses.{is_success}
use Rattle.zone_model.specs.Places.{Place, took}
use Rattle.zone_model.specs.Answers.{status, answered}
use Rattle.zone_model.proofs.Histories.{answered-none}
use Rattle.zns_program.specs.Serving.{IsReply}
use Rattle.zns_program.proofs.Counted.{one_of_both, success-push, refused-push}
use Rattle.zns_program.proofs.summing.serve_acts.Goals as goal

pub loop-act-init : goal.loop-act-init
loop-act-init c =
    let g = c.args.drive.now.geometry in
    record {
      acts = c.requires.fresh;
      room = omega (arith, c.requires.room);
      geometry = refl;
      success = sym (ap (count_by took) (answered-none g));
      refused = sym (ap (count_by (λ (p : Place). not (took p))) (answered-none g));
      both = refl;
    }

pub loop-act-preserved : goal.loop-act-preserved
loop-act-preserved c =
    let g = c.args.drive.now.geometry in
    let all = c.loop-act.invariant in
    let acts = c.loop-act.yielded in
    let act = c.in-Some.act in
    let is : IsReply g (answered g acts) act c.in_ok-reply.reply = rw (all.geometry, all.acts) at c.in_ok-reply.ensures.reply in
    let told : c.took-took.result ≡ is_success (status g (answered g acts) act) = c.took-took.ensures g (answered g acts) act is in
    record {
      acts = rw (← all.acts) c.in_ok-reply.ensures.acts;
      room = omega (arith, length-append acts (act ∷ []), c.in_ok-reply.ensures.spare, all.room);
      geometry = c.in_ok-reply.ensures.geometry ∙ all.geometry;
      success = rw (c.from-success.ensures, told, all.success) (sym (success-push g acts act));
      refused = rw (c.from-refused.ensures, told, all.refused) (sym (refused-push g acts act));
      both = omega (arith, length-append acts (act ∷ []), c.from-success.ensures, c.from-refused.ensures, one_of_both c.took-took.result, all.both);
    }
