use Rattle.std.proofs.Common.{◌≡◌, ◌∷◌, [], ◌++◌, List, refl, ap, sym, ◌∙◌, arith, length-append}
use Rattle.std.proofs.lemmas.Result.{err_from_is_err_and}
use Rattle.zone_model.specs.declared.act.Act.{Act}
use Rattle.zone_model.specs.Answers.{answered}
use Rattle.zone_model.specs.Sessions.{replies_bytes}
use Rattle.session_file.specs.Results.{part_of}
use Rattle.zns_program.specs.Serving.{IsReply}
use Rattle.zns_program.specs.Tails.{ComeOthers}
use Rattle.zns_program.proofs.Iterated.{given_first}
use Rattle.zns_program.proofs.Tails.{stays_here, stays_then, nothing_next, stops_so}
use Rattle.zns_program.proofs.Checked.{reply_next, reply_others}
use Rattle.zns_program.proofs.checking.take_replies.Goals as goal

pub loop-act-init : goal.loop-act-init
loop-act-init g c = record {
  acts = c.requires.fresh;
  room = omega (arith, c.requires.room);
  geometry = refl;
  stays = stays_here (g.S.Source.left c.args.source.now) c.args.tail.now;
  next = nothing_next (g.S.Source.left c.args.source.now) c.args.tail.now;
  faults = omega arith;
}

pub returns-in_err-take_reply-clause-stops : goal.returns-in_err-take_reply-clause-stops
returns-in_err-take_reply-clause-stops g c =
    let p = err_from_is_err_and c.from_residual-in_err-take_reply.result c.from_residual-in_err-take_reply.ensures.1 in
    let geometry = c.args.drive.now.geometry in
    let all = c.loop-act.invariant in
    let left = g.S.Source.left c.args.source.now in
    let mid = g.S.Source.left c.loop-act.source in
    let is : IsReply geometry (answered geometry c.loop-act.yielded) c.in-Some.act c.in_ok-reply.reply = rw (all.geometry, all.acts) at c.in_ok-reply.ensures.reply in
    let rest = c.next.new.self.rest.items in
    let whole : c.args.acts.items ≡ c.loop-act.yielded ++ c.in-Some.act ∷ rest =
    sym c.into_iter-act-iterator.ensures.into_iter_gives.0 ∙ given_first c.into_iter-act-iterator.result c.loop-act.yielded c.loop-act.act-iterator c.loop-act.yielded_by ∙ ap (λ (xs : List Act). c.loop-act.yielded ++ xs) c.in-Some.ensures.steps.0 in
    rw (p.1, p.2) (stops_so (g.S.Source.faults c.args.source.now) (g.S.Source.faults c.loop-act.source) (g.S.Source.faults c.take_reply.new.source) c.take_reply.new.tail (ComeOthers mid c.loop-act.tail (part_of c.in_ok-reply.reply)) (ComeOthers left c.args.tail.now (replies_bytes geometry [] c.args.acts.items)) c.in_err-take_reply.field-0.0 all.faults
    (λ offset others. reply_others geometry left mid c.args.tail.now c.loop-act.tail c.args.acts.items c.loop-act.yielded c.in-Some.act rest c.in_ok-reply.reply offset whole is all.stays all.next others)
    c.in_err-take_reply.ensures.stops)

pub loop-act-preserved : goal.loop-act-preserved
loop-act-preserved g c =
    let geometry = c.args.drive.now.geometry in
    let all = c.loop-act.invariant in
    let left = g.S.Source.left c.args.source.now in
    let mid = g.S.Source.left c.loop-act.source in
    let now = g.S.Source.left c.take_reply.new.source in
    let is : IsReply geometry (answered geometry c.loop-act.yielded) c.in-Some.act c.in_ok-reply.reply = rw (all.geometry, all.acts) at c.in_ok-reply.ensures.reply in
    record {
      acts = rw (← all.acts) c.in_ok-reply.ensures.acts;
      room = omega (arith, length-append c.loop-act.yielded (c.in-Some.act ∷ []), c.in_ok-reply.ensures.spare, all.room);
      geometry = c.in_ok-reply.ensures.geometry ∙ all.geometry;
      stays = stays_then left mid now c.args.tail.now c.loop-act.tail c.take_reply.new.tail all.stays c.in_ok-take_reply.ensures.stays;
      next = reply_next geometry left mid c.args.tail.now c.loop-act.tail c.take_reply.new.tail c.loop-act.yielded c.in-Some.act c.in_ok-reply.reply is all.stays all.next c.in_ok-take_reply.ensures.same;
      faults = omega (arith, all.faults, c.in_ok-take_reply.ensures.never_falls);
    }
