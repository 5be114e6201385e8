use Rattle.std.proofs.Common.{◌≡◌, ℕ, ◌+◌, ◌∷◌, [], ◌++◌, length, sym, ap, ◌∙◌, arith, length-append}
use Rattle.std.proofs.lemmas.Result.{err_from_is_err_and}
use Rattle.std.proofs.lemmas.List.Elements.{All-push}
use Rattle.std.specs.List.{flat_map}
use Rattle.sqe_codec.specs.Commands.{reply_len}
use Rattle.zone_model.specs.declared.act.Act.{Act}
use Rattle.zone_model.specs.Places.{command_of}
use Rattle.zone_model.specs.Sessions.{IsAct, record_bytes}
use Rattle.session_file.specs.Streams.{GoesOn, IsNext}
use Rattle.session_file.proofs.Streams.{goes_on-behind, goes_on-then, one_record_more, stops_after, sum_of-push}
use Rattle.session_file.proofs.streaming.take_records.Goals as goal

pub returns-in_err-act-clause-stops : goal.returns-in_err-act-clause-stops
returns-in_err-act-clause-stops g c =
    let p = err_from_is_err_and c.from_residual-in_err-act.result c.from_residual-in_err-act.ensures.1 in
    let all = c.loop-number.invariant in
    rw p.1 (stops_after (g.S.Source.left c.args.source.now) (g.S.Source.left c.loop-number.source) (g.S.Source.left c.take_record.new.source) c.args.feed.now c.loop-number.feed c.take_record.new.feed c.args.g.now.fields c.loop-number.acts.acts all.goes_on c.in_err-act.ensures.stops all.acts (omega (arith, all.count, c.requires.few)) (omega (arith, all.sent, all.few_sent)) (omega (arith, c.in_err-act.ensures.held)))

pub returns-in-None-clause-goes_on : goal.returns-in-None-clause-goes_on
returns-in-None-clause-goes_on g c =
    let mid = g.S.Source.left c.loop-number.source in
    let now = g.S.Source.left c.take_record.new.source in
    let records = flat_map record_bytes c.loop-number.acts.acts in
    let more : GoesOn mid now c.loop-number.feed c.take_record.new.feed = rw c.in-None.is at c.in_ok-act.ensures.goes_on in
    goes_on-then (g.S.Source.left c.args.source.now) mid now c.args.feed.now (records ++ c.loop-number.feed) (records ++ c.take_record.new.feed) c.loop-number.invariant.goes_on (goes_on-behind mid now records c.loop-number.feed c.take_record.new.feed more)

pub loop-number-preserved : goal.loop-number-preserved
loop-number-preserved g c =
    let all = c.loop-number.invariant in
    let acts = c.loop-number.acts.acts in
    let a = c.in-Some.field-0.act in
    let fields = c.args.g.now.fields in
    let mid = g.S.Source.left c.loop-number.source in
    let now = g.S.Source.left c.take_record.new.source in
    let more : GoesOn mid now c.loop-number.feed (record_bytes a ++ c.take_record.new.feed) = rw c.in-Some.is at c.in_ok-act.ensures.goes_on in
    let next : IsNext fields c.loop-number.before c.in-Some.field-0 = rw c.in-Some.is at c.in_ok-act.ensures.next in
    let pushed : c.push.new.self.acts ≡ acts ++ a ∷ [] = c.push.ensures.acts in
    record {
      goes_on = rw pushed (one_record_more (g.S.Source.left c.args.source.now) mid now c.args.feed.now c.loop-number.feed c.take_record.new.feed acts a all.goes_on more);
      acts = rw pushed (All-push (IsAct fields) acts a all.acts next.act);
      sent = rw pushed (sum_of-push (λ (x : Act). length x.payload) acts a ∙ ap (λ (n : ℕ). n + length a.payload) all.sent ∙ sym next.sent);
      asked = rw pushed (sum_of-push (λ (x : Act). reply_len fields (command_of x)) acts a ∙ ap (λ (n : ℕ). n + reply_len fields (command_of a)) all.asked ∙ sym next.asked);
      few_sent = next.few_sent;
      few_asked = next.few_asked;
      count = omega (arith, ap length pushed, length-append acts (a ∷ []), all.count);
      room = omega (arith, c.push.ensures.spare, all.room);
      held = c.in_ok-act.ensures.held;
      faults = omega (arith, all.faults, c.in_ok-act.ensures.never_falls);
    }
