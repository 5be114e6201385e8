use Rattle.std.proofs.Common.{◌≡◌, ◌+◌, Option, List, [], ◌∷◌, ◌++◌, length, ap, sym, ◌∙◌, subst, arith, length-append}
use Rattle.std.specs.Option.{option_to_list}
use Rattle.queue_controller.specs.Keeping.{rested}
use Rattle.queue_controller.specs.Jobs.{ArePrepared, IsReplyTo, acts_in}
use Rattle.queue_controller.specs.declared.job.Prepared.{Prepared}
use Rattle.queue_controller.proofs.Served.{next_own, next_seen, next_replies}
use Rattle.queue_controller.proofs.job.work.Goals as goal

pub loop-prepared-preserved : goal.loop-prepared-preserved
loop-prepared-preserved g c =
    let inv = c.loop-prepared.invariant in
    let x : Prepared = c.in-Some.prepared in
    let xs : List Prepared = c.pop_front.new.self.items in
    let v = c.loop-prepared.job.pass.sight in
    let w = c.reply_to-reply.new.pass.sight in
    let r = c.reply_to-reply.result in
    let geometry = c.args.desk.now.geometry in
    let s = c.reply_to-reply.ensures.served in
    let items : c.loop-prepared.job.left.items ≡ x ∷ xs = c.pop_front.ensures.items ∙ ap (λ (o : Option Prepared). option_to_list o ++ xs) c.in-Some.is in
    let all : ArePrepared geometry v.queue (x ∷ xs) = subst (ArePrepared geometry v.queue) items inv.prepared in
    let mine = all.0.queue_is in
    let long : length c.loop-prepared.job.left.items ≡ length xs + 1 = ap (λ (l : List Prepared). length l) items ∙ omega arith in
    let spare = s.spare in
    let little = inv.spare in
    let p = c.push_reserved.ensures in
    let P = IsReplyTo geometry x.act r in
    record {
      holds = c.reply_to-reply.ensures.holds;
      queue = s.queue ∙ inv.queue;
      own = next_own (rested v) (rested w) x.act P s (acts_in xs) (acts_in c.args.job.now.left.items) (ap (λ (l : List Prepared). v.own ++ acts_in l) (sym items) ∙ inv.own);
      seen = next_seen (rested v) (rested w) x.act P s mine;
      replies = rw p.items (next_replies geometry (rested v) (rested w) x.act r s c.loop-prepared.job.replies.items mine inv.seen inv.replies);
      room = let room = inv.room in let more = ap (λ l. length l) p.items in let n = length-append c.loop-prepared.job.replies.items (r ∷ []) in omega (arith, p.capacity, room, more, n, long);
      spare = omega arith;
      prepared = rw s.queue all.1;
    }
