use Rattle.std.proofs.Common.{◌≡◌, ◌+◌, ◌<◌, List, [], ◌∷◌, ◌++◌, length, take, ap, ◌∙◌, arith, length-set}
use Rattle.std.specs.Global.{Global}
use Rattle.std.specs.declared.collections.VecDeque.{VecDeque}
use Rattle.zone_model.specs.declared.act.Act.{Act}
use Rattle.zone_model.specs.declared.reply.Reply.{Reply}
use Rattle.queue_controller.specs.Replies.{response_at, all_responses}
use Rattle.queue_controller.proofs.Responses.{all_responses-push, respond_more}
use Rattle.queue_controller.proofs.Gathered.{turn, some_here, reply_here, others_here}
use Rattle.queue_controller.proofs.closing.gather.Goals as goal

pub index_mut-requires : goal.index_mut-requires
index_mut-requires c =
    let t = turn c.args.said.items c.args.drive.now.acts c.journal-journal.result.now.acts c.loop-number.number c.queue-queue.result c.journal-journal.ensures.acts (omega (arith, c.loop-number-test.true, c.len-number-end.ensures)) c.queue-queue.ensures c.requires.others in
    omega (arith, t.near, c.loop-number.invariant.count, c.loop-number.said.ok.0)

pub unreachable-requires : goal.unreachable-requires
unreachable-requires c =
    let t = turn c.args.said.items c.args.drive.now.acts c.journal-journal.result.now.acts c.loop-number.number c.queue-queue.result c.journal-journal.ensures.acts (omega (arith, c.loop-number-test.true, c.len-number-end.ensures)) c.queue-queue.ensures c.requires.others in
    let within : c.queue-queue.result < length c.loop-number.said.items = omega (arith, t.near, c.loop-number.invariant.count) in
    let d = c.index_mut.result.now in
    let some = some_here c.args.drive.now.geometry c.args.drive.now.acts c.loop-number.number c.loop-number.said.items c.loop-number.invariant.said t.place c.queue-queue.result t.mine d within c.index_mut.ensures.value in
    let none = c.in_default.ensures.cases.0 in
    let len = d.ok.0 in
    omega (arith, some, none, len)

pub loop-number-preserved : goal.loop-number-preserved
loop-number-preserved c =
    let g = c.args.drive.now.geometry in
    let log : List Act = c.args.drive.now.acts in
    let n = c.loop-number.number in
    let said : List (VecDeque Reply Global) = c.loop-number.said.items in
    let inv = c.loop-number.invariant in
    let t = turn c.args.said.items c.args.drive.now.acts c.journal-journal.result.now.acts c.loop-number.number c.queue-queue.result c.journal-journal.ensures.acts (omega (arith, c.loop-number-test.true, c.len-number-end.ensures)) c.queue-queue.ensures c.requires.others in
    let x = t.place in
    let q = c.queue-queue.result in
    let within : q < length said = omega (arith, t.near, inv.count) in
    let d = c.index_mut.result.now in
    let r : Reply = c.in-Some.reply in
    let items : d.items ≡ r ∷ c.pop_front.new.self.items = c.in-Some.ensures.items in
    let told = reply_here g log n said inv.said x q t.mine d within c.index_mut.ensures.value r c.pop_front.new.self.items items in
    let all : all_responses g [] (take (n + 1) log) ≡ all_responses g [] (take n log) ++ response_at g (take n log) x.act ∷ [] = ap (all_responses g []) x.with_it ∙ all_responses-push g [] (take n log) x.act in
    let room = inv.room in
    record {
      said = others_here g log n said inv.said x q t.mine d within c.index_mut.ensures.value r c.pop_front.new.self items;
      count = length-set said q c.pop_front.new.self ∙ inv.count;
      room = omega (arith, room, c.push.ensures.spare);
      replies = rw (c.push.ensures.replies, all) (respond_more c.loop-number.replies.replies (all_responses g [] (take n log)) r (response_at g (take n log) x.act) inv.replies told.is told.short);
    }
