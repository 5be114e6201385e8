use Rattle.std.proofs.Common.{rules, ◌≡◌, ◌++◌, length, take, drop, refl, ap, sym, ◌∙◌, subst}
use Rattle.std.proofs.Math.Seq.{take-append_seam}
use Rattle.zone_model.specs.declared.act.Act.{Act}
use Rattle.solo_drive.specs.Drives.{act_of}
use Rattle.queue_controller.specs.Keeping.{rested}
use Rattle.queue_controller.specs.Serving.{Serves, IsPosted}
use Rattle.queue_controller.proofs.Replied.{replied}
use Rattle.queue_controller.proofs.job.reply_to.Goals as goal

pub returns-clause-served : goal.returns-clause-served
returns-clause-served g c =
    let numbers = c.args.desk.now.geometry in
    let v = rested c.args.pass.now.sight in
    let w = rested c.serve_keeping-posted.new.pass.sight in
    let posted = c.serve_keeping-posted.result in
    let a : Act = c.args.prepared.act in
    let same : act_of c.args.pass.now.sight.queue a.sqe a.payload ≡ a = ap (λ q. act_of q a.sqe a.payload) (sym c.requires.prepared.queue_is) in
    let out = c.deref_mut.result.now in
    let out' = c.serve_keeping-posted.new.out in
    let s = subst (λ (b : Act). Serves v b (IsPosted numbers b posted out out') w) same c.serve_keeping-posted.ensures.served in
    let rest = drop (length out') c.pad.new.bytes.items in
    let count : c.pad.new.bytes.len ≡ length out' = sym (c.serve_keeping-posted.auto.out ∙ c.deref_mut.ensures.len) in
    let written : take c.pad.new.bytes.len (out' ++ rest) ≡ out' = ap (λ n. take n (out' ++ rest)) count ∙ take-append_seam out' rest in
    let read = c.from_vec.ensures ∙ (c.truncate.ensures.items ∙ ap (take posted.len) written) in
    replied numbers v w a posted out out' _ s (search rules) refl read
