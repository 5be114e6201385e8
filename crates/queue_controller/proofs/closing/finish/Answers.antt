use Rattle.std.proofs.Common.{◌≡◌, ℕ, ◌+◌, ◌≤◌, List, [], ◌∷◌, ◌++◌, length, map, ap, sym, ◌∙◌, subst, arith, append_assoc, length-append}
use Rattle.std.proofs.lemmas.List.{map-append}
use Rattle.std.specs.Global.{Global}
use Rattle.std.specs.declared.collections.VecDeque.{VecDeque}
use Rattle.zns_types.specs.declared.fields.GeometryFields.{GeometryFields}
use Rattle.zone_model.specs.declared.act.Act.{Act}
use Rattle.zone_model.specs.declared.reply.Reply.{Reply}
use Rattle.zone_model.specs.Kept.{KeptReplies}
use Rattle.zone_model.specs.Sessions.{acts_of}
use Rattle.zone_model.proofs.KeptHistories.{histories_are_kept}
use Rattle.zone_desk.specs.Passes.{Pass}
use Rattle.queue_controller.specs.Replies.{all_responses, Respond}
use Rattle.queue_controller.specs.Sessions.{AllHave, AllSaid}
use Rattle.queue_controller.specs.declared.job.Job.{Job}
use Rattle.queue_controller.proofs.Opened.{all_yielded}
use Rattle.queue_controller.proofs.SameQueues.{no_acts, merged-same, order-same, merge-same}
use Rattle.queue_controller.proofs.Rested.{pass_of, FromJobs, from_none, from_more, all_idle, exactly, same_queues, job_said, all_said}
use Rattle.queue_controller.proofs.closing.finish.Goals as goal

pub loop-job-init : goal.loop-job-init
loop-job-init c =
    let room = c.requires.room in
    let count = c.requires.count in
    record {
      passes = room.passes;
      said = from_none c.args.shop.said.items room.said;
      count = ap (λ (l : List (VecDeque Reply Global)). length l) room.said;
      room_passes = let fit = room.passes_fit in omega (arith, fit, count);
      room_said = let fit = room.said_fit in omega (arith, fit, count);
      items = c.into_iter-job-iterator.ensures.into_iter_gives.0;
    }

pub loop-job-preserved : goal.loop-job-preserved
loop-job-preserved c =
    let inv = c.loop-job.invariant in
    let j : Job = c.in-Some.job in
    let js : List Job = c.loop-job.yielded in
    let more : List Job = c.next.new.self.rest.items in
    let d : VecDeque Reply Global = c.from_vec.result in
    let rest : c.loop-job.job-iterator.rest.items ≡ j ∷ more = c.in-Some.ensures.steps.0 in
    let p = c.push_reserved.ensures in
    let s = c.push_reserved-in-loop-job.ensures in
    record {
      passes = p.items ∙ (ap (λ (l : List Pass). l ++ j.pass ∷ []) inv.passes ∙ sym (map-append pass_of js (j ∷ [])));
      said = subst (FromJobs (js ++ j ∷ [])) (sym s.items) (from_more js j c.loop-job.said.items d inv.said inv.count c.from_vec.ensures.items);
      count = ap (λ (l : List (VecDeque Reply Global)). length l) s.items ∙ (length-append c.loop-job.said.items (d ∷ []) ∙ (ap (λ (n : ℕ). n + 1) inv.count ∙ sym (length-append js (j ∷ []))));
      room_passes = subst (λ (n : ℕ). length c.args.shop.jobs.items ≤ n) (sym p.capacity) inv.room_passes;
      room_said = subst (λ (n : ℕ). length c.args.shop.jobs.items ≤ n) (sym s.capacity) inv.room_said;
      items = append_assoc js (j ∷ []) more ∙ (ap (λ (l : List Job). js ++ l) (sym rest) ∙ inv.items);
    }

pub close-drive-requires : goal.close-drive-requires
close-drive-requires c =
    let inv = c.loop-job.invariant in
    let jobs : List Job = c.args.shop.jobs.items in
    let acts : List Act = c.args.asked.value.acts in
    let all = all_yielded c.loop-job.yielded c.loop-job.job-iterator.rest.items jobs inv.items (sym c.loop-job.job-iterator.rest.ok.0 ∙ c.in-None.ensures.steps.0) in
    let are : c.loop-job.passes.items ≡ map pass_of jobs = inv.passes ∙ ap (map pass_of) all in
    let have : AllHave (length jobs) c.args.shop.main.sight.standings = subst (λ (n : ℕ). AllHave n c.args.shop.main.sight.standings) (sym c.requires.count) c.requires.standings in
    record {
      desk = c.requires.main;
      idle = all_idle c.args.shop.desk acts jobs c.requires.jobs_rest c.loop-job.passes.items are;
      all = exactly c.args.shop.desk acts jobs c.requires.jobs_rest c.loop-job.passes.items are c.args.shop.main.sight.standings have;
    }

pub gather-replies-requires : goal.gather-replies-requires
gather-replies-requires c =
    let inv = c.loop-job.invariant in
    let desk = c.args.shop.desk in
    let jobs : List Job = c.args.shop.jobs.items in
    let session = c.args.asked.value in
    let all = all_yielded c.loop-job.yielded c.loop-job.job-iterator.rest.items jobs inv.items (sym c.loop-job.job-iterator.rest.ok.0 ∙ c.in-None.ensures.steps.0) in
    let are : c.loop-job.passes.items ≡ map pass_of jobs = inv.passes ∙ ap (map pass_of) all in
    let have : AllHave (length jobs) c.args.shop.main.sight.standings = subst (λ (n : ℕ). AllHave n c.args.shop.main.sight.standings) (sym c.requires.count) c.requires.standings in
    let log : List Act = c.close-drive.result.acts in
    let known = c.close-drive.ensures.known in
    let same : (q : ℕ) → acts_of q log ≡ acts_of q session.acts =
    same_queues session.geometry desk session.acts jobs c.requires.jobs_rest c.loop-job.passes.items are c.requires.count log known c.requires.session.acts c.args.shop.main.sight.standings have c.close-drive.ensures.others in
    let said : List (VecDeque Reply Global) = c.loop-job.said.items in
    let count : length said ≡ session.geometry.queues = inv.count ∙ (ap (λ (l : List Job). length l) all ∙ c.requires.count) in
    let from : FromJobs jobs said = subst (λ (l : List Job). FromJobs l said) all inv.said in
    let told : AllSaid desk.geometry [] log said = all_said desk.geometry jobs said log from (job_said session.geometry desk session.acts jobs c.requires.jobs_rest c.loop-job.passes.items are c.requires.count log known) in
    let left = c.requires.room.replies in
    record {
      said = subst (λ (g : GeometryFields). AllSaid g [] log said) (sym c.close-drive.ensures.geometry) told;
      others = λ q far. same q ∙ no_acts session.geometry session.acts q c.requires.session.acts (subst (λ (n : ℕ). n ≤ q) count far);
      none = ap (λ (k : KeptReplies). k.replies) left;
      room =
          let long = (merge-same log session.acts same).count in
          let spare = ap (λ (k : KeptReplies). k.spare) left in
          omega (arith, long, spare);
    }

pub returns : goal.returns
returns c =
    let inv = c.loop-job.invariant in
    let desk = c.args.shop.desk in
    let jobs : List Job = c.args.shop.jobs.items in
    let session = c.args.asked.value in
    let all = all_yielded c.loop-job.yielded c.loop-job.job-iterator.rest.items jobs inv.items (sym c.loop-job.job-iterator.rest.ok.0 ∙ c.in-None.ensures.steps.0) in
    let are : c.loop-job.passes.items ≡ map pass_of jobs = inv.passes ∙ ap (map pass_of) all in
    let have : AllHave (length jobs) c.args.shop.main.sight.standings = subst (λ (n : ℕ). AllHave n c.args.shop.main.sight.standings) (sym c.requires.count) c.requires.standings in
    let log : List Act = c.close-drive.result.acts in
    let known = c.close-drive.ensures.known in
    let same : (q : ℕ) → acts_of q log ≡ acts_of q session.acts =
    same_queues session.geometry desk session.acts jobs c.requires.jobs_rest c.loop-job.passes.items are c.requires.count log known c.requires.session.acts c.args.shop.main.sight.standings have c.close-drive.ensures.others in
    let geometry : c.close-drive.result.geometry ≡ session.geometry = c.close-drive.ensures.geometry ∙ c.requires.geometry in
    record {
      geometry = geometry;
      each_once = order-same log session.acts same;
      merged = sym (merged-same log session.acts same);
      queues = merge-same log session.acts same;
      kept = histories_are_kept session.geometry c.requires.session.geometry log;
      replies = subst (λ (g : GeometryFields). Respond c.gather-replies.result.replies (all_responses g [] log)) geometry c.gather-replies.ensures;
    }
