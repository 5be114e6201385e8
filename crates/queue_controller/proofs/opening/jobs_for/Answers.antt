use Rattle.std.proofs.Common.{◌≡◌, ℕ, suc, ◌+◌, ◌<◌, ◌≤◌, List, [], ◌∷◌, ◌++◌, length, refl, ap, sym, ◌∙◌, subst, arith, append_assoc, length-append, length-set}
use mathlib.Core.Option.{some, some-ne-none}
use lib.ListN.{get_elem?}
use Rattle.std.specs.Global.{Vec}
use Rattle.zone_desk.specs.Sights.{made}
use Rattle.zone_desk.specs.Passes.{Pass}
use Rattle.zone_desk.specs.declared.sight.Sight.{Sight}
use Rattle.zone_desk.specs.declared.sight.Standing.TheVariants.{Free, Live}
use Rattle.atomic_table.proofs.Lists.{set_else}
use Rattle.queue_controller.specs.Jobs.{ArePrepared}
use Rattle.queue_controller.specs.Sessions.{total, AllOpen}
use Rattle.queue_controller.specs.declared.job.Job.{Job}
use Rattle.queue_controller.specs.declared.job.Prepared.{Prepared}
use Rattle.queue_controller.proofs.Opened.{live_more, jobs_more, length-row, row_at, at_seam, all_yielded}
use Rattle.queue_controller.proofs.opening.jobs_for.Goals as goal

pub loop-list-init : goal.loop-list-init
loop-list-init c =
    let sight = c.requires.sight in
    let all = c.args.lists.items in
    let items = c.into_iter-list-iterator.ensures.into_iter_gives.0 in
    record {
      queue = refl;
      desk_is = c.requires.desk;
      seen = ap (λ (v : Sight). v.seen) sight;
      spare = ap (λ (v : Sight). v.spare) sight ∙ ap total (sym items);
      small = subst (λ (l : List (Vec Prepared)). total l < 4294967296) (sym items) c.requires.small;
      long = ap (λ (v : Sight). length v.standings) sight ∙ length-row (length all) Free;
      live = λ k h. absurd (omega arith);
      free = λ k low h. ap (λ (v : Sight). get_elem? v.standings k) sight ∙ row_at (length all) k Free h;
      jobs = λ k j e. absurd (some-ne-none j (sym (ap (λ (l : List Job). get_elem? l k) (sym c.in_ok-jobs.ensures.items) ∙ e)));
      count = ap (λ (l : List Job). length l) c.in_ok-jobs.ensures.items;
      room = omega (arith, c.in_ok-jobs.ensures.capacity, c.len.ensures);
      items = items;
    }

pub new_job-requires-clause-prepared : goal.new_job-requires-clause-prepared
new_job-requires-clause-prepared c =
    let inv = c.loop-list.invariant in
    let l : Vec Prepared = c.in-Some.list in
    let ys : List (Vec Prepared) = c.loop-list.yielded in
    let ls : List (Vec Prepared) = c.next.new.self.rest.items in
    let rest : c.loop-list.list-iterator.rest.items ≡ l ∷ ls = c.in-Some.ensures.steps.0 in
    let all : ys ++ l ∷ ls ≡ c.args.lists.items = ap (λ (z : List (Vec Prepared)). ys ++ z) (sym rest) ∙ inv.items in
    let there : get_elem? c.args.lists.items (length ys) ≡ some l = ap (λ (z : List (Vec Prepared)). get_elem? z (length ys)) (sym all) ∙ at_seam ys ls l in
    subst (λ (q : ℕ). ArePrepared c.args.desk.now.geometry q l.items) (sym inv.queue) (c.requires.prepared (length ys) l there)

pub loop-list-preserved : goal.loop-list-preserved
loop-list-preserved c =
    let inv = c.loop-list.invariant in
    let v : Sight = c.loop-list.main.sight in
    let l : Vec Prepared = c.in-Some.list in
    let ls : List (Vec Prepared) = c.next.new.self.rest.items in
    let ys : List (Vec Prepared) = c.loop-list.yielded in
    let j : Job = c.in_ok-new_job.field-0 in
    let done = c.in_ok-new_job.ensures in
    let rest : c.loop-list.list-iterator.rest.items ≡ l ∷ ls = c.in-Some.ensures.steps.0 in
    let sight : c.new_job.new.main.sight ≡ made v c.loop-list.queue (length l.items) = ap (λ (p : Pass). p.sight) done.main in
    let n : length (ys ++ l ∷ []) ≡ length ys + 1 = length-append ys (l ∷ []) in
    let all : ys ++ l ∷ ls ≡ c.args.lists.items = ap (λ (z : List (Vec Prepared)). ys ++ z) (sym rest) ∙ inv.items in
    let count : length ys + suc (length ls) ≡ length c.args.lists.items = sym (length-append ys (l ∷ ls)) ∙ ap (λ (z : List (Vec Prepared)). length z) all in
    let sum : total c.loop-list.list-iterator.rest.items ≡ length l.items + total ls = ap total rest in
    let spare : v.spare ≡ length l.items + total ls = inv.spare ∙ sum in
    let near : c.loop-list.queue < length v.standings = omega (arith, inv.queue, inv.long, count) in
    let p = c.push_reserved.ensures in
    record {
      queue = ap (λ (k : ℕ). k + 1) inv.queue ∙ sym n;
      desk_is = ap (λ (x : Pass). x.desk) done.main ∙ inv.desk_is;
      seen = ap (λ (x : Sight). x.seen) sight ∙ inv.seen;
      spare = ap (λ (x : Sight). x.spare) sight ∙ omega (arith, spare);
      small = omega (arith, inv.small, sum);
      long = ap (λ (x : Sight). length x.standings) sight ∙ (length-set v.standings c.loop-list.queue Live ∙ inv.long);
      live = λ k h. ap (λ (x : Sight). get_elem? x.standings k) sight ∙ live_more v.standings c.loop-list.queue near (λ i low. inv.live i (subst (λ (z : ℕ). i < z) inv.queue low)) k (omega (arith, h, n, inv.queue));
      free = λ k low h. ap (λ (x : Sight). get_elem? x.standings k) sight ∙ (set_else v.standings c.loop-list.queue k Live (λ e. omega (arith, e, low, n, inv.queue)) ∙ inv.free k (omega (arith, low, n)) h);
      jobs = subst (AllOpen c.args.desk.now (ys ++ l ∷ [])) (sym p.items) (jobs_more c.args.desk.now ys c.loop-list.jobs.items l j inv.jobs inv.count done.starts (done.queue ∙ inv.queue) done.left);
      count = ap (λ (z : List Job). length z) p.items ∙ (length-append c.loop-list.jobs.items (j ∷ []) ∙ (ap (λ (k : ℕ). k + 1) inv.count ∙ sym n));
      room = subst (λ (k : ℕ). length c.args.lists.items ≤ k) (sym p.capacity) inv.room;
      items = append_assoc ys (l ∷ []) ls ∙ all;
    }

pub returns : goal.returns
returns c =
    let inv = c.loop-list.invariant in
    let all = all_yielded c.loop-list.yielded c.loop-list.list-iterator.rest.items c.args.lists.items inv.items (sym c.loop-list.list-iterator.rest.ok.0 ∙ c.in-None.ensures.steps.0) in
    let n = ap (λ (z : List (Vec Prepared)). length z) all in
    record {
      desk_is = inv.desk_is;
      standings = (inv.long, λ k h. inv.live k (subst (λ (z : ℕ). k < z) (sym n) h));
      jobs_open = subst (λ (z : List (Vec Prepared)). AllOpen c.args.desk.now z c.loop-list.jobs.items) all inv.jobs;
      count = inv.count ∙ n;
    }
