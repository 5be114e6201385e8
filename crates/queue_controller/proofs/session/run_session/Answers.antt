use Rattle.std.proofs.Common.{◌≡◌, ◌<◌, ℕ, ◌++◌, List, length, get_or, take, drop, ap, sym, ◌∙◌, subst}
use Rattle.std.specs.Vec.{with_items}
use Rattle.zone_model.specs.Sessions.{Recorded}
use Rattle.queue_controller.specs.Jobs.{Starts, Finishes}
use Rattle.queue_controller.specs.Sessions.{AllHave, AllRest, IsServed}
use Rattle.queue_controller.specs.declared.opening.Shop.{Shop}
use Rattle.queue_controller.specs.declared.job.Job.{Job}
use Rattle.queue_controller.proofs.Rested.{all_start, all_rest, taken_all}
use Rattle.queue_controller.proofs.session.run_session.Goals as goal

pub work_all-requires-after_bounds : goal.work_all-requires-after_bounds
work_all-requires-after_bounds g c κs within k d h =
    let o = c.in_ok-shop.ensures in
    let old = c.as_mut_slice.ensures.value in
    subst (λ (l : List Job). Starts c.in_ok-shop.shop.desk (get_or l k d)) (sym old) (all_start c.in_ok-shop.shop.desk o.lists c.in_ok-shop.shop.jobs.items o.filled.jobs_open k d (subst (λ (l : List Job). k < length l) old h))

pub finish-requires : goal.finish-requires
finish-requires g c =
    let o = c.in_ok-shop.ensures in
    let desk = c.in_ok-shop.shop.desk in
    let session = c.args.session in
    let old : List Job = c.in_ok-shop.shop.jobs.items in
    let new : List Job = c.work_all.new.jobs in
    let now : c.as_mut_slice.result.now ≡ old = c.as_mut_slice.ensures.value in
    let long : length new ≡ length old = c.work_all.auto.jobs ∙ ap (λ (l : List Job). length l) now in
    let done : (i : ℕ) (d : Job) → i < length old → Finishes desk (get_or old i d) (get_or new i d) = subst (λ (l : List Job). (i : ℕ) (d : Job) → i < length l → Finishes desk (get_or l i d) (get_or new i d)) now c.work_all.ensures in
    let row : take c.in_ok-shop.shop.jobs.len (new ++ drop (length new) old) ≡ new = taken_all c.in_ok-shop.shop.jobs.len new (drop (length new) old) (c.in_ok-shop.shop.jobs.ok.0 ∙ sym long) in
    let rest : AllRest desk session.acts new = all_rest desk session.geometry session.acts o.lists old new o.filled.jobs_open o.dealt long done in
    let queues : length o.lists ≡ session.geometry.queues = o.dealt.count in
    let served : Shop = record {
      desk = desk;
      main = c.in_ok-shop.shop.main;
      jobs = with_items c.in_ok-shop.shop.jobs new;
      passes = c.in_ok-shop.shop.passes;
      said = c.in_ok-shop.shop.said;
      replies = c.in_ok-shop.shop.replies;
    } in
    subst (λ (r : Recorded). IsServed r served) (sym c.of-asked.ensures)
    record {
      session = o.session;
      geometry = o.geometry;
      main = o.filled.desk_is;
      standings = subst (λ (n : ℕ). AllHave n c.in_ok-shop.shop.main.sight.standings) queues o.filled.standings;
      jobs_rest = subst (AllRest desk session.acts) (sym row) rest;
      count = ap (λ (l : List Job). length l) row ∙ (long ∙ (o.filled.count ∙ queues));
      room = record { passes = o.room.passes; passes_fit = o.room.passes_fit; said = o.room.said; said_fit = o.room.said_fit; replies = o.room.replies };
    }
