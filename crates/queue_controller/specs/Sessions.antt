-- A session whose queues are served in parallel.
use Rattle.std.specs.Prelude.{◌≡◌, ℕ, ◌+◌, ◌≤◌, ◌<◌, List, [], ◌∷◌, length, vec_capacity}
use Rattle.std.specs.Global.{Vec, Global}
use Rattle.std.specs.declared.collections.VecDeque.{VecDeque}
use mathlib.Core.Option.{some}
use lib.ListN.{get_elem?}
use Rattle.zns_types.specs.declared.fields.GeometryFields.{GeometryFields}
use Rattle.zone_model.specs.declared.act.Act.{Act}
use Rattle.zone_model.specs.declared.reply.Reply.{Reply}
use Rattle.zone_model.specs.Laws.{IsKept}
use Rattle.zone_model.specs.Sessions.{Recorded, IsSession, IsOrder, IsMerge, acts_of, merge, own_order}
use Rattle.zone_desk.specs.Passes.{DeskId, Pass, IsIdle}
use Rattle.zone_desk.specs.declared.sight.Standing.{Standing}
use Rattle.zone_desk.specs.declared.sight.Standing.TheVariants.{Live}
use Rattle.queue_controller.specs.Replies.{queue_responses, all_responses, Respond}
use Rattle.queue_controller.specs.Jobs.{ArePrepared, acts_in, Starts}
use Rattle.queue_controller.specs.declared.job.Prepared.{Prepared}
use Rattle.queue_controller.specs.declared.job.Job.{Job}
use Rattle.queue_controller.specs.declared.opening.Shop.{Shop}
use Rattle.queue_controller.specs.declared.closing.Outcome.{Outcome}

-- ---- the acts of each queue

-- the number of acts in all lists
abbrev pub total : List (Vec Prepared) → ℕ
total [] = 0
total (l ∷ ls) = length l.items + total ls

-- no list has an act
abbrev pub AreEmpty : List (Vec Prepared) → Type 0
AreEmpty [] = Unit {0}
AreEmpty (l ∷ ls) = (l.items ≡ []) × AreEmpty ls

-- these are the acts of a queue, prepared
pub record IsDealt (g : GeometryFields) (acts : List Act) (queue : ℕ) (ps : List Prepared) : Type 0 where
  pub acts_are : acts_in ps ≡ acts_of queue acts
  pub prepared : ArePrepared g queue ps

-- a list for each queue, with its acts
pub record AreDealt (g : GeometryFields) (acts : List Act) (lists : List (Vec Prepared)) : Type 0 where
  pub count : length lists ≡ g.queues
  pub each : (queue : ℕ) (l : Vec Prepared) → get_elem? lists queue ≡ some l → IsDealt g acts queue l.items
  pub sum : total lists ≡ length acts

-- each list is of its queue's acts
abbrev pub AllPrepared : GeometryFields → List (Vec Prepared) → Type 0
AllPrepared g lists = (queue : ℕ) (l : Vec Prepared) → get_elem? lists queue ≡ some l → ArePrepared g queue l.items

-- ---- jobs

-- each of the `n` queues has a pass
abbrev pub AllHave : ℕ → List Standing → Type 0
AllHave n standings = (length standings ≡ n) × ((queue : ℕ) → queue < n → get_elem? standings queue ≡ some Live)

-- a job whose queue's list is yet to be served
pub record IsOpen (desk : DeskId) (lists : List (Vec Prepared)) (queue : ℕ) (j : Job) : Type 0 where
  pub starts : Starts desk j
  pub queue_is : j.pass.sight.queue ≡ queue
  pub list : Vec Prepared
  pub at : get_elem? lists queue ≡ some list
  pub left : j.left.items ≡ list.items

-- the job at each place is that of this queue
abbrev pub AllOpen : DeskId → List (Vec Prepared) → List Job → Type 0
AllOpen desk lists jobs = (queue : ℕ) (j : Job) → get_elem? jobs queue ≡ some j → IsOpen desk lists queue j

-- each queue has a job
pub record Filled (desk : DeskId) (lists : List (Vec Prepared)) (main : Pass) (jobs : List Job) : Type 0 where
  pub desk_is : main.desk ≡ desk
  pub standings : AllHave (length lists) main.sight.standings
  pub jobs_open : AllOpen desk lists jobs
  pub count : length jobs ≡ length lists

-- room for what a session of this many queues and acts leaves
pub record HasRoom (queues acts : ℕ) (s : Shop) : Type 0 where
  pub passes : s.passes.items ≡ []
  pub passes_fit : queues ≤ vec_capacity s.passes
  pub said : s.said.items ≡ []
  pub said_fit : queues ≤ vec_capacity s.said
  pub replies : s.replies ≡ record { replies = []; spare = acts }

-- all is ready for a session, and nothing is served
pub record Opens (r : Recorded) (s : Shop) : Type 0 where
  pub session : IsSession r
  pub geometry : s.desk.geometry ≡ r.geometry
  pub lists : List (Vec Prepared)
  pub dealt : AreDealt r.geometry r.acts lists
  pub filled : Filled s.desk lists s.main s.jobs.items
  pub room : HasRoom r.geometry.queues (length r.acts) s

-- a job that has served the acts of its queue
pub record Rests (desk : DeskId) (acts : List Act) (queue : ℕ) (j : Job) : Type 0 where
  pub desk_is : j.pass.desk ≡ desk
  pub queue_is : j.pass.sight.queue ≡ queue
  pub idle : IsIdle j.pass.sight
  pub own : j.pass.sight.own ≡ acts_of queue acts
  pub seen : acts_of queue j.pass.sight.seen ≡ j.pass.sight.own
  pub replies : Respond j.replies.items (queue_responses desk.geometry queue [] j.pass.sight.seen)

abbrev pub AllRest : DeskId → List Act → List Job → Type 0
AllRest desk acts jobs = (queue : ℕ) (j : Job) → get_elem? jobs queue ≡ some j → Rests desk acts queue j

-- all of a session is served
pub record IsServed (r : Recorded) (s : Shop) : Type 0 where
  pub session : IsSession r
  pub geometry : s.desk.geometry ≡ r.geometry
  pub main : s.main.desk ≡ s.desk
  pub standings : AllHave r.geometry.queues s.main.sight.standings
  pub jobs_rest : AllRest s.desk r.acts s.jobs.items
  pub count : length s.jobs.items ≡ r.geometry.queues
  pub room : HasRoom r.geometry.queues (length r.acts) s

-- ---- the end

-- the replies to each queue's acts among these, which come after others
abbrev pub AllSaid : GeometryFields → List Act → List Act → List (VecDeque Reply Global) → Type 0
AllSaid g before acts said = (queue : ℕ) (d : VecDeque Reply Global) → get_elem? said queue ≡ some d → Respond d.items (queue_responses g queue before acts)

-- The acts of the session were served in one order, each once and each queue's in its own order, and each was answered as by a drive that
-- serves one act at a time in that order. The laws of histories hold of them.
pub record Runs (r : Recorded) (o : Outcome) : Type 0 where
  pub geometry : o.drive.geometry ≡ r.geometry
  pub each_once : IsOrder r.acts (own_order o.drive.acts)
  pub merged : o.drive.acts ≡ merge r (own_order o.drive.acts)
  pub queues : IsMerge r.acts o.drive.acts
  pub kept : IsKept r.geometry o.drive.acts
  pub replies : Respond o.replies.replies (all_responses r.geometry [] o.drive.acts)
