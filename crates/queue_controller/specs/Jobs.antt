-- A worker's job, before and after.
use Rattle.std.specs.Prelude.{◌≡◌, ℕ, ◌≤◌, List, [], ◌∷◌, length, map, vec_capacity}
use Rattle.zns_types.specs.declared.fields.GeometryFields.{GeometryFields}
use Rattle.solo_drive.specs.Drives.{HasLengths}
use Rattle.zone_model.specs.declared.act.Act.{Act}
use Rattle.zone_model.specs.declared.reply.Reply.{Reply}
use Rattle.zone_model.specs.Sessions.{acts_of}
use Rattle.session_file.specs.Results.{IsShort}
use Rattle.zone_desk.specs.Passes.{DeskId, IsIdle}
use Rattle.queue_controller.specs.Words.{HoldsNothing}
use Rattle.queue_controller.specs.Replies.{response_of, response_at, queue_responses, Respond}
use Rattle.queue_controller.specs.declared.job.Prepared.{Prepared}
use Rattle.queue_controller.specs.declared.job.Job.{Job}

-- an act of this queue with the host data that it asks for, and empty room that is large enough for what it reads
pub record IsPrepared (g : GeometryFields) (queue : ℕ) (p : Prepared) : Type 0 where
  pub queue_is : p.act.queue ≡ queue
  pub empty : p.out.items ≡ []
  pub lengths : HasLengths g p.act (vec_capacity p.out)

abbrev pub ArePrepared : GeometryFields → ℕ → List Prepared → Type 0
ArePrepared g queue [] = Unit {0}
ArePrepared g queue (p ∷ ps) = IsPrepared g queue p × ArePrepared g queue ps

abbrev pub acts_in : List Prepared → List Act
acts_in ps = map (λ p. p.act) ps

-- the reply to an act that comes after these
pub record IsReplyTo (g : GeometryFields) (a : Act) (r : Reply) (acts : List Act) : Type 0 where
  pub is : response_of r ≡ response_at g acts a
  pub short : IsShort r

-- Nothing is served so far, and there is room for all.
pub record Starts (desk : DeskId) (j : Job) : Type 0 where
  pub free : HoldsNothing desk j.pass
  pub own : j.pass.sight.own ≡ []
  pub seen : j.pass.sight.seen ≡ []
  pub replies : j.replies.items ≡ []
  pub room : length j.left.items ≤ vec_capacity j.replies
  pub spare : length j.left.items ≤ j.pass.sight.spare
  pub prepared : ArePrepared desk.geometry j.pass.sight.queue j.left.items

-- All is served: the pass's own acts are those that were left, in their order, and the replies are those to the
-- queue's acts in what the pass has seen.
pub record Finishes (desk : DeskId) (j k : Job) : Type 0 where
  pub desk_is : k.pass.desk ≡ desk
  pub queue : k.pass.sight.queue ≡ j.pass.sight.queue
  pub idle : IsIdle k.pass.sight
  pub own : k.pass.sight.own ≡ acts_in j.left.items
  pub seen : acts_of j.pass.sight.queue k.pass.sight.seen ≡ k.pass.sight.own
  pub replies : Respond k.replies.items (queue_responses desk.geometry j.pass.sight.queue [] k.pass.sight.seen)
