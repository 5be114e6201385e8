-- Acts by their queues.
use Rattle.std.specs.Prelude.{◌≡◌, ℕ, ◌<◌, List, length, slice_index_or}
use Rattle.zone_model.specs.declared.act.Act.{Act}
use Rattle.zone_model.specs.Sessions.{acts_of}

-- the acts, sorted into `count` queues, each in order
pub record AreQueues (count : ℕ) (acts : List Act) (queues : List (List Act)) : Type 0 where
  pub long : length queues ≡ count
  pub each : (queue : ℕ) → queue < count → (d : List Act) → slice_index_or queues queue d ≡ acts_of queue acts
