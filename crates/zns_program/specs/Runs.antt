-- What serving the queues of a session side by side gives.
use Rattle.std.specs.Prelude.{ℕ, List}
use Rattle.zone_model.specs.Laws.{IsKept}
use Rattle.zone_model.specs.Sessions.{Recorded, IsResult, IsMerge, merge}

-- The bytes are the result of the session in the order that they name. In that order each act comes once, and those of each queue in their
-- own order. The limits hold, pointers move only as allowed, and committed blocks stay.
pub record IsRun (s : Recorded) (bytes : List ℕ) : Type 0 where
  pub order : List ℕ
  pub result : IsResult s order bytes
  pub queues : IsMerge s.acts (merge s order)
  pub kept : IsKept s.geometry (merge s order)
