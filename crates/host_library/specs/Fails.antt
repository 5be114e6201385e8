-- A link whose sends also fail by their numbers.
use Rattle.std.specs.Prelude.{◌≡◌, ℕ, Bool, ◌||◌, MatchBool, List}
use Rattle.zns_io.specs.Calls.{is_due, calls_after}
use Rattle.zone_model.specs.declared.act.Act.{Act}
use Rattle.host_library.specs.Links.{Answer}
use Rattle.host_library.specs.Loops.{fails, IsServed, IsFault}
use Rattle.host_library.specs.declared.loop_link.LoopLink.{LoopLink}
use Rattle.host_library.specs.declared.fail_link.FailLink.{FailLink}

-- a link to the same drive, with as many faults, whose sends don't fail by their numbers
abbrev pub loop_of : FailLink → LoopLink
loop_of link = record { drive = link.drive; faults = link.calls.faults }

-- the next send fails: its number is in the list, or the drive can't serve the act
abbrev pub fails_now : FailLink → Act → Bool
fails_now link a = is_due link.calls || fails (loop_of link) a

-- One send: it is counted, and it fails or is served as over a `LoopLink`.
pub record LoopsOrFails (link : FailLink) (a : Act) (room : List ℕ) (given : Answer) (out : List ℕ) (left : FailLink) : Type 0 where
  pub counted : left.calls ≡ calls_after link.calls (fails_now link a)
  pub answered : MatchBool (fails_now link a) (IsFault (loop_of link) a room given out (loop_of left))
      (IsServed (loop_of link) a room given out (loop_of left))
