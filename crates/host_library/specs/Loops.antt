-- What a link to a drive that it owns does.
use Rattle.std.specs.Prelude.{◌≡◌, ℕ, ◌-◌, Bool, ◌||◌, ◌==◌, MatchBool, List, [], ◌∷◌, ◌++◌, length, drop, slice_get, Some, Ok, Err}
use Rattle.zns_io.specs.Faults.{next_count}
use Rattle.cqe_codec.specs.declared.cqe.Cqe.{Cqe}
use Rattle.cqe_codec.specs.Entries.{entry_bytes}
use Rattle.zone_model.specs.declared.act.Act.{Act}
use Rattle.zone_model.specs.Places.{command_of, is_event_request}
use Rattle.solo_drive.specs.Drives.{Drive, entries_for, bytes_for}
use Rattle.host_library.specs.Links.{Answer}
use Rattle.host_library.specs.declared.loop_link.LoopLink.{LoopLink}

-- the link fails: there is no room for one more act, or an event request could wait for its entry
abbrev pub fails : LoopLink → Act → Bool
fails link a = (link.drive.spare == 0) || is_event_request (command_of a)

-- a drive that has served one act more
abbrev pub served : Drive → Act → Drive
served d a = record d { acts = d.acts ++ a ∷ []; spare = d.spare - 1 }

-- the drive served the act and answered it
pub record IsServed (link : LoopLink) (a : Act) (room : List ℕ) (given : Answer) (out : List ℕ) (left : LoopLink) : Type 0 where
  pub entry : Cqe
  pub first : slice_get (entries_for link.drive a) 0 ≡ Some entry
  pub answer : given ≡ Ok (entry_bytes entry, length (bytes_for link.drive a))
  pub read : out ≡ bytes_for link.drive a ++ drop (length (bytes_for link.drive a)) room
  pub after : left ≡ record link { drive = served link.drive a }

-- nothing was served, the host data came back, and the fault was counted
pub record IsFault (link : LoopLink) (a : Act) (room : List ℕ) (given : Answer) (out : List ℕ) (left : LoopLink) : Type 0 where
  pub answer : given ≡ Err a.payload
  pub read : out ≡ room
  pub after : left ≡ record link { faults = next_count link.faults }

-- one send
abbrev pub Loops : LoopLink → Act → List ℕ → Answer → List ℕ → LoopLink → Type 0
Loops link a room given out left = MatchBool (fails link a) (IsFault link a room given out left) (IsServed link a room given out left)
