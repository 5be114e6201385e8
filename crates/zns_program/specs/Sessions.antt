-- What serving a session gives.
use Rattle.std.specs.Prelude.{ℕ, List}
use Rattle.zone_model.specs.Sessions.{Recorded, IsResult, own_order}

-- the bytes are the result of the session in the order of its file
abbrev pub IsOwnResult : Recorded → List ℕ → Type 0
IsOwnResult s bytes = IsResult s (own_order s.acts) bytes
