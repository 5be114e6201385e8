-- Laws of the bytes of sessions. Each is the contract of a function.
use Rattle.std.specs.Prelude.{◌≡◌, ℕ, List, ◌++◌}
use Rattle.zone_model.specs.Sessions.{Recorded, IsSession, IsOrder, spells, spelling, order_bytes}

-- Bytes spell at most one session.
abbrev pub SpellsOne : Type 0
SpellsOne = (bytes : List ℕ) (s other : Recorded) → IsSession s → IsSession other → spells s bytes → spells other bytes → s ≡ other

-- the two sessions are the same, and so is what comes after them
pub record AreSame (s other : Recorded) (after rest : List ℕ) : Type 0 where
  pub same_session : s ≡ other
  pub same_after : after ≡ rest

-- Bytes begin with at most one session.
abbrev pub BeginsWithOne : Type 0
BeginsWithOne = (s other : Recorded) (after rest : List ℕ) → IsSession s → IsSession other → spelling s ++ after ≡ spelling other ++ rest → AreSame s other after rest

-- Bytes begin with at most one order of a session's acts.
abbrev pub NamesOneOrder : Type 0
NamesOneOrder = (s : Recorded) (order other after rest : List ℕ) → IsSession s → IsOrder s.acts order → IsOrder s.acts other → order_bytes order ++ after ≡ order_bytes other ++ rest → order ≡ other
