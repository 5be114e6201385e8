-- What is read from a source, piece by piece.
use Rattle.std.specs.Prelude.{◌≡◌, ℕ, ◌+◌, ◌^◌, ◌≤◌, List, [], ◌++◌, length, Option, Some, None}
use Rattle.std.specs.Io.KnownBytes.{Consumes}
use Rattle.zns_types.specs.declared.fields.GeometryFields.{GeometryFields}
use Rattle.sqe_codec.specs.Commands.{reply_len}
use Rattle.zns_io.specs.Reading.{ReadsAll}
use Rattle.zone_model.specs.Places.{command_of}
use Rattle.zone_model.specs.Sessions.{IsSession, IsAct, record_bytes, spelling}
use Rattle.session_file.specs.declared.records.Progress.{Progress}
use Rattle.session_file.specs.declared.streaming.Taken.{Taken}
use Rattle.session_file.specs.declared.given.Begun.{Begun}
use Rattle.session_file.specs.declared.given.First.{First}
use Rattle.session_file.specs.declared.given.First.TheVariants.{Session, Other}
use Rattle.session_file.specs.declared.given.Given.{Given}
use Rattle.session_file.specs.declared.given.Given.TheVariants.{Whole, Front}

-- If some bytes and then `held` had been read from the source before, then those bytes and the new ones in place of `held` have been read
-- now.
abbrev pub GoesOn : Option (List ℕ) → Option (List ℕ) → List ℕ → List ℕ → Type 0
GoesOn left now held after = (first : Option (List ℕ)) (front : List ℕ) → Consumes first left (front ++ held) → Consumes first now (front ++ after)

-- reading went on, but not past the longest input
pub record StopsWithin (left now : Option (List ℕ)) (held : List ℕ) : Type 0 where
  pub after : List ℕ
  pub goes_on : GoesOn left now held after
  pub few : length after + 64 ≤ 2 ^ 29

-- the bytes of a record, if one was taken
abbrev pub taken_bytes : Option Taken → List ℕ
taken_bytes None = []
taken_bytes (Some t) = record_bytes t.act

-- the record's act is one of the drive, and the bytes that it moves are counted
pub record IsNext (g : GeometryFields) (before : Progress) (t : Taken) : Type 0 where
  pub act : IsAct g t.act
  pub sent : t.after.sent ≡ before.sent + length t.act.payload
  pub asked : t.after.asked ≡ before.asked + reply_len g (command_of t.act)
  pub few_sent : t.after.sent ≤ 2 ^ 27
  pub few_asked : t.after.asked ≤ 2 ^ 27

-- The front taken before and the bytes read are those of a session, and then the rest.
pub record HasBegun (left now : Option (List ℕ)) (front held : List ℕ) (b : Begun) : Type 0 where
  pub session : IsSession b.session
  pub long : b.len ≡ length (spelling b.session)
  pub few : length b.rest ≤ 2 ^ 28 + 65536
  pub read : (first : Option (List ℕ)) → Consumes first left (front ++ held) → Consumes first now (spelling b.session ++ b.rest)

-- the front taken before and what was read make up these bytes so far
pub record HasRead (left now : Option (List ℕ)) (front held bytes : List ℕ) : Type 0 where
  pub few : length bytes ≤ 2 ^ 29
  pub read : (first : Option (List ℕ)) → Consumes first left (front ++ held) → Consumes first now bytes

-- what a source began with, once its front was taken
abbrev pub BeginsAfter : Option (List ℕ) → Option (List ℕ) → List ℕ → List ℕ → First → Type 0
BeginsAfter left now front held (Session b) = HasBegun left now front held b
BeginsAfter left now front held (Other bytes) = HasRead left now front held bytes

-- the source began with a session, and then the rest was read
pub record BeginsWith (left now : Option (List ℕ)) (b : Begun) : Type 0 where
  pub session : IsSession b.session
  pub long : b.len ≡ length (spelling b.session)
  pub few : length b.rest ≤ 2 ^ 28 + 65536
  pub read : Consumes left now (spelling b.session ++ b.rest)

-- What the source began with: a session, or else the bytes so far.
abbrev pub Begins : Option (List ℕ) → Option (List ℕ) → First → Type 0
Begins left now (Session b) = BeginsWith left now b
Begins left now (Other bytes) = Consumes left now bytes × (length bytes ≤ 2 ^ 29)

-- What the source gave: a session and nothing after it, or else the bytes so far.
abbrev pub Gives : Option (List ℕ) → Option (List ℕ) → Given → Type 0
Gives left now (Whole s) = IsSession s × ReadsAll left now (spelling s)
Gives left now (Front bytes) = Consumes left now bytes × (length bytes ≤ 2 ^ 29)
