-- What a link answers, and what that says of the history it tells.
use Rattle.std.specs.Prelude.{◌≡◌, ℕ, List, [], ◌∷◌, ◌++◌, length, take, slice_get, Option, Some, None, Result, ◌⊎◌}
use Rattle.zns_types.specs.declared.fields.GeometryFields.{GeometryFields}
use Rattle.cqe_codec.specs.declared.cqe.Cqe.{Cqe}
use Rattle.cqe_codec.specs.Entries.{Spells}
use Rattle.zone_model.specs.declared.act.Act.{Act}
use Rattle.zone_model.specs.Answers.{answered}
use Rattle.zone_model.specs.Entries.{posted}
use Rattle.zone_model.specs.Replies.{reply_bytes}

-- the answer to a send: the bytes of an entry and the number of bytes that were read, or the host data that comes back
abbrev pub Answer : Type 0
Answer = Result (List ℕ × ℕ) (List ℕ)

-- the bytes spell the first of these entries
pub record SpellsFirst (entries : List Cqe) (bytes : List ℕ) : Type 0 where
  pub entry : Cqe
  pub first : slice_get entries 0 ≡ Some entry
  pub spells : Spells bytes entry

-- the entry, and the bytes read at the start of the room, are the definitions' for an act after these
pub record IsAnswered (g : GeometryFields) (acts : List Act) (a : Act) (bytes : List ℕ) (count : ℕ) (out : List ℕ) : Type 0 where
  pub entry : SpellsFirst (posted g (answered g acts) a) bytes
  pub len : count ≡ length (reply_bytes g (answered g acts) a)
  pub read : take count out ≡ reply_bytes g (answered g acts) a

-- The act was served: a history that was told before is told with this act at its end, and none is told that wasn't.
pub record Gains (before now : Option (List Act)) (a : Act) : Type 0 where
  pub untold : before ≡ None → now ≡ None
  pub told : (acts : List Act) → before ≡ Some acts → now ≡ Some (acts ++ a ∷ [])

-- The act was served or not.
pub record MayGain (before now : Option (List Act)) (a : Act) : Type 0 where
  pub untold : before ≡ None → now ≡ None
  pub told : (acts : List Act) → before ≡ Some acts → (now ≡ Some acts) ⊎ (now ≡ Some (acts ++ a ∷ []))
