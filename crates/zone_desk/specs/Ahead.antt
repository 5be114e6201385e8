-- Acts whose bytes moved before the book was taken.
use Rattle.std.specs.Prelude.{◌≡◌, ℕ, List, [], ◌∷◌, ◌++◌, length, drop, Option, Some, None}
use Rattle.zns_types.specs.declared.fields.GeometryFields.{GeometryFields}
use Rattle.sqe_codec.specs.declared.sqe.Sqe.{Sqe}
use Rattle.sqe_codec.specs.Commands.{transfer_len}
use Rattle.zone_cell.specs.Cells.{Cell}
use Rattle.zone_model.specs.declared.act.Act.{Act}
use Rattle.zone_model.specs.Places.{command_of}
use Rattle.zone_model.specs.Answers.{answered}
use Rattle.zone_model.specs.Replies.{reply_bytes}
use Rattle.solo_drive.specs.declared.ahead.Ready.{Ready}
use Rattle.solo_drive.specs.Drives.{act_of}
use Rattle.solo_drive.specs.Parts.{zones_in, AreLent}
use Rattle.solo_drive.specs.Ahead.{IsDue}
use Rattle.zone_desk.specs.Parts.{zones_at, AreAt}
use Rattle.zone_desk.specs.Sights.{in_order}

-- an open command: the command, its host data, and what became of it
pub record Open : Type 0 where
  pub sqe : Sqe
  pub payload : List ℕ
  pub ready : Ready

-- the open command, if its bytes have moved
abbrev pub opened_by : Sqe → List ℕ → Option Ready → Option Open
opened_by sqe payload None = None
opened_by sqe payload (Some r) = Some record { sqe = sqe; payload = payload; ready = r }

-- the act of a queue's open command
abbrev pub open_act : ℕ → Open → Act
open_act queue o = act_of queue o.sqe o.payload

-- The cells of a history became those of the history with the act, and this is what becomes of the act there.
pub record IsAhead (g : GeometryFields) (a : Act) (log : List Act) (cells cells' : List Cell) (r : Ready) : Type 0 where
  pub zones : cells' ≡ zones_at g (log ++ a ∷ []) (zones_in cells)
  pub due : IsDue g (answered g log) a r

-- The bytes of an act have moved in cells that were lent for it. The book wasn't held, so its journal wasn't known: this holds for each
-- list of acts that the cells stood for.
pub record HasMoved (g : GeometryFields) (a : Act) (cells cells' : List Cell) (r : Ready) : Type 0 where
  pub payload : length a.payload ≡ transfer_len g (command_of a)
  pub lent : AreLent g a (zones_in cells)
  pub moved : (log : List Act) → AreAt g log cells → IsAhead g a log cells cells' r

-- The cells in a pass: those of its view, or what its open command made of them.
abbrev pub Bears : GeometryFields → ℕ → Option Open → List Cell → List Cell → Type 0
Bears g queue None view cells = cells ≡ in_order view
Bears g queue (Some o) view cells = HasMoved g (open_act queue o) (in_order view) cells o.ready

-- what an act reads after these acts is at the front
pub record IsTold (g : GeometryFields) (a : Act) (log : List Act) (r : Ready) (out out' : List ℕ) : Type 0 where
  pub len : r.len ≡ length (reply_bytes g (answered g log) a)
  pub read : out' ≡ reply_bytes g (answered g log) a ++ drop r.len out
