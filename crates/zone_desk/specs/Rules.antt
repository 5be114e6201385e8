-- The rule of a desk, which holds between any two steps.
use Rattle.std.specs.Prelude.{◌≡◌, ◌≢◌, ℕ, suc, ◌+◌, ◌^◌, ◌<◌, ◌≤◌, List, [], ◌∷◌, length, map, Option, Some, None}
use mathlib.Core.Option.{none, some}
use mathlib.Core.Option as maybe
use mathlib.Core.List.{IsPrefix}
use lib.ListN.{get_elem?}
use Rattle.atomic_table.specs.Table.{State}
use Rattle.zns_types.specs.declared.fields.GeometryFields.{GeometryFields}
use Rattle.zone_cell.specs.Cells.{Cell}
use Rattle.zone_model.specs.declared.act.Act.{Act}
use Rattle.zone_model.specs.Kept.{KeptActs}
use Rattle.zone_model.specs.Sessions.{acts_of}
use Rattle.zone_desk.specs.Parts.{zone_at, HasZone, ledger_at, journal_at}
use Rattle.zone_desk.specs.declared.plan.Plan.{Plan}
use Rattle.zone_desk.specs.declared.slot.Slot.{Slot}
use Rattle.zone_desk.specs.declared.slot.Slot.TheVariants.{Ledger, Zone}
use Rattle.zone_desk.specs.declared.sight.Kind.TheVariants.{Main, Queue, Note, Spent}
use Rattle.zone_desk.specs.declared.sight.Standing.{Standing}
use Rattle.zone_desk.specs.declared.sight.Standing.TheVariants.{Free, Live, Joined}
use Rattle.zone_desk.specs.declared.sight.Sight.{Sight}

-- ---- words and places

-- a lock word: 1 if a seat holds it
abbrev pub word_of : Option ℕ → ℕ
word_of None = 0
word_of (Some _) = 1

-- a part is at home if no seat holds its word
abbrev pub home_of : Option ℕ → Slot → maybe.Option Slot
home_of None part = some part
home_of (Some _) part = none

-- The cell of each zone whose word is free is at home, and is that of these acts.
abbrev pub CellsHome : GeometryFields → List (maybe.Option Slot) → List (Option ℕ) → List Act → Type 0
CellsHome g homes holders log = (z : ℕ) (h : Option ℕ) → get_elem? holders z ≡ some h → get_elem? homes (suc z) ≡ some (home_of h (Zone (zone_at g log z)))

-- ---- views

-- The journal is out in the view of the seat that holds the book's word, and in no other.
abbrev pub HoldsBook : ℕ → Option ℕ → KeptActs → Option KeptActs → Type 0
HoldsBook id holder j None = holder ≢ Some id
HoldsBook id holder j (Some out) = (holder ≡ Some id) × (out ≡ j)

-- Each cell in a view is that of these acts, and the seat holds its zone's word.
abbrev pub HoldsCells : GeometryFields → ℕ → List (Option ℕ) → List Act → List Cell → Type 0
HoldsCells g id holders log cells = (i : ℕ) (c : Cell) → get_elem? cells i ≡ some c → (get_elem? holders c.zone ≡ some (Some id)) × (c ≡ zone_at g log c.zone)

-- a zone has at most one cell
abbrev pub Apart : List Cell → Type 0
Apart cells = (i j : ℕ) (c d : Cell) → get_elem? cells i ≡ some c → get_elem? cells j ≡ some d → c.zone ≡ d.zone → i ≡ j

-- What the journal has of a queue: no act if no pass was made, and the pass's own acts if it was joined.
abbrev pub Stands : List Act → ℕ → Standing → Type 0
Stands log queue Free = acts_of queue log ≡ []
Stands log queue Live = Unit {0}
Stands log queue (Joined own seen) = (acts_of queue log ≡ own) × IsPrefix seen log

-- What one seat knows is true.
pub record Fits (plan : Plan) (log : List Act) (standings : List Standing) (holder : Option ℕ) (holders : List (Option ℕ)) (id : ℕ) (v : Sight) : Type 0 where
  pub seen : IsPrefix v.seen log
  pub heard : IsPrefix v.heard log
  pub given_back : IsPrefix v.given_back_log log
  pub journal : HoldsBook id holder (journal_at plan.room log) v.journal
  pub cells : HoldsCells plan.fields id holders log v.cells
  pub apart : Apart v.cells
  pub queue : v.kind ≡ Queue → (get_elem? standings v.queue ≡ some Live) × (acts_of v.queue log ≡ v.own) × (acts_of v.queue v.seen ≡ v.own)
  pub main : v.kind ≡ Main → (id ≡ 0) × (v.standings ≡ standings)
  pub idle : v.kind ≢ Queue → (v.journal ≡ None) × (v.cells ≡ [])
  pub note : v.kind ≡ Note → v.spare ≡ 0
  pub spent : v.kind ≡ Spent → v.spare ≡ 0

-- a queue has at most one pass
abbrev pub Alone : List Sight → Type 0
Alone views = (i j : ℕ) (v w : Sight) → get_elem? views i ≡ some v → get_elem? views j ≡ some w → v.kind ≡ Queue → w.kind ≡ Queue → v.queue ≡ w.queue → i ≡ j

abbrev pub spares : List Sight → ℕ
spares [] = 0
spares (v ∷ views) = v.spare + spares views

-- If a seat holds a word, its view has the part.
abbrev pub IsOut : (Sight → Type 0) → Option ℕ → List Sight → Type 0
IsOut HasPart None views = Unit {0}
IsOut HasPart (Some id) views = (v : Sight) × (get_elem? views id ≡ some v) × HasPart v

abbrev pub HasBook : Sight → Type 0
HasBook v = v.journal ≢ None

abbrev pub HasCell : ℕ → Sight → Type 0
HasCell z v = HasZone z v.cells

-- ---- the rule

-- Word 0 counts the journal's acts, word 1 is the book's lock word, and word 2 + z is zone z's. Place 0 is the book's, and place 1 + z is
-- zone z's.
pub record Rule (plan : Plan) (s : State Slot Sight) : Type 0 where
  pub log : List Act
  pub standings : List Standing
  pub holder : Option ℕ
  pub holders : List (Option ℕ)
  pub words : s.words ≡ length log ∷ word_of holder ∷ map word_of holders
  pub wide : length s.homes ≡ suc (length holders)
  pub book : get_elem? s.homes 0 ≡ some (home_of holder (Ledger (ledger_at plan.fields (journal_at plan.room log))))
  pub cells : CellsHome plan.fields s.homes holders log
  pub out_book : IsOut HasBook holder s.views
  pub out_cells : (z : ℕ) (h : Option ℕ) → get_elem? holders z ≡ some h → IsOut (HasCell z) h s.views
  pub sum : length log + spares s.views ≡ plan.room
  pub small : plan.room < 2 ^ 32
  pub each : (id : ℕ) (v : Sight) → get_elem? s.views id ≡ some v → Fits plan log standings holder holders id v
  pub alone : Alone s.views
  pub stands : (queue : ℕ) (x : Standing) → get_elem? standings queue ≡ some x → Stands log queue x
  pub beyond : (queue : ℕ) → length standings ≤ queue → acts_of queue log ≡ []
