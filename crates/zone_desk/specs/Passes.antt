-- What a desk and its passes are to their callers.
use Rattle.std.specs.Prelude.{◌≡◌, ◌≢◌, ℕ, suc, ◌+◌, ◌^◌, ◌≤◌, ◌<◌, List, [], ◌∷◌, length, map, slice_index_or, vec_capacity, Bool, true, false, Option, Some, None, ◌⊎◌}
use Rattle.std.specs.Global.{Vec}
use mathlib.Core.Option.{some}
use mathlib.Core.List.{IsPrefix}
use lib.ListN.{get_elem?}
use Rattle.atomic_table.specs.Seated.{TableId}
use Rattle.zns_types.specs.declared.fields.GeometryFields.{GeometryFields}
use Rattle.zone_cell.specs.Cells.{Cell}
use Rattle.zone_model.specs.declared.act.Act.{Act}
use Rattle.zone_model.specs.Kept.{KeptActs}
use Rattle.zone_model.specs.Sessions.{acts_of}
use Rattle.zone_model.specs.Places.{command_of}
use Rattle.zone_model.specs.Answers.{answered}
use Rattle.zone_model.specs.Zones.{zones}
use Rattle.solo_drive.specs.Ahead.{goes_ahead, opened_at, GoesAhead}
use Rattle.drive_book.specs.declared.book.Book.{Book}
use Rattle.drive_book.specs.declared.posted.Posted.{Posted}
use Rattle.sqe_codec.specs.declared.sqe.Sqe.{Sqe}
use Rattle.solo_drive.specs.Drives.{act_of}
use Rattle.solo_drive.specs.declared.ahead.Ready.{Ready}
use Rattle.solo_drive.specs.declared.applied.Applied.{Applied}
use Rattle.solo_drive.specs.declared.applied.Applied.TheVariants as applied
use Rattle.zone_desk.specs.Parts.{zone_at, AreAt, HasBeen, wants_room, ledger_at, IsAnswered, IsEntered}
use Rattle.zone_desk.specs.Ahead.{Open, open_act, Bears, IsTold}
use Rattle.zone_desk.specs.Rules.{Stands}
use Rattle.zone_desk.specs.Sights.{in_order, zones_held, with_cells, with_journal, log_of, committed, joined}
use Rattle.zone_desk.specs.Plays.{Mine, IsFresh}
use Rattle.zone_desk.specs.declared.passes.PassErr.{PassErr}
use Rattle.zone_desk.specs.declared.passes.PassErr.TheVariants as pass_err
use Rattle.zone_desk.specs.declared.plan.Plan.{Plan}
use Rattle.zone_desk.specs.declared.slot.Slot.{Slot}
use Rattle.zone_desk.specs.declared.slot.Slot.TheVariants.{Away, Zone}
use Rattle.zone_desk.specs.declared.sight.Kind.TheVariants.{Main, Queue, Note}
use Rattle.zone_desk.specs.declared.sight.Standing.{Standing}
use Rattle.zone_desk.specs.declared.sight.Standing.TheVariants.{Free, Live, Joined}
use Rattle.zone_desk.specs.declared.sight.Sight.{Sight}

-- which desk it is, and its drive's geometry
pub record DeskId : Type 0 where
  pub table : TableId
  pub geometry : GeometryFields

-- the desk of a pass, what the pass knows, and its open command
pub record Pass : Type 0 where
  pub desk : DeskId
  pub sight : Sight
  pub opened : Option Open

-- the pass of a seat
abbrev pub pass_of : TableId → Sight → Option Open → Pass
pass_of table v opened = record { desk = record { table = table; geometry = v.geometry }; sight = v; opened = opened }

-- the same pass, which knows this
abbrev pub knowing : Pass → Sight → Pass
knowing p v = record { desk = p.desk; sight = v; opened = p.opened }

-- the same pass, with this command open
abbrev pub with_open : Pass → Option Open → Pass
with_open p o = record { desk = p.desk; sight = p.sight; opened = o }

-- ---- taking words, and serving an act

-- the word is above that of the zone that was taken last
abbrev pub IsAbove : ℕ → List Cell → Type 0
IsAbove word [] = Unit {0}
IsAbove word (c ∷ cs) = c.zone + 2 < word

-- The word is the book's, or that of a zone above those that the pass has. The pass doesn't have the book, and while a command is open it
-- takes no more zones.
pub record MayTake (g : GeometryFields) (p : Pass) (word : ℕ) : Type 0 where
  pub before_book : p.sight.journal ≡ None
  pub within : (1 ≤ word) × (word < g.zones + 2)
  pub rising : word ≢ 1 → IsAbove word p.sight.cells
  pub none_open : word ≢ 1 → p.opened ≡ None

-- The pass has the zone's cell. Nothing else changed.
abbrev pub HasTakenZone : ℕ → Pass → Pass → Type 0
HasTakenZone zone p p' = (c : Cell) × (c.zone ≡ zone) × (p' ≡ knowing p (with_cells p.sight (c ∷ p.sight.cells)))

-- The pass has the book, and was told that it is fresh. Nothing else changed.
abbrev pub HasTakenBook : Pass → Pass → Type 0
HasTakenBook p p' = (j : KeptActs) × (p' ≡ knowing p (with_journal p.sight j)) × IsFresh p.desk.geometry p.sight j

-- the pass holds the word, and has its part
pub record HasTaken (word : ℕ) (p p' : Pass) : Type 0 where
  pub book : word ≡ 1 → HasTakenBook p p'
  pub zone : (z : ℕ) → word ≡ z + 2 → HasTakenZone z p p'

-- One commit added the act to the journal that the pass has, and it was answered as the definitions say there. The pass has all zones, or
-- no other zone has to give way.
pub record IsCommitted (p p' : Pass) (a : Act) (posted : Posted) (out out' : List ℕ) : Type 0 where
  pub pass : p' ≡ knowing p (committed p.sight a)
  pub answer : (j : KeptActs) → p.sight.journal ≡ Some j → IsAnswered p.desk.geometry j a posted out out'
  pub wide : (zones_held p.sight ≡ zones p.desk.geometry) ⊎ (wants_room p.desk.geometry (log_of p.sight) a ≡ false)

-- Another zone has to give way, and the pass doesn't have all zones: nothing changed.
pub record IsNarrow (p p' : Pass) (a : Act) (payload out out' : List ℕ) : Type 0 where
  pub pass : p' ≡ p
  pub bytes : payload ≡ a.payload
  pub unread : out' ≡ out
  pub narrow : zones_held p.sight ≢ zones p.desk.geometry
  pub wants : wants_room p.desk.geometry (log_of p.sight) a ≡ true

abbrev pub HasApplied : Pass → Pass → Act → List ℕ → List ℕ → Applied → Type 0
HasApplied p p' a out out' (applied.Done posted) = IsCommitted p p' a posted out out'
HasApplied p p' a out out' (applied.Widen payload) = IsNarrow p p' a payload out out'

-- ---- commands that move their bytes before the book is taken

-- whether the act goes ahead of the book after these acts
abbrev pub IsAheadAt : GeometryFields → List Act → Act → Bool → Type 0
IsAheadAt g log a b = goes_ahead g (opened_at g (answered g log)) (command_of a) ≡ b

-- The command is open. It isn't known yet which acts the cells of the view stand for: for each such list, this is what the act reads after
-- it.
pub record IsReadied (p p' : Pass) (o : Open) (out out' : List ℕ) : Type 0 where
  pub pass : p' ≡ with_open p (Some o)
  pub ahead : (log : List Act) → AreAt p.desk.geometry log p.sight.cells → IsAheadAt p.desk.geometry log (open_act p.sight.queue o) true
  pub told : (log : List Act) → AreAt p.desk.geometry log p.sight.cells → IsTold p.desk.geometry (open_act p.sight.queue o) log o.ready out out'

-- Nothing changed: as its zone's cell shows, the command doesn't go ahead of the book.
pub record IsWaiting (p p' : Pass) (a : Act) (out out' : List ℕ) : Type 0 where
  pub other : GoesAhead p.desk.geometry a (in_order p.sight.cells) false
  pub pass : p' ≡ p
  pub unread : out' ≡ out

abbrev pub HasReadied : Pass → Pass → Sqe → List ℕ → List ℕ → List ℕ → Option Ready → Type 0
HasReadied p p' sqe payload out out' (Some r) = IsReadied p p' record { sqe = sqe; payload = payload; ready = r } out out'
HasReadied p p' sqe payload out out' None = IsWaiting p p' (act_of p.sight.queue sqe payload) out out'

-- One commit added the act of the open command to the journal that the pass has, and it was answered as the definitions say there. No other
-- zone has to give way.
pub record HasSettled (p p' : Pass) (a : Act) (posted : Posted) : Type 0 where
  pub pass : p' ≡ with_open (knowing p (committed p.sight a)) None
  pub entered : (j : KeptActs) → p.sight.journal ≡ Some j → IsEntered p.desk.geometry j a posted
  pub narrow : wants_room p.desk.geometry (log_of p.sight) a ≡ false

-- ---- what a desk and its passes keep

-- the places that are empty, the last taken first
abbrev pub away : Cell → ℕ × Slot
away c = (suc c.zone, Away)

abbrev pub emptied : Option KeptActs → List Cell → List (ℕ × Slot)
emptied None cells = map away cells
emptied (Some j) cells = (0, Away) ∷ map away cells

-- The book is that of the journal in the view, and the cells are those after its acts. The journal has room for all that
-- the pass may add.
abbrev pub IsCarried : Sight → Option Book → Option KeptActs → Type 0
IsCarried v book None = book ≡ None
IsCarried v book (Some j) = (book ≡ Some (ledger_at v.geometry j)) × (v.spare ≤ j.spare) × (length j.acts + j.spare < 2 ^ 32) × AreAt v.geometry j.acts v.cells

-- each was taken after those that follow it in the list, of lower zones, so its zone is at least their count
abbrev pub AreRising : List Cell → Type 0
AreRising [] = Unit {0}
AreRising (c ∷ cs) = (length cs ≤ c.zone) × AreRising cs

-- each is of a zone whose word the table has
abbrev pub AreWithin : ℕ → List Cell → Type 0
AreWithin words [] = Unit {0}
AreWithin words (c ∷ cs) = (c.zone + 2 < words) × AreWithin words cs

-- What a pass has is what its view says, except for what its open command made of the cells. There are acts that the cells of the view
-- stand for.
pub record Carries (words : ℕ) (opened : Option Open) (book : Option Book) (cells : List Cell) (me : Mine) : Type 0 where
  pub book_is : IsCarried me.0 book me.0.journal
  pub cells_are : Bears me.0.geometry me.0.queue opened me.0.cells cells
  pub been : HasBeen me.0.geometry me.0.cells
  pub empty : me.1 ≡ emptied me.0.journal me.0.cells
  pub rising : AreRising me.0.cells
  pub within : AreWithin words me.0.cells

-- a word for the history, a word and a place for the book and for each zone of the drive, a count of the waiters for each word, and room
-- for the cells at the end
pub record DeskStands (table : TableId) (g : GeometryFields) (plan : Plan) (shelf : Vec Cell) (counts : ℕ) : Type 0 where
  pub words : table.words ≡ g.zones + 2
  pub slots : table.slots ≡ g.zones + 1
  pub geometry : g ≡ plan.fields
  pub empty : shelf.items ≡ []
  pub room : g.zones ≤ vec_capacity shelf
  pub waiting : counts ≡ g.zones + 2

-- what a pass keeps is what its seat knows
pub record PassStands (number acts room : ℕ) (opened : Option Open) (book : Option Book) (cells : Vec Cell) (table : TableId) (me : Mine) : Type 0 where
  pub queue : number ≡ me.0.queue
  pub served : acts ≡ length me.0.own
  pub spare : room ≡ me.0.spare
  pub small : acts + room < 2 ^ 32
  pub kind : me.0.kind ≡ Queue
  pub carries : Carries table.words opened book cells.items me
  pub fits : table.words ≤ vec_capacity cells + 2
  pub within : me.0.queue < me.0.geometry.queues

-- what a note keeps is what its seat knows
pub record NoteStands (me : Mine) : Type 0 where
  pub kind : me.0.kind ≡ Note
  pub spare : me.0.spare ≡ 0
  pub none_out : me.1 ≡ []

-- whether a pass was made
abbrev pub is_given : Standing → Bool
is_given Free = false
is_given Live = true
is_given (Joined own seen) = true

-- no pass was joined yet
abbrev pub NoneJoined : List Standing → Type 0
NoneJoined standings = (queue : ℕ) (own seen : List Act) → get_elem? standings queue ≢ some (Joined own seen)

-- what the main pass keeps is what its seat knows
pub record MainStands (room : ℕ) (flags : List Bool) (me : Mine) : Type 0 where
  pub left : room ≡ me.0.spare
  pub kind : me.0.kind ≡ Main
  pub none_out : me.1 ≡ []
  pub given : flags ≡ map is_given me.0.standings
  pub queues : length me.0.standings ≡ me.0.geometry.queues
  pub none_joined : NoneJoined me.0.standings

-- ---- making passes

-- a pass of the queue was made
abbrev pub is_taken : List Standing → ℕ → Bool
is_taken standings queue = slice_index_or (map is_given standings) queue false

-- why no pass of this queue with this room was made
abbrev pub IsRefused : Sight → ℕ → ℕ → PassErr → Type 0
IsRefused v queue room (pass_err.QueueTaken number) = (number ≡ queue) × (is_taken v.standings queue ≡ true)
IsRefused v queue room (pass_err.RoomShort left) = (is_taken v.standings queue ≡ false) × (left ≡ v.spare) × (v.spare < room)
IsRefused v queue room pass_err.NoMemory = (is_taken v.standings queue ≡ false) × (room ≤ v.spare)

-- ---- closing a desk

-- the seat holds no word
abbrev pub IsIdle : Sight → Type 0
IsIdle v = (v.journal ≡ None) × (v.cells ≡ [])

-- each is of this desk, and holds no word
abbrev pub AllIdle : DeskId → List Pass → Type 0
AllIdle desk ps = (i : ℕ) (p : Pass) → get_elem? ps i ≡ some p → (p.desk ≡ desk) × IsIdle p.sight

-- no two are of one queue
abbrev pub Distinct : List Pass → Type 0
Distinct ps = (i j : ℕ) (p q : Pass) → get_elem? ps i ≡ some p → get_elem? ps j ≡ some q → p.sight.queue ≡ q.sight.queue → i ≡ j

-- each queue that has a pass has one of these
abbrev pub AllLive : List Standing → List Pass → Type 0
AllLive standings ps = (queue : ℕ) → get_elem? standings queue ≡ some Live → (i : ℕ) × ((p : Pass) × (get_elem? ps i ≡ some p) × (p.sight.queue ≡ queue))

-- these are exactly the passes that were made
pub record Exactly (standings : List Standing) (ps : List Pass) : Type 0 where
  pub distinct : Distinct ps
  pub all : AllLive standings ps
  pub live : (i : ℕ) (p : Pass) → get_elem? ps i ≡ some p → get_elem? standings p.sight.queue ≡ some Live

abbrev pub NoneLive : List Standing → Type 0
NoneLive standings = (queue : ℕ) → get_elem? standings queue ≢ some Live

-- what the main seat knows once these passes were joined
abbrev pub absorbed : Sight → List Pass → Sight
absorbed v [] = v
absorbed v (p ∷ ps) = absorbed (joined v p.sight) ps

abbrev pub spare_of : List Pass → ℕ
spare_of [] = 0
spare_of (p ∷ ps) = p.sight.spare + spare_of ps

-- What each pass has seen is a prefix of the journal, whose acts of its queue are the pass's own.
abbrev pub HaveKnown : List Act → List Pass → Type 0
HaveKnown log ps = (i : ℕ) (p : Pass) → get_elem? ps i ≡ some p → IsPrefix p.sight.seen log × (acts_of p.sight.queue log ≡ p.sight.own)

-- The journal has no act of a queue without a pass.
abbrev pub NoOthers : List Act → List Standing → Type 0
NoOthers log standings = (queue : ℕ) → get_elem? standings queue ≢ some Live → acts_of queue log ≡ []

-- once no pass is left, the journal has the acts of the passes that were joined, and no others
pub record Ends (v : Sight) (j : KeptActs) : Type 0 where
  pub spare : j.spare ≡ v.spare
  pub small : length j.acts + j.spare < 2 ^ 32
  pub seen : IsPrefix v.seen j.acts
  pub stands : (queue : ℕ) (x : Standing) → get_elem? v.standings queue ≡ some x → Stands j.acts queue x
  pub beyond : (queue : ℕ) → length v.standings ≤ queue → acts_of queue j.acts ≡ []

-- ---- the places of a desk that was closed

-- the `n` places after the first have the cells of the first `n` zones after these acts
abbrev pub AreShelved : GeometryFields → List Act → List Slot → ℕ → Type 0
AreShelved g log parts n = (z : ℕ) → z < n → get_elem? parts (suc z) ≡ some (Zone (zone_at g log z))

-- the `n` places after the first have cells
abbrev pub HaveCells : List Slot → ℕ → Type 0
HaveCells parts n = (z : ℕ) → z < n → (c : Cell) × (get_elem? parts (suc z) ≡ some (Zone c))
