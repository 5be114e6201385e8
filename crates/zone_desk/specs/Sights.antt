-- What a seat knows, and what the calls of a desk make of it.
use Rattle.std.specs.Prelude.{ℕ, ◌+◌, ◌-◌, Bool, true, false, if◌then◌else◌, leb, List, [], ◌∷◌, ◌++◌, length, map, Option, Some, None, replicate, slice_set}
use Rattle.zns_types.specs.declared.fields.GeometryFields.{GeometryFields}
use Rattle.zone_cell.specs.Cells.{Cell}
use Rattle.zone_model.specs.declared.act.Act.{Act}
use Rattle.zone_model.specs.Kept.{KeptActs}
use Rattle.solo_drive.specs.Parts.{zones_in}
use Rattle.zone_desk.specs.Parts.{zones_at, with_act}
use Rattle.zone_desk.specs.declared.plan.Plan.{Plan}
use Rattle.zone_desk.specs.declared.sight.Kind.{Kind}
use Rattle.zone_desk.specs.declared.sight.Kind.TheVariants.{Main, Queue, Note, Spent}
use Rattle.zone_desk.specs.declared.sight.Standing.{Standing}
use Rattle.zone_desk.specs.declared.sight.Standing.TheVariants.{Free, Live, Joined}
use Rattle.zone_desk.specs.declared.sight.Sight.{Sight}

-- ---- views of new seats

-- a seat that holds nothing, and has done nothing
abbrev pub new_sight : Kind → GeometryFields → ℕ → List Act → ℕ → List Standing → Sight
new_sight kind g queue seen spare standings = record {
  kind = kind;
  geometry = g;
  queue = queue;
  seen = seen;
  heard = [];
  own = [];
  spare = spare;
  journal = None;
  cells = [];
  found = 0;
  found_last = 0;
  held_when_found = [];
  uncommitted = false;
  given_back = 0;
  given_back_log = [];
  held_at_commit = [];
  standings = standings;
}

abbrev pub main_sight : GeometryFields → List Act → ℕ → List Standing → Sight
main_sight g seen left standings = new_sight Main g 0 seen left standings

abbrev pub queue_sight : GeometryFields → ℕ → List Act → ℕ → Sight
queue_sight g queue seen spare = new_sight Queue g queue seen spare []

abbrev pub note_sight : GeometryFields → List Act → Sight
note_sight g seen = new_sight Note g 0 seen 0 []

-- the main seat's view of a new desk: no queue has a pass
abbrev pub first_sight : Plan → Sight
first_sight plan = main_sight plan.fields [] plan.room (replicate plan.fields.queues Free)

abbrev pub no_fields : GeometryFields
no_fields = record {
  block_exp = 0;
  mdts = 0;
  zasl = 0;
  flags = 0;
  zones = 0;
  zone_size = 0;
  capacity = 0;
  active_limit = 0;
  open_limit = 0;
  windows = 0;
  granule = 0;
  window = 0;
  queues = 0;
  depth = 0;
}

-- the view of a seat that was joined
abbrev pub spent_sight : Sight
spent_sight = new_sight Spent no_fields 0 [] 0 []

-- ---- the words that a seat holds

-- cells, listed with the last taken first, in the order in which they were taken
abbrev pub in_order : List Cell → List Cell
in_order [] = []
in_order (c ∷ cs) = in_order cs ++ c ∷ []

-- the zones whose cells a seat has, in the order in which they were taken
abbrev pub zones_held : Sight → List ℕ
zones_held v = zones_in (in_order v.cells)

-- the lock words of zones
abbrev pub zone_words : List ℕ → List ℕ
zone_words zs = map (λ z. z + 2) zs

abbrev pub book_words : Option KeptActs → List ℕ
book_words None = []
book_words (Some j) = 1 ∷ []

-- the words of its zones, and then the book's
abbrev pub words_of : Sight → List ℕ
words_of v = zone_words (zones_held v) ++ book_words v.journal

-- ---- what a call makes of a view

-- one more word was found held: this one
abbrev pub missed : Sight → ℕ → Sight
missed v word = record v { found = v.found + 1; found_last = word; held_when_found = words_of v }

-- the same after a take that counts it or doesn't
abbrev pub missed_if : Bool → Sight → ℕ → Sight
missed_if true v word = missed v word
missed_if false v word = v

-- the seat has these cells
abbrev pub with_cells : Sight → List Cell → Sight
with_cells v cells = record v { cells = cells }

-- the book was taken with this journal, and no commit was made since
abbrev pub with_journal : Sight → KeptActs → Sight
with_journal v j = record v { journal = Some j; uncommitted = true }

abbrev pub acts_out : Option KeptActs → List Act
acts_out None = []
acts_out (Some j) = j.acts

-- the acts in the journal that a seat has
abbrev pub log_of : Sight → List Act
log_of v = acts_out v.journal

abbrev pub journal_after : Option KeptActs → Act → Option KeptActs
journal_after None a = None
journal_after (Some j) a = Some (with_act j a)

-- The journal gained the act at its end, and all of it was seen. The cells are those of the longer journal.
abbrev pub committed : Sight → Act → Sight
committed v a = record v {
  seen = log_of v ++ a ∷ [];
  own = v.own ++ a ∷ [];
  spare = v.spare - 1;
  journal = journal_after v.journal a;
  cells = zones_at v.geometry (log_of v ++ a ∷ []) (zones_in v.cells);
  uncommitted = false;
  held_at_commit = words_of v;
}

abbrev pub count : Bool → ℕ
count true = 1
count false = 0

-- The book was given back. If no commit was made, that is counted, and its journal noted.
abbrev pub gave : Sight → Sight
gave v = record v {
  journal = None;
  uncommitted = false;
  given_back = v.given_back + count v.uncommitted;
  given_back_log = if v.uncommitted then log_of v else v.given_back_log;
}

abbrev pub gave_out : Sight → Option KeptActs → Sight
gave_out v None = v
gave_out v (Some j) = gave v

-- everything was given back
abbrev pub given : Sight → Sight
given v = with_cells (gave_out v v.journal) []

abbrev pub others : List Cell → List Cell
others [] = []
others (c ∷ cs) = cs

-- the cell that was taken last was given back
abbrev pub without_last : Sight → Sight
without_last v = with_cells v (others v.cells)

-- ---- what seats tell each other

abbrev pub longer : List Act → List Act → List Act
longer xs ys = if leb (length xs) (length ys) then ys else xs

abbrev pub shorter : List Act → List Act → List Act
shorter xs ys = if leb (length xs) (length ys) then xs else ys

-- a pass that was told of what a note has seen
abbrev pub told : Sight → Sight → Sight
told v w = record v { seen = longer v.seen w.seen; heard = shorter v.seen w.seen }

-- ---- what the main seat knows

-- what it knows once a pass was made
abbrev pub made : Sight → ℕ → ℕ → Sight
made v queue room = main_sight v.geometry v.seen (v.spare - room) (slice_set v.standings queue Live)

-- the same once a pass was joined: its room comes back, and its own acts and what it had seen are kept
abbrev pub joined : Sight → Sight → Sight
joined v w = main_sight v.geometry (longer v.seen w.seen) (v.spare + w.spare) (slice_set v.standings w.queue (Joined w.own w.seen))
