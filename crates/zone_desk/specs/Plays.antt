-- What each step tells the seat that makes it.
use Rattle.std.specs.Prelude.{◌≡◌, ◌≢◌, ℕ, suc, ◌+◌, ◌^◌, ◌<◌, ◌≤◌, Bool, [], ◌∷◌, length, replicate}
use mathlib.Core.List.{IsPrefix}
use Rattle.atomic_table.specs.Table.{Me, Step, rest}
use Rattle.zns_types.specs.declared.fields.GeometryFields.{GeometryFields}
use Rattle.zone_cell.specs.Cells.{Cell}
use Rattle.zone_model.specs.declared.act.Act.{Act}
use Rattle.zone_model.specs.Kept.{KeptActs}
use Rattle.zone_model.specs.Sessions.{acts_of}
use Rattle.zone_desk.specs.Parts.{AreAt, ledger_at, HasBeen}
use Rattle.zone_desk.specs.Sights.{missed_if, with_cells, with_journal, committed, gave, without_last}
use Rattle.zone_desk.specs.declared.slot.Slot.{Slot}
use Rattle.zone_desk.specs.declared.slot.Slot.TheVariants.{Ledger, Zone}
use Rattle.zone_desk.specs.declared.sight.Sight.{Sight}

-- a seat's view, and the places that it has out
abbrev pub Mine : Type 0
Mine = Me Slot Sight

-- The journal of a book that a seat has just taken: what the seat has seen is a prefix of it, its queue's acts are the seat's own, it has
-- room for all that the seat may add, and each cell that the seat has is still that of its acts.
pub record IsFresh (g : GeometryFields) (v : Sight) (j : KeptActs) : Type 0 where
  pub seen : IsPrefix v.seen j.acts
  pub own : acts_of v.queue j.acts ≡ v.own
  pub room : v.spare ≤ j.spare
  pub small : length j.acts + j.spare < 2 ^ 32
  pub cells : AreAt g j.acts v.cells

-- the book's word was free, and the book was taken
abbrev pub TookBook : Mine → Mine → Type 0
TookBook m m' = (j : KeptActs) × (m'.0 ≡ with_journal m.0 j) × (m'.1 ≡ (0, Ledger (ledger_at m.0.geometry j)) ∷ m.1) × IsFresh m.0.geometry m.0 j

-- A zone's word was free, and its cell was taken. The cells that the seat has stand for the same acts.
abbrev pub TookZone : ℕ → Mine → Mine → Type 0
TookZone word m m' = (c : Cell) × (m'.0 ≡ with_cells m.0 (c ∷ m.0.cells)) × (m'.1 ≡ (suc c.zone, Zone c) ∷ m.1) × (c.zone + 2 ≡ word) × HasBeen m.0.geometry (c ∷ m.0.cells)

-- a take of the book: if the word was held, that is counted, or nothing changed
abbrev pub TakesBook : Bool → Step Slot → Mine → ℕ → Mine → Type 0
TakesBook counts step m found m' = (found ≡ 0 → TookBook m m') × (found ≢ 0 → m' ≡ (missed_if counts m.0 step.word, m.1))

abbrev pub TakesZone : Bool → Step Slot → Mine → ℕ → Mine → Type 0
TakesZone counts step m found m' = (found ≡ 0 → TookZone step.word m m') × (found ≢ 0 → m' ≡ (missed_if counts m.0 step.word, m.1))

abbrev pub Commits : Act → Step Slot → Mine → ℕ → Mine → Type 0
Commits a step m found m' = m' ≡ (committed m.0 a, m.1)

abbrev pub FreesBook : Step Slot → Mine → ℕ → Mine → Type 0
FreesBook step m found m' = m' ≡ (gave m.0, rest m.1)

abbrev pub FreesZone : Step Slot → Mine → ℕ → Mine → Type 0
FreesZone step m found m' = m' ≡ (without_last m.0, rest m.1)

-- What it was told of last is a prefix of what it has seen, if it is no longer than that.
abbrev pub Compares : Step Slot → Mine → ℕ → Mine → Type 0
Compares step m found m' = (m' ≡ m) × (length m.0.heard ≤ length m.0.seen → IsPrefix m.0.heard m.0.seen)

-- a placeholder, where a commit isn't told which act it adds
abbrev pub no_act : Act
no_act = record { queue = 0; sqe = record { bytes = replicate 64 0 }; payload = [] }
