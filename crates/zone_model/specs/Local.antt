-- What an act's own zones alone decide. Each fact is the contract of a function.
use Rattle.std.specs.Prelude.{◌≡◌, ℕ, ◌+◌, ◌≤◌, Bool, true, false, List, None}
use Rattle.std.specs.List.{range_with_len}
use Rattle.zns_types.specs.declared.fields.GeometryFields.{GeometryFields}
use Rattle.zns_types.specs.Geometry.{IsGeometry}
use Rattle.zns_types.specs.declared.state.State.{State}
use Rattle.zns_types.specs.States.{is_opened}
use Rattle.drive_rules.specs.declared.deed.Deed.{Deed}
use Rattle.drive_rules.specs.ZoneRows.{Zone}
use Rattle.drive_rules.specs.Deeds.{need_for}
use Rattle.drive_rules.specs.Tables.{Table, judging_rows, table_rows, wants_room, first_refusal, read_rows, last_zone}
use Rattle.zone_limits.specs.Resources.{no_need}
use Rattle.zns_types.specs.Geometry.{zone_of}
use Rattle.zone_history.specs.Admitted.{is_write}
use Rattle.zone_model.specs.declared.act.Act.{Act}
use Rattle.zone_model.specs.Places.{Place, command_of}
use Rattle.zone_model.specs.Zones.{counts}
use Rattle.zone_model.specs.Answers.{status, table_of, evicted}
use Rattle.zone_model.specs.Reach.{reach}

-- the table of an act's command, after a history
abbrev pub act_table : GeometryFields → List Place → Act → Table
act_table g h a = table_of g h (command_of a)

-- another zone has to give way to the act, or else it is refused
abbrev pub act_wants_room : GeometryFields → List Place → Act → Bool
act_wants_room g h a = wants_room g (counts g h) (judging_rows (act_table g h a)) (act_table g h a).need

-- no zone gives way, and the status is the same whichever zones could give way
pub record IsDecidedAlone (g : GeometryFields) (h : List Place) (a : Act) : Type 0 where
  pub evicted : evicted g h a ≡ None
  pub status : (evictable : Bool) → status g h a ≡ first_refusal (table_rows g (counts g h) evictable (act_table g h a))

-- If no other zone has to give way, the counts and the act's own zones alone decide.
abbrev pub NoneGivesWay : Type 0
NoneGivesWay = (g : GeometryFields) (h : List Place) (a : Act) → act_wants_room g h a ≡ false → IsDecidedAlone g h a

-- A write to an open zone needs no resource.
abbrev pub OpenedNeedsNothing : Type 0
OpenedNeedsNothing = (d : Deed) (zone : Zone) → is_write d ≡ true → is_opened zone.state ≡ true → need_for d zone ≡ no_need

-- two functions that give the states of zones agree on the zones of these blocks
abbrev pub SameStates : GeometryFields → (ℕ → State) → (ℕ → State) → ℕ → ℕ → Type 0
SameStates g s t slba blocks = (z : ℕ) → zone_of g slba ≤ z → z ≤ last_zone g slba blocks → s z ≡ t z

-- Only its own zones decide whether a Read is refused.
abbrev pub ReadIsLocal : Type 0
ReadIsLocal = (g : GeometryFields) (s t : ℕ → State) (slba blocks : ℕ) → SameStates g s t slba blocks → read_rows g s slba blocks ≡ read_rows g t slba blocks

-- consecutive zones of the drive
pub record IsRange (g : GeometryFields) (zones : List ℕ) : Type 0 where
  pub first : ℕ
  pub count : ℕ
  pub all : zones ≡ range_with_len first count
  pub within : first + count ≤ g.zones

-- The zones of an act are a range of the drive's zones.
abbrev pub ReachIsRange : Type 0
ReachIsRange = (g : GeometryFields) → IsGeometry g → (a : Act) → IsRange g (reach g a)
