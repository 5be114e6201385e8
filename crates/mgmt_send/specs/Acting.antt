-- A Zone Management Send on the cells that are lent for it: those of all zones, or of some consecutive ones.
use Rattle.std.specs.Prelude.{◌≡◌, ℕ, ◌+◌, ◌-◌, ◌<◌, ◌≤◌, Bool, IsTrue, true, false, ◌==◌, List, [], ◌++◌, length, Option, Some, None, unwrap_or, All}
use Rattle.zns_types.specs.declared.fields.GeometryFields.{GeometryFields}
use Rattle.zns_types.specs.Statuses.{Status, success, too_many_open_zones}
use Rattle.zns_types.specs.Rows.{first_holding}
use Rattle.sqe_codec.specs.declared.cmd.Cmd.{Cmd}
use Rattle.sqe_codec.specs.declared.cmd.Cmd.TheVariants as cmd
use Rattle.zone_limits.specs.declared.limits.Limits.{Limits}
use Rattle.drive_rules.specs.declared.deed.Deed.{Deed}
use Rattle.drive_rules.specs.declared.deed.Deed.TheVariants as deed
use Rattle.drive_rules.specs.declared.aim.Aim.{Aim}
use Rattle.drive_rules.specs.Aims.{aim_of, sweep_of}
use Rattle.drive_rules.specs.Deeds.{rows_for, need_for}
use Rattle.drive_rules.specs.Tables.{front_rows, wants_room}
use Rattle.zone_cell.specs.Cells.{Cell, IsOf, sight}
use Rattle.zone_cell.specs.Deeds.{after_deed}
use Rattle.zone_room.specs.declared.serving.Served.{Served}
use Rattle.zone_room.specs.declared.serving.Served.TheVariants as served
use Rattle.zone_room.specs.Using.{EachIsCounted}
use Rattle.zone_room.specs.Rooms.{cell_in}
use Rattle.zone_room.specs.Verdicts.{rows_at, need_at, verdict, cells_after, counts_after, new_if_done, refused_or_done}
use Rattle.mgmt_send.specs.Sweeping.{AreAllZones, counts_in, sweep_refusal, swept_cells}

abbrev pub is_send : Cmd → Bool
is_send (cmd.Send nsid slba act all option) = true
is_send _ = false

-- ---- the cells that are lent

-- the number of the first zone
abbrev pub first_zone : List Cell → ℕ
first_zone cells = (cell_in cells 0).zone

-- the place of a zone among the cells
abbrev pub place_of : List Cell → ℕ → ℕ
place_of cells z = z - first_zone cells

-- each zone's number is one more than that of the zone before it
abbrev pub AreRising : List Cell → Type 0
AreRising cells = (i : ℕ) → i < length cells → (cell_in cells i).zone ≡ first_zone cells + i

-- a zone is among the cells
pub record IsAmong (cells : List Cell) (z : ℕ) : Type 0 where
  pub low : first_zone cells ≤ z
  pub high : place_of cells z < length cells

-- whether the cells are those of all zones
abbrev pub are_all : GeometryFields → List Cell → Bool
are_all g cells = length cells == g.zones

-- whether a deed to this zone, if any, has to look at all zones
abbrev pub wants_all : GeometryFields → Cell → Limits → Cmd → Option Aim → Bool
wants_all g c n k None = false
wants_all g c n k (Some a) = wants_room g n (front_rows g k ++ rows_for g a.deed (sight c)) (need_for a.deed (sight c))

-- Whether a Send to this zone has to look at all zones: every row before "too many open zones" passes, the deed needs an open resource, and
-- the open limit is reached, so another zone has to give way.
abbrev pub needs_all : GeometryFields → Cell → Limits → Cmd → Bool
needs_all g c n k = wants_all g c n k (aim_of g k)

-- if a deed to its zone has to look at all zones, these are all zones
abbrev pub CanLook : GeometryFields → List Cell → Limits → Aim → Type 0
CanLook g cells n a = IsTrue (wants_room g n (rows_at g cells (place_of cells a.zone) a.deed) (need_at cells (place_of cells a.zone) a.deed)) → length cells ≡ g.zones

-- The cells that a Send is lent: consecutive zones, with their use among the counts. If none of its front rows refuses the Send, they
-- include the target zone, or are all zones.
pub record AreLentFor (g : GeometryFields) (cells : List Cell) (n : Limits) (k : Cmd) : Type 0 where
  pub rising : AreRising cells
  pub of : All (IsOf g) cells
  pub counted : EachIsCounted g n cells
  pub target : first_holding (front_rows g k) ≡ None → (a : Aim) → aim_of g k ≡ Some a → IsAmong cells a.zone
  pub room : (a : Aim) → aim_of g k ≡ Some a → IsTrue (needs_all g (cell_in cells (place_of cells a.zone)) n k) → length cells ≡ g.zones
  pub all : first_holding (front_rows g k) ≡ None → (d : Deed) → sweep_of k ≡ Some d → AreAllZones g cells n

-- ---- what becomes of a Send

-- a Send's status, and the cells and the counts after it
pub record Outcome : Type 0 where
  pub code : Status
  pub cells : List Cell
  pub counts : Limits

abbrev pub no_change : Status → List Cell → Limits → Outcome
no_change code cells n = record { code = code; cells = cells; counts = n }

-- the status of a verdict; if all zones are lent, no verdict asks for them
abbrev pub status_of : Served → Status
status_of served.Done = success
status_of (served.Refused code) = code
status_of served.Widens = too_many_open_zones

-- the outcome of a deed to one zone
abbrev pub outcome_of_aim : GeometryFields → List Cell → Limits → Aim → Outcome
outcome_of_aim g cells n a = record {
  code = status_of (verdict g cells n (place_of cells a.zone) (are_all g cells) a.deed);
  cells = cells_after g cells n (place_of cells a.zone) (are_all g cells) a.deed [];
  counts = counts_after g cells n (place_of cells a.zone) (are_all g cells) a.deed [];
}

-- the outcome of a deed to all zones
abbrev pub outcome_of_sweep : GeometryFields → List Cell → Limits → Deed → Outcome
outcome_of_sweep g cells n d = record {
  code = unwrap_or (sweep_refusal g cells n d) success;
  cells = swept_cells g cells n d;
  counts = counts_in (swept_cells g cells n d);
}

-- the outcome of a deed to one zone, of a deed to all zones, or of nothing
abbrev pub deeds_done : GeometryFields → List Cell → Limits → Option Aim → Option Deed → Outcome
deeds_done g cells n (Some a) d = outcome_of_aim g cells n a
deeds_done g cells n None (Some d) = outcome_of_sweep g cells n d
deeds_done g cells n None None = no_change success cells n

abbrev pub unless_refused : Option Status → List Cell → Limits → Outcome → Outcome
unless_refused (Some code) cells n done = no_change code cells n
unless_refused None cells n done = done

-- a refusal by a row that no zone decides, or else the outcome of the Send's deed
unfoldable pub outcome : GeometryFields → List Cell → Limits → Cmd → Outcome
outcome g cells n k = unless_refused (first_holding (front_rows g k)) cells n (deeds_done g cells n (aim_of g k) (sweep_of k))

-- ---- an excursion

-- the verdict of a zone's state on an excursion of a kind
abbrev pub excursion_verdict : GeometryFields → Cell → ℕ → Served
excursion_verdict g c kind = refused_or_done (first_holding (rows_for g (deed.Excursion kind) (sight c)))

-- the zone after the excursion
abbrev pub cell_after_excursion : GeometryFields → Cell → ℕ → Cell
cell_after_excursion g c kind = new_if_done (excursion_verdict g c kind) (after_deed g (deed.Excursion kind) [] c) c
