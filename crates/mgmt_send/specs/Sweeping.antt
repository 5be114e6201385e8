-- A Zone Management Send with Select All, on the cells of all zones: Zoned Namespace Command Set Specification 1.1,
-- 3.4.3.1.
use Rattle.std.specs.Prelude.{◌≡◌, ℕ, ◌+◌, Bool, true, false, not, if◌then◌else◌, List, [], length, map, Option, is_some, All}
use Rattle.std.specs.List.{count_by}
use Rattle.zns_types.specs.declared.fields.GeometryFields.{GeometryFields}
use Rattle.zns_types.specs.States.{is_closed}
use Rattle.zns_types.specs.Statuses.{Status}
use Rattle.zns_types.specs.Rows.{Row, first_holding}
use Rattle.zone_limits.specs.declared.limits.Limits.{Limits}
use Rattle.zone_limits.specs.Resources.{AreWithin, IsWithin}
use Rattle.drive_rules.specs.declared.deed.Deed.{Deed}
use Rattle.drive_rules.specs.declared.deed.Deed.TheVariants as deed
use Rattle.drive_rules.specs.Deeds.{takes_all}
use Rattle.drive_rules.specs.Tables.{open_all_rows}
use Rattle.zone_cell.specs.Cells.{Cell, IsOf}
use Rattle.zone_cell.specs.Deeds.{after_deed}
use Rattle.zone_room.specs.Rooms.{cell_use}

-- the number of these zones that use each resource
abbrev pub counts_in : List Cell → Limits
counts_in cells = record {
  active = count_by (λ c. (cell_use c).active) cells;
  opened = count_by (λ c. (cell_use c).opened) cells;
  windows = count_by (λ c. (cell_use c).window) cells;
}

-- These are the cells of all zones of a drive, with the counts of what they use, which are within the drive's limits.
pub record AreAllZones (g : GeometryFields) (cells : List Cell) (n : Limits) : Type 0 where
  pub zones : length cells ≡ g.zones
  pub of : All (IsOf g) cells
  pub counts : n ≡ counts_in cells
  pub within : AreWithin g n

-- a deed that a Send can do to all zones; an Open then asks for no random write area
abbrev pub goes_to_all : Deed → Bool
goes_to_all deed.Close = true
goes_to_all deed.Finish = true
goes_to_all (deed.Open window) = not window
goes_to_all deed.Reset = true
goes_to_all deed.Offline = true
goes_to_all _ = false

-- the number of these zones that are Closed
abbrev pub closed_in : List Cell → ℕ
closed_in cells = count_by (λ c. is_closed c.state) cells

-- the rows that refuse a deed to all zones
abbrev pub sweep_rows : GeometryFields → List Cell → Limits → Deed → List (Row Status)
sweep_rows g cells n (deed.Open window) = open_all_rows g n (closed_in cells)
sweep_rows g cells n _ = []

-- the status with which the deed is refused, if it is
abbrev pub sweep_refusal : GeometryFields → List Cell → Limits → Deed → Option Status
sweep_refusal g cells n d = first_holding (sweep_rows g cells n d)

-- a zone after the deed, if the zone's state allows it
abbrev pub swept_cell : GeometryFields → Deed → Cell → Cell
swept_cell g d c = if takes_all d c.state then after_deed g d [] c else c

-- all zones after the deed, unless it was refused
abbrev pub swept_cells : GeometryFields → List Cell → Limits → Deed → List Cell
swept_cells g cells n d = if is_some (sweep_refusal g cells n d) then cells else map (swept_cell g d) cells

-- whether the deed opens a zone that isn't opened
abbrev pub opens_closed : Deed → Cell → Bool
opens_closed (deed.Open window) c = is_closed c.state
opens_closed _ c = false

-- the opened zones, together with those that the deed opens, are within the limit
abbrev pub HasRoomToOpen : GeometryFields → Deed → List Cell → Limits → Type 0
HasRoomToOpen g d cells n = IsWithin g.open_limit (n.opened + count_by (opens_closed d) cells)
