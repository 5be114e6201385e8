-- The result of a deed to one of the lent cells.
use Rattle.std.specs.Prelude.{ℕ, Bool, not, ◌&&◌, if◌then◌else◌, List, ◌++◌, slice_set, Option, Some, None, is_some}
use Rattle.zns_types.specs.declared.fields.GeometryFields.{GeometryFields}
use Rattle.zns_types.specs.Statuses.{Status}
use Rattle.zns_types.specs.Rows.{Row, first_holding}
use Rattle.zone_limits.specs.declared.limits.Limits.{Limits}
use Rattle.zone_limits.specs.declared.limits.Need.{Need}
use Rattle.zone_limits.specs.Resources.{need_rows}
use Rattle.drive_rules.specs.declared.deed.Deed.{Deed}
use Rattle.drive_rules.specs.Deeds.{rows_for, need_for}
use Rattle.drive_rules.specs.Tables.{wants_room}
use Rattle.zone_cell.specs.Cells.{Cell, sight}
use Rattle.zone_cell.specs.Deeds.{after_deed}
use Rattle.zone_room.specs.declared.serving.Served.{Served}
use Rattle.zone_room.specs.declared.serving.Served.TheVariants as served
use Rattle.zone_room.specs.Rooms.{cell_in, victim_in, with_closed, counts_changed, counts_after_close}

-- the rows of the zone at a place for a deed
abbrev pub rows_at : GeometryFields → List Cell → ℕ → Deed → List (Row Status)
rows_at g cells place d = rows_for g d (sight (cell_in cells place))

-- what the deed needs
abbrev pub need_at : List Cell → ℕ → Deed → Need
need_at cells place d = need_for d (sight (cell_in cells place))

-- the place of the zone that gives way to the deed
abbrev pub victim_at : GeometryFields → List Cell → Limits → ℕ → Deed → Option ℕ
victim_at g cells n place d = victim_in g cells n (rows_at g cells place d) (need_at cells place d) place

-- refused by a row, or done
abbrev pub refused_or_done : Option Status → Served
refused_or_done None = served.Done
refused_or_done (Some code) = served.Refused code

-- The verdict on a zone's rows and need. If a zone has to give way and not all zones are lent, the deed asks for all of them; otherwise the
-- rows of the zone judge, and then the rows for the resources it needs.
unfoldable pub verdict_on : GeometryFields → Limits → List (Row Status) → Need → Bool → Option ℕ → Served
verdict_on g n rows need all victim =
    if wants_room g n rows need && not all then served.Widens
    else refused_or_done (first_holding (rows ++ need_rows g n need (is_some victim)))

-- the verdict on a deed to the zone at a place
abbrev pub verdict : GeometryFields → List Cell → Limits → ℕ → Bool → Deed → Served
verdict g cells n place all d = verdict_on g n (rows_at g cells place d) (need_at cells place d) all (victim_at g cells n place d)

-- the cells with the deed done, after a zone gave way
abbrev pub with_deed : GeometryFields → List Cell → Limits → ℕ → Deed → List ℕ → List Cell
with_deed g cells n place d payload = slice_set (with_closed g (victim_at g cells n place d) cells) place (after_deed g d payload (cell_in cells place))

-- the same for the counts
abbrev pub counts_with_deed : GeometryFields → List Cell → Limits → ℕ → Deed → List ℕ → Limits
counts_with_deed g cells n place d payload =
    counts_changed (cell_in cells place) (after_deed g d payload (cell_in cells place)) (counts_after_close (victim_at g cells n place d) cells n)

-- the new value if the deed was done, or else the old one
abbrev pub new_if_done : {A : Type 0} → Served → A → A → A
new_if_done served.Done new old = new
new_if_done _ new old = old

-- the cells after the verdict
abbrev pub cells_after : GeometryFields → List Cell → Limits → ℕ → Bool → Deed → List ℕ → List Cell
cells_after g cells n place all d payload = new_if_done (verdict g cells n place all d) (with_deed g cells n place d payload) cells

-- the same for the counts
abbrev pub counts_after : GeometryFields → List Cell → Limits → ℕ → Bool → Deed → List ℕ → Limits
counts_after g cells n place all d payload = new_if_done (verdict g cells n place all d) (counts_with_deed g cells n place d payload) n
