-- The effect of a write before the book is held on the cell of its zone; it needs no resource.
use Rattle.std.specs.Prelude.{ℕ, ◌+◌, List, Option, Some, None}
use Rattle.zns_types.specs.declared.fields.GeometryFields.{GeometryFields}
use Rattle.zns_types.specs.Geometry.{first}
use Rattle.zns_types.specs.Statuses.{Status}
use Rattle.zns_types.specs.Rows.{first_holding}
use Rattle.zone_limits.specs.declared.limits.Need.{Need}
use Rattle.zone_limits.specs.Resources.{no_need}
use Rattle.drive_rules.specs.declared.aim.Aim.{Aim}
use Rattle.drive_rules.specs.declared.deed.Deed.{Deed}
use Rattle.drive_rules.specs.declared.deed.Deed.TheVariants as deed
use Rattle.drive_rules.specs.Deeds.{rows_for}
use Rattle.zone_cell.specs.Cells.{Cell, sight}
use Rattle.zone_cell.specs.Deeds.{after_deed}
use Rattle.zone_room.specs.Rooms.{cell_use}
use Rattle.drive_book.specs.declared.outcome.Outcome.{Outcome}
use Rattle.drive_book.specs.Outcomes.{refusal_with, plain_success}
use Rattle.solo_drive.specs.declared.ahead.Ready.{Ready}
use Rattle.solo_drive.specs.Telling.{placed_outcome}
use Rattle.solo_drive.specs.Ahead.{given_up}

-- the result of a command, with what its zone gives back
abbrev pub ready_with : Outcome → Need → Ready
ready_with o freed = record { code = o.code; dw0 = o.dw0; dw1 = o.dw1; len = o.len; freed = freed }

-- the first row with which the zone of a cell refuses a deed
abbrev pub refusal_in : GeometryFields → Deed → Cell → Option Status
refusal_in g d c = first_holding (rows_for g d (sight c))

-- an Append returns the first of its blocks
abbrev pub told_by : GeometryFields → ℕ → ℕ → Deed → Outcome
told_by g zone pointer (deed.Append blocks) = placed_outcome (first g zone + pointer)
told_by g zone pointer _ = plain_success

-- the new cell, unless the deed was refused
abbrev pub cell_by : Option Status → Cell → Cell → Cell
cell_by None new old = new
cell_by (Some code) new old = old

-- what is reported of the deed, unless it was refused
abbrev pub ready_by : Option Status → Ready → Ready
ready_by None r = r
ready_by (Some code) r = ready_with (refusal_with code) no_need

abbrev pub written_cell : GeometryFields → Deed → List ℕ → Cell → Cell
written_cell g d payload c = cell_by (refusal_in g d c) (after_deed g d payload c) c

abbrev pub written_ready : GeometryFields → Aim → List ℕ → Cell → Ready
written_ready g aim payload c =
    ready_by (refusal_in g aim.deed c) (ready_with (told_by g aim.zone c.pointer aim.deed) (given_up (cell_use c) (cell_use (after_deed g aim.deed payload c))))
