-- The resources of a drive that a zone uses, and how they are counted.
use Rattle.std.specs.Prelude.{◌≡◌, ℕ, ◌<◌, ◌≤◌, Bool, IsTrue, false, List, All}
use Rattle.zns_types.specs.declared.fields.GeometryFields.{GeometryFields}
use Rattle.zone_limits.specs.declared.limits.Limits.{Limits}
use Rattle.zone_limits.specs.declared.limits.Need.{Need}
use Rattle.zone_limits.specs.Resources.{AreWithin, HasRoom}
use Rattle.drive_rules.specs.Deeds.{use_of}
use Rattle.zone_cell.specs.Cells.{Cell, sight}

-- a zone that uses the resource is counted, and a zone that doesn't leaves one of the zones uncounted
pub record IsCounted (zones n : ℕ) (uses : Bool) : Type 0 where
  pub used : IsTrue uses → 1 ≤ n
  pub unused : uses ≡ false → n < zones

-- a zone's use is among the counts, which are within their limits
pub record AreCounted (g : GeometryFields) (n : Limits) (u : Need) : Type 0 where
  pub within : AreWithin g n
  pub active : IsCounted g.zones n.active u.active
  pub opened : IsCounted g.zones n.opened u.opened
  pub windows : IsCounted g.zones n.windows u.window

-- the use of each of these cells is counted
abbrev pub EachIsCounted : GeometryFields → Limits → List Cell → Type 0
EachIsCounted g n cells = All (λ c. AreCounted g n (use_of (sight c))) cells

-- there is a resource left for each use that the zone didn't have before
pub record HasRoomFor (g : GeometryFields) (n : Limits) (before after : Need) : Type 0 where
  pub active : IsTrue after.active → before.active ≡ false → HasRoom g.active_limit n.active
  pub opened : IsTrue after.opened → before.opened ≡ false → HasRoom g.open_limit n.opened
  pub windows : IsTrue after.window → before.window ≡ false → n.windows < g.windows

-- the resources that are needed are left
pub record HasNeeded (g : GeometryFields) (n : Limits) (need : Need) : Type 0 where
  pub active : IsTrue need.active → HasRoom g.active_limit n.active
  pub opened : IsTrue need.opened → HasRoom g.open_limit n.opened
  pub windows : IsTrue need.window → n.windows < g.windows
