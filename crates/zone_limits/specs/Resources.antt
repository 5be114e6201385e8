-- The resources of zones, and which shortage refuses a command: Zoned Namespace Command Set Specification 1.1, 2.1.1 (active and open
-- resources), with random write areas by Technical Proposal 4076.
use Rattle.std.specs.Prelude.{ℕ, ◌+◌, ◌-◌, ◌<◌, ◌≤◌, Bool, false, not, ◌&&◌, ◌==◌, nat_le, if◌then◌else◌, List, [], ◌∷◌}
use Rattle.zns_types.specs.declared.fields.GeometryFields.{GeometryFields}
use Rattle.zns_types.specs.Statuses.{Status, too_many_active_zones, too_many_open_zones, zrwa_resources_unavailable}
use Rattle.zns_types.specs.Rows.{Row, when}
use Rattle.zone_limits.specs.declared.limits.Limits.{Limits}
use Rattle.zone_limits.specs.declared.limits.Need.{Need}

-- a limit on active or opened zones is reached; 0 means no limit
abbrev pub at_limit : ℕ → ℕ → Bool
at_limit limit count = not (limit == 0) && nat_le limit count

-- as many zones have a random write area as may; 0 means none may
abbrev pub windows_used_up : GeometryFields → ℕ → Bool
windows_used_up g count = nat_le g.windows count

-- too many active zones
abbrev pub no_active_left : GeometryFields → Limits → Need → Row Status
no_active_left g counts need = when (need.active && at_limit g.active_limit counts.active) too_many_active_zones

-- too many open zones, and none that can be closed to make room
abbrev pub no_open_left : GeometryFields → Limits → Need → Bool → Row Status
no_open_left g counts need evictable = when (need.opened && at_limit g.open_limit counts.opened && not evictable) too_many_open_zones

-- no random write area left
abbrev pub no_window_left : GeometryFields → Limits → Need → Row Status
no_window_left g counts need = when (need.window && windows_used_up g counts.windows) zrwa_resources_unavailable

-- The shortages that refuse a command, in order. Too many open zones don't refuse it if one can be closed.
abbrev pub need_rows : GeometryFields → Limits → Need → Bool → List (Row Status)
need_rows g counts need evictable =
    no_active_left g counts need ∷ no_open_left g counts need evictable ∷ no_window_left g counts need ∷ []

-- nothing is needed
abbrev pub no_need : Need
no_need = record { active = false; opened = false; window = false }

-- a zone has to give way: one more is to be opened, but the limit is reached
abbrev pub evicts : GeometryFields → Limits → Need → Bool
evicts g counts need = need.opened && at_limit g.open_limit counts.opened

-- one more, if it is needed
abbrev pub more : Bool → ℕ → ℕ
more needed count = if needed then count + 1 else count

-- one fewer, if it is named
abbrev pub fewer : Bool → ℕ → ℕ
fewer named count = if named then count - 1 else count

-- the counts with what is needed added
abbrev pub taken : Limits → Need → Limits
taken counts need = record {
  active = more need.active counts.active;
  opened = more need.opened counts.opened;
  windows = more need.window counts.windows;
}

-- the counts with what is named subtracted
abbrev pub given_back : Limits → Need → Limits
given_back counts need = record {
  active = fewer need.active counts.active;
  opened = fewer need.opened counts.opened;
  windows = fewer need.window counts.windows;
}

-- the counts after a change in what a zone uses
abbrev pub recounted : Need → Need → Limits → Limits
recounted before after counts = taken (given_back counts before) after

-- a count is within a limit; 0 means no limit
abbrev pub IsWithin : ℕ → ℕ → Type 0
IsWithin limit count = 1 ≤ limit → count ≤ limit

-- the counts are within the limits, and are counts of zones
pub record AreWithin (g : GeometryFields) (counts : Limits) : Type 0 where
  pub active : IsWithin g.active_limit counts.active
  pub opened : IsWithin g.open_limit counts.opened
  pub windows : counts.windows ≤ g.windows
  pub active_zones : counts.active ≤ g.zones
  pub opened_zones : counts.opened ≤ g.zones
  pub window_zones : counts.windows ≤ g.zones

-- there is room for one more
abbrev pub HasRoom : ℕ → ℕ → Type 0
HasRoom limit count = 1 ≤ limit → count < limit
