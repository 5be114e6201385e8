-- What has become of each zone after a history, and how many of the drive's resources are in use.
use Rattle.std.specs.Prelude.{ℕ, Bool, List, Option, count_by}
use Rattle.std.specs.List.{range_with_len}
use Rattle.zns_types.specs.declared.fields.GeometryFields.{GeometryFields}
use Rattle.zns_types.specs.declared.state.State.{State}
use Rattle.zns_types.specs.States.{is_closed}
use Rattle.zns_types.specs.Geometry.{first}
use Rattle.zone_limits.specs.declared.limits.Limits.{Limits}
use Rattle.zone_limits.specs.declared.limits.Need.{Need}
use Rattle.zone_descriptor.specs.declared.descriptor.Descriptor.{Descriptor}
use Rattle.drive_rules.specs.ZoneRows.{Zone}
use Rattle.drive_rules.specs.Deeds.{use_of}
use Rattle.drive_rules.specs.Shown.{shown_pointer}
use Rattle.zone_history.specs.Histories.{pointer_of, state_of, window_of, sight_of, block_of, seen_of, is_committed, attributes_of}
use Rattle.zone_model.specs.Places.{Place, deeds}

-- the write pointer, as an offset
abbrev pub pointer : GeometryFields → List Place → ℕ → ℕ
pointer g h z = pointer_of g (deeds h z)

abbrev pub state : GeometryFields → List Place → ℕ → State
state g h z = state_of g (deeds h z)

-- whether the zone has a random write area
abbrev pub window : GeometryFields → List Place → ℕ → Bool
window g h z = window_of g (deeds h z)

-- what refusal rows see of a zone
abbrev pub zone : GeometryFields → List Place → ℕ → Zone
zone g h z = sight_of g (deeds h z)

-- the bytes that were last written to a block since the zone's last reset
abbrev pub block : GeometryFields → List Place → ℕ → ℕ → Option (List ℕ)
block g h z b = block_of g (deeds h z) b

-- a block as a Read returns it
abbrev pub seen : GeometryFields → List Place → ℕ → ℕ → List ℕ
seen g h z b = seen_of g (deeds h z) b

-- a block that doesn't change until Reset or Offline
abbrev pub committed : GeometryFields → List Place → ℕ → ℕ → Bool
committed g h z b = is_committed g (deeds h z) b

abbrev pub attributes : GeometryFields → List Place → ℕ → ℕ
attributes g h z = attributes_of g (deeds h z)

-- ---- counts

abbrev pub zones : GeometryFields → List ℕ
zones g = range_with_len 0 g.zones

-- the resources that the zones use in total
unfoldable pub counted : GeometryFields → (ℕ → Need) → Limits
counted g uses = record {
  active = count_by (λ z. (uses z).active) (zones g);
  opened = count_by (λ z. (uses z).opened) (zones g);
  windows = count_by (λ z. (uses z).window) (zones g);
}

-- what a zone uses of the drive's resources
abbrev pub uses : GeometryFields → List Place → ℕ → Need
uses g h z = use_of (zone g h z)

-- the resources that are in use
abbrev pub counts : GeometryFields → List Place → Limits
counts g h = counted g (uses g h)

abbrev pub active : GeometryFields → List Place → ℕ
active g h = (counts g h).active

abbrev pub opened : GeometryFields → List Place → ℕ
opened g h = (counts g h).opened

abbrev pub windows : GeometryFields → List Place → ℕ
windows g h = (counts g h).windows

unfoldable pub closed_zones : GeometryFields → List Place → ℕ
closed_zones g h = count_by (λ z. is_closed (state g h z)) (zones g)

-- ---- descriptors

abbrev pub descriptor : GeometryFields → List Place → ℕ → Descriptor
descriptor g h z = record {
  state = state g h z;
  attributes = attributes g h z;
  capacity = g.capacity;
  first = first g z;
  pointer = shown_pointer (state g h z) (first g z) (pointer g h z);
}
