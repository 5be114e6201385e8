-- What a host knows of a zone, and how its commands change that.
use Rattle.std.specs.Prelude.{◌≡◌, ℕ, ◌+◌, ◌-◌, ◌<◌, ◌≤◌, min, max, Bool, true, false, ◌&&◌, ◌||◌, ◌==◌, nat_le, if◌then◌else◌, List, slice_index}
use Rattle.zns_types.specs.declared.fields.GeometryFields.{GeometryFields}
use Rattle.zns_types.specs.declared.state.State.{State}
use Rattle.zns_types.specs.States.{by_state}
use Rattle.zns_types.specs.Fields.{field, bit}
use Rattle.zns_types.specs.Geometry.{first}
use Rattle.zone_descriptor.specs.Descriptors.{type_of, sequential, state_number}
use Rattle.zrwa_commit.specs.Least.{least_multiple}
use Rattle.drive_rules.specs.ZoneRows.{Zone}
use Rattle.drive_rules.specs.declared.deed.Deed.{Deed}
use Rattle.drive_rules.specs.declared.deed.Deed.TheVariants as deed
use Rattle.zone_model.specs.Places.{Place}
use Rattle.zone_model.specs.Zones.{zone}
use Rattle.host_library.specs.declared.stage.Stage.{Stage}
use Rattle.host_library.specs.declared.stage.Stage.TheVariants as stage
use Rattle.host_library.specs.declared.shadow.Shadow.{Shadow}

-- ---- stages

-- one value for each stage: Unknown, Empty, Active, Full, Read Only, Offline
abbrev pub by_stage : {A : Type 0} → A → A → A → A → A → A → Stage → A
by_stage u e a f r o stage.Unknown = u
by_stage u e a f r o stage.Empty = e
by_stage u e a f r o stage.Active = a
by_stage u e a f r o stage.Full = f
by_stage u e a f r o stage.ReadOnly = r
by_stage u e a f r o stage.Offline = o

-- the stage of a state: opened and Closed are Active
abbrev pub stage_of : State → Stage
stage_of = by_state stage.Empty stage.Active stage.Active stage.Active stage.Full stage.ReadOnly stage.Offline

-- the stage of the state with a number
abbrev pub stage_numbered : ℕ → Stage
stage_numbered n =
    if n == 0x1 then stage.Empty
    else if nat_le 0x2 n && nat_le n 0x4 then stage.Active
    else if n == 0xd then stage.ReadOnly
    else if n == 0xe then stage.Full
    else if n == 0xf then stage.Offline
    else stage.Unknown

abbrev pub is_known : Stage → Bool
is_known = by_stage false true true true true true

abbrev pub is_active_stage : Stage → Bool
is_active_stage = by_stage false false true false false false

-- a zone in these stages has a write pointer
abbrev pub has_pointer : Stage → Bool
has_pointer = by_stage false true true false false false

-- ---- shadows

-- nothing is known
abbrev pub unknown : Shadow
unknown = record { stage = stage.Unknown; window = false; pointer = 0 }

-- a shadow in a stage; it has a pointer only if the zone has one
abbrev pub shadow_at : Stage → Bool → ℕ → Shadow
shadow_at s window pointer = record { stage = s; window = window; pointer = if has_pointer s then pointer else 0 }

abbrev pub shadow_of_zone : Zone → Shadow
shadow_of_zone zone = shadow_at (stage_of zone.state) zone.window zone.pointer

-- the shadow of a zone of the drive
abbrev pub drive_shadow : GeometryFields → List Place → ℕ → Shadow
drive_shadow g h z = shadow_of_zone (zone g h z)

-- what is true of every shadow
pub record IsShadow (g : GeometryFields) (s : Shadow) : Type 0 where
  pub within : s.pointer ≤ g.capacity
  pub hidden : has_pointer s.stage ≡ false → s.pointer ≡ 0

-- ---- what a report shows

-- the stage that a descriptor shows
abbrev pub stage_shown : List ℕ → Stage
stage_shown bytes = if type_of bytes == sequential then stage_numbered (state_number bytes) else stage.Unknown

-- The shadow of a zone, from its descriptor: the pointer is counted from the zone's first block, and the random write area is bit 3 of the
-- attributes.
abbrev pub shadow_shown : GeometryFields → ℕ → List ℕ → Shadow
shadow_shown g z bytes = shadow_at (stage_shown bytes) (is_active_stage (stage_shown bytes) && bit 3 (slice_index bytes 2)) (min (field 24 8 bytes - first g z) g.capacity)

-- ---- what a command makes of it

abbrev pub active : Bool → ℕ → Shadow
active window pointer = record { stage = stage.Active; window = window; pointer = pointer }

abbrev pub empty : Shadow
empty = record { stage = stage.Empty; window = false; pointer = 0 }

abbrev pub full : Shadow
full = record { stage = stage.Full; window = false; pointer = 0 }

-- an active zone with its pointer at an offset, or a full one if that is the capacity
abbrev pub filled_to : GeometryFields → Bool → ℕ → Shadow
filled_to g window pointer = if nat_le g.capacity pointer then full else active window pointer

-- the pointer after a write of `blocks` blocks from an offset on: with a random write area, the least multiple of the granule from which on
-- the write ends inside the area
abbrev pub pointer_after : GeometryFields → Shadow → ℕ → ℕ → ℕ
pointer_after g s from blocks = if s.window then least_multiple g.granule (max s.pointer (from + blocks - g.window)) else s.pointer + blocks

-- a deed's offsets are in a zone
abbrev pub IsInZone : GeometryFields → Deed → Type 0
IsInZone g (deed.Write from blocks) = from < g.zone_size
IsInZone g (deed.Commit last) = last < g.zone_size
IsInZone g _ = Unit {0}

-- the shadow of a zone after a deed
abbrev pub shadow_after : GeometryFields → Deed → Shadow → Shadow
shadow_after g (deed.Write from blocks) s = filled_to g s.window (pointer_after g s from blocks)
shadow_after g (deed.Append blocks) s = filled_to g s.window (s.pointer + blocks)
shadow_after g (deed.Open asks) s = active (s.window || asks) s.pointer
shadow_after g (deed.Commit last) s = filled_to g s.window (last + 1)
shadow_after g deed.Reset s = empty
shadow_after g _ s = s
