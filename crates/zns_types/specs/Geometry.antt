-- The rules that the numbers of a drive keep, and what they mean.
use Rattle.std.specs.Prelude.{◌≡◌, ℕ, ◌+◌, ◌*◌, ◌/◌, ◌%◌, ◌^◌, ◌≤◌, min, ◌==◌, ◌||◌, if◌then◌else◌, IsTrue}
use Rattle.zns_types.specs.declared.fields.GeometryFields.{GeometryFields}

-- blocks of 512 or 4,096 bytes, and limits on one transfer
pub record HasUnits (g : GeometryFields) : Type 0 where
  pub block_exp : IsTrue ((g.block_exp == 9) || (g.block_exp == 12))
  pub mdts : g.mdts ≤ 16
  pub zasl : g.zasl ≤ 16
  pub flags : g.flags ≤ 1

-- 1 to 4,096 zones, a namespace of at most 2^28 bytes, and zones that can be written
pub record HasZones (g : GeometryFields) : Type 0 where
  pub some_zones : 1 ≤ g.zones
  pub few_zones : g.zones ≤ 4096
  pub zone_size : 1 ≤ g.zone_size
  pub namespace : g.zones * g.zone_size * 2 ^ g.block_exp ≤ 2 ^ 28
  pub some_capacity : 1 ≤ g.capacity
  pub capacity : g.capacity ≤ g.zone_size

-- granules that divide the window and the capacity
pub record HasGranules (g : GeometryFields) : Type 0 where
  pub granule : 1 ≤ g.granule
  pub capacity : g.capacity % g.granule ≡ 0
  pub window : g.window % g.granule ≡ 0
  pub some_window : g.granule ≤ g.window
  pub window_fits : g.window ≤ g.capacity

-- no granule and no window if no zone may have a random write area; otherwise granules that fit
pub record HasWindows (g : GeometryFields) : Type 0 where
  pub no_granule : g.windows ≡ 0 → g.granule ≡ 0
  pub no_window : g.windows ≡ 0 → g.window ≡ 0
  pub granules : 1 ≤ g.windows → HasGranules g

-- 1 to 17 queues of 2 to 4,096 entries
pub record HasQueues (g : GeometryFields) : Type 0 where
  pub some_queues : 1 ≤ g.queues
  pub few_queues : g.queues ≤ 17
  pub some_depth : 2 ≤ g.depth
  pub small_depth : g.depth ≤ 4096

pub record IsGeometry (g : GeometryFields) : Type 0 where
  pub units : HasUnits g
  pub zones : HasZones g
  pub windows : HasWindows g
  pub queues : HasQueues g

-- the bytes of a block
abbrev pub block_len : GeometryFields → ℕ
block_len g = 2 ^ g.block_exp

-- the blocks of the namespace
abbrev pub all_blocks : GeometryFields → ℕ
all_blocks g = g.zones * g.zone_size

-- the first block of a zone
abbrev pub first : GeometryFields → ℕ → ℕ
first g z = z * g.zone_size

-- the zone that holds a block
abbrev pub zone_of : GeometryFields → ℕ → ℕ
zone_of g lba = lba / g.zone_size

-- a block's offset in its zone
abbrev pub offset_of : GeometryFields → ℕ → ℕ
offset_of g lba = lba % g.zone_size

-- the most bytes that one command may move: Base Specification 2.0, 5.17.2.1 (MDTS)
abbrev pub greatest_transfer : GeometryFields → ℕ
greatest_transfer g = if g.mdts == 0 then 65536 * block_len g else min (65536 * block_len g) (2 ^ (12 + g.mdts))
