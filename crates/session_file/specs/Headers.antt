-- The parts of a header.
use Rattle.std.specs.Prelude.{ℕ, List, [], ◌∷◌, ◌++◌, codes}
use Rattle.byteorder.specs.Endian.{little_bytes}
use Rattle.zns_types.specs.declared.fields.GeometryFields.{GeometryFields}

-- its text, and the numbers of one byte
abbrev pub start_bytes : GeometryFields → List ℕ
start_bytes g = codes "ZNSQ0001" ++ (g.block_exp ∷ g.mdts ∷ g.zasl ∷ g.flags ∷ [])

-- the number and the sizes of zones
abbrev pub zones_bytes : GeometryFields → List ℕ
zones_bytes g = little_bytes 4 g.zones ++ little_bytes 8 g.zone_size ++ little_bytes 8 g.capacity

-- how many zones may be active, be open, and have a random write area
abbrev pub limits_bytes : GeometryFields → List ℕ
limits_bytes g = little_bytes 4 g.active_limit ++ little_bytes 4 g.open_limit ++ little_bytes 4 g.windows

-- the sizes of random write areas, and the queues
abbrev pub windows_bytes : GeometryFields → List ℕ
windows_bytes g = little_bytes 2 g.granule ++ little_bytes 2 g.window ++ little_bytes 2 g.queues ++ little_bytes 2 g.depth
