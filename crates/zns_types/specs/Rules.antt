-- The rules on the fields of a geometry, in their order, each with the error that is given if it is broken.
use Rattle.std.specs.Prelude.{ℕ, ◌*◌, ◌%◌, ◌^◌, Bool, true, false, not, ◌&&◌, ◌||◌, ◌==◌, nat_lt, if◌then◌else◌, List, [], ◌∷◌, ◌++◌}
use Rattle.zns_types.specs.declared.fields.GeometryFields.{GeometryFields}
use Rattle.zns_types.specs.declared.field.Field.{Field}
use Rattle.zns_types.specs.declared.field.Field.TheVariants.{BlockExp, Mdts, Zasl, Flags, Zones, ZoneSize, Capacity, Granule, Window, Queues, Depth}
use Rattle.zns_types.specs.declared.field.GeomErr.{GeomErr}
use Rattle.zns_types.specs.Rows.{Row, when}

-- a number that makes no drive at all
abbrev pub bad : Field → ℕ → Bool → Row GeomErr
bad field number b = when b (record { field = field; number = number; large = false })

-- a number that is too large for this drive
abbrev pub large : Field → ℕ → Bool → Row GeomErr
large field number b = when b (record { field = field; number = number; large = true })

abbrev pub unit_rules : GeometryFields → List (Row GeomErr)
unit_rules g =
    bad BlockExp g.block_exp (not (g.block_exp == 9) && not (g.block_exp == 12))
    ∷ bad Mdts g.mdts (nat_lt 16 g.mdts)
    ∷ bad Zasl g.zasl (nat_lt 16 g.zasl)
    ∷ bad Flags g.flags (nat_lt 1 g.flags)
    ∷ []

abbrev pub zone_rules : GeometryFields → List (Row GeomErr)
zone_rules g =
    bad Zones g.zones (g.zones == 0)
    ∷ large Zones g.zones (nat_lt 4096 g.zones)
    ∷ bad ZoneSize g.zone_size (g.zone_size == 0)
    ∷ large ZoneSize g.zone_size (nat_lt (2 ^ 28) (g.zones * g.zone_size * 2 ^ g.block_exp))
    ∷ bad Capacity g.capacity ((g.capacity == 0) || nat_lt g.zone_size g.capacity)
    ∷ []

-- exactly one of the two holds
abbrev pub differ : Bool → Bool → Bool
differ a b = if a then not b else b

abbrev pub window_rules : GeometryFields → List (Row GeomErr)
window_rules g =
    bad Granule g.granule (differ (g.granule == 0) (g.windows == 0))
    ∷ bad Granule g.granule (not (g.granule == 0) && not (g.capacity % g.granule == 0))
    ∷ bad Window g.window (if g.granule == 0 then not (g.window == 0) else not (g.window % g.granule == 0) || nat_lt g.window g.granule || nat_lt g.capacity g.window)
    ∷ []

abbrev pub queue_rules : GeometryFields → List (Row GeomErr)
queue_rules g =
    bad Queues g.queues (g.queues == 0)
    ∷ large Queues g.queues (nat_lt 17 g.queues)
    ∷ bad Depth g.depth (nat_lt g.depth 2)
    ∷ large Depth g.depth (nat_lt 4096 g.depth)
    ∷ []

abbrev pub rules : GeometryFields → List (Row GeomErr)
rules g = unit_rules g ++ (zone_rules g ++ (window_rules g ++ queue_rules g))
