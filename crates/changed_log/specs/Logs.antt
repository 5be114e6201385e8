-- The log of changed zones: a mark for each zone, and the rising list of the marked zones. (Zoned Namespace Command Set Specification 1.1,
-- 4.1.4, Changed Zone List.)
use Rattle.std.specs.Prelude.{ℕ, Bool, false, ◌==◌, nat_lt, if◌then◌else◌, List, [], ◌∷◌, filter, length, slice_index_or}
use Rattle.std.specs.List.{flat_map, range_with_len}
use Rattle.byteorder.specs.Endian.{little_bytes}
use Rattle.zns_types.specs.declared.fields.GeometryFields.{GeometryFields}
use Rattle.zns_types.specs.Geometry.{first}

-- the marked zones below a number, rising
abbrev pub marked_below : List Bool → ℕ → List ℕ
marked_below marks n = filter (λ z. slice_index_or marks z false) (range_with_len 0 n)

-- the marked zones, rising
unfoldable pub marked_zones : List Bool → List ℕ
marked_zones marks = marked_below marks (length marks)

-- a rising list of zones, with one zone put in its place, once
abbrev pub with_zone : ℕ → List ℕ → List ℕ
with_zone z [] = z ∷ []
with_zone z (y ∷ ys) = if nat_lt z y then z ∷ y ∷ ys else if z == y then y ∷ ys else y ∷ with_zone z ys

-- the first blocks of zones, 8 bytes each
abbrev pub first_blocks : GeometryFields → List ℕ → List ℕ
first_blocks g zones = flat_map (λ z. little_bytes 8 (first g z)) zones
