-- Reports and the log page of changed zones, as functions of plain data.
use Rattle.std.specs.Prelude.{ℕ, ◌*◌, ◌-◌, ◌/◌, Bool, true, false, ◌==◌, nat_lt, if◌then◌else◌, List, ◌++◌, filter, take, length, replicate}
use Rattle.std.specs.List.{flat_map}
use Rattle.byteorder.specs.Endian.{little_bytes}
use Rattle.zns_types.specs.declared.fields.GeometryFields.{GeometryFields}
use Rattle.zns_types.specs.declared.state.State.{State}
use Rattle.zns_types.specs.States.{is_empty, is_implicitly_opened, is_closed, is_full, is_read_only, is_offline, by_state}
use Rattle.zns_types.specs.Geometry.{first}
use Rattle.zone_descriptor.specs.declared.descriptor.Descriptor.{Descriptor}
use Rattle.zone_descriptor.specs.Descriptors.{descriptor_bytes}

-- the states that a filter takes: all, or one of them (Zoned Namespace Command Set Specification 1.1, 3.4.2.1)
abbrev pub passes : ℕ → State → Bool
passes kind s =
    if kind == 0 then true
    else if kind == 1 then is_empty s
    else if kind == 2 then is_implicitly_opened s
    else if kind == 3 then by_state false false true false false false false s
    else if kind == 4 then is_closed s
    else if kind == 5 then is_full s
    else if kind == 6 then is_read_only s
    else is_offline s

abbrev pub bytes_of_all : List Descriptor → List ℕ
bytes_of_all ds = flat_map descriptor_bytes ds

-- the descriptors that fit whole after the 64 bytes of the report's head
abbrev pub fitting : ℕ → List Descriptor → List Descriptor
fitting len ds = take ((len - 64) / 64) ds

-- the first `len` bytes of a text and the zeros after it
abbrev pub first_bytes : ℕ → List ℕ → List ℕ
first_bytes len bytes = take len (bytes ++ replicate len 0)

-- A report of `len` bytes over these zones: the number of those that match, or with Partial Report of those that are given, and their
-- descriptors. (Zoned Namespace Command Set Specification 1.1, 3.4.2.2.)
abbrev pub report : ℕ → ℕ → Bool → List Descriptor → List ℕ
report len kind partial ds = first_bytes len (little_bytes 8 number ++ replicate 56 0 ++ bytes_of_all (fitting len matching))
  where
    matching : List Descriptor
    matching = filter (λ d. passes kind d.state) ds

    number : ℕ
    number = if partial then length (fitting len matching) else length matching

-- more zones than a log page lists
abbrev pub is_overflow : List ℕ → Bool
is_overflow changed = nat_lt 511 (length changed)

-- The 4,096 bytes of the Changed Zone List: the number of changed zones and their first blocks, or only that there are
-- too many. (Zoned Namespace Command Set Specification 1.1, 4.1.4.)
abbrev pub changed_page : GeometryFields → List ℕ → List ℕ
changed_page g changed =
    if is_overflow changed then little_bytes 2 0xffff ++ replicate 4094 0
    else little_bytes 2 (length changed) ++ replicate 6 0 ++ flat_map (λ z. little_bytes 8 (first g z)) changed ++ replicate (4088 - 8 * length changed) 0
