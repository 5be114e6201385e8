-- The 64 bytes of a zone descriptor: Zoned Namespace Command Set Specification 1.1, 3.4.2.2.1.
use Rattle.std.specs.Prelude.{◌≡◌, ◌≢◌, ◌<◌, ℕ, ◌*◌, ◌^◌, List, [], ◌∷◌, ◌++◌, replicate, slice_index}
use Rattle.byteorder.specs.Endian.{little_bytes}
use Rattle.zns_types.specs.Fields.{field, bits}
use Rattle.zns_types.specs.States.{number_of}
use Rattle.zns_types.specs.declared.state.State.{State}
use Rattle.zone_descriptor.specs.declared.descriptor.Descriptor.{Descriptor}
use Rattle.zone_descriptor.specs.declared.desc_err.DescErr.{DescErr}
use Rattle.zone_descriptor.specs.declared.desc_err.DescErr.TheVariants.{TypeNot2, StateUnknown}

-- the type of a zone that is written in sequence
abbrev pub sequential : ℕ
sequential = 2

-- the bytes of a descriptor
abbrev pub descriptor_bytes : Descriptor → List ℕ
descriptor_bytes d =
    (sequential ∷ 16 * number_of d.state ∷ d.attributes ∷ [])
    ++ replicate 5 0
    ++ little_bytes 8 d.capacity
    ++ little_bytes 8 d.first
    ++ little_bytes 8 d.pointer
    ++ replicate 32 0

-- the zone's type
abbrev pub type_of : List ℕ → ℕ
type_of bytes = bits 3 0 (slice_index bytes 0)

-- the number of the zone's state
abbrev pub state_number : List ℕ → ℕ
state_number bytes = bits 7 4 (slice_index bytes 1)

-- no state has the number
abbrev pub IsNoState : ℕ → Type 0
IsNoState number = (s : State) → number_of s ≢ number

-- the bytes have these fields, each at its place
pub record Describes (bytes : List ℕ) (d : Descriptor) : Type 0 where
  pub type : type_of bytes ≡ sequential
  pub state : state_number bytes ≡ number_of d.state
  pub attributes : bits 3 0 (slice_index bytes 2) ≡ d.attributes
  pub capacity : field 8 8 bytes ≡ d.capacity
  pub first : field 16 8 bytes ≡ d.first
  pub pointer : field 24 8 bytes ≡ d.pointer

-- why bytes don't describe a zone of this kind, each with its byte: the type is checked first
abbrev pub Refuses : List ℕ → DescErr → Type 0
Refuses bytes (TypeNot2 byte) = (byte ≡ slice_index bytes 0) × (type_of bytes ≢ sequential)
Refuses bytes (StateUnknown byte) = (byte ≡ slice_index bytes 1) × (type_of bytes ≡ sequential) × IsNoState (state_number bytes)

-- each number fits its field
pub record FitsDescriptor (d : Descriptor) : Type 0 where
  pub attributes : d.attributes < 2 ^ 4
  pub capacity : d.capacity < 2 ^ 64
  pub first : d.first < 2 ^ 64
  pub pointer : d.pointer < 2 ^ 64
