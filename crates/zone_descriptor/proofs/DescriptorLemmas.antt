-- The bytes of a descriptor describe it.
use Rattle.std.proofs.Common.{◌≡◌, ℕ, ◌*◌, ◌/◌, ◌%◌, ◌^◌, List, refl, sym, ◌∙◌, arith}
use Rattle.zns_types.specs.States.{number_of}
use Rattle.zns_types.specs.declared.state.State.{State}
use Rattle.zns_types.specs.declared.state.State.TheVariants.{Empty, ImplicitlyOpened, ExplicitlyOpened, Closed, ReadOnly, Full, Offline}
use Rattle.zns_types.proofs.FieldLemmas.{field-from_bytes}
use Rattle.zone_descriptor.specs.declared.descriptor.Descriptor.{Descriptor}
use Rattle.zone_descriptor.specs.Descriptors.{descriptor_bytes, Describes, FitsDescriptor}

number_of-fits : (s : State) → 16 * number_of s / 2 ^ 4 % 2 ^ 4 ≡ number_of s
number_of-fits Empty = refl
number_of-fits ImplicitlyOpened = refl
number_of-fits ExplicitlyOpened = refl
number_of-fits Closed = refl
number_of-fits ReadOnly = refl
number_of-fits Full = refl
number_of-fits Offline = refl

pub describes-descriptor_bytes : (d : Descriptor) → FitsDescriptor d → Describes (descriptor_bytes d) d
describes-descriptor_bytes d f = record {
  type = refl;
  state = number_of-fits d.state;
  attributes = omega (arith, f.attributes);
  capacity = field-from_bytes 8 8 d.capacity (descriptor_bytes d) (omega (arith, f.capacity)) refl;
  first = field-from_bytes 16 8 d.first (descriptor_bytes d) (omega (arith, f.first)) refl;
  pointer = field-from_bytes 24 8 d.pointer (descriptor_bytes d) (omega (arith, f.pointer)) refl;
}

same_fields : (s t : State) (a b c d e f g h : ℕ) → s ≡ t → a ≡ b → c ≡ d → e ≡ f → g ≡ h → ◌≡◌ {A = Descriptor} (record { state = s; attributes = a; capacity = c; first = e; pointer = g }) (record { state = t; attributes = b; capacity = d; first = f; pointer = h })
same_fields s t a b c d e f g h state attributes capacity first pointer = rw (state, attributes, capacity, first, pointer) refl

-- bytes describe one zone in each state
pub described-once : (bytes : List ℕ) (c d : Descriptor) → Describes bytes c → Describes bytes d → c.state ≡ d.state → c ≡ d
described-once bytes c d p q state =
    same_fields _ _ _ _ _ _ _ _ _ _ state (sym p.attributes ∙ q.attributes) (sym p.capacity ∙ q.capacity) (sym p.first ∙ q.first) (sym p.pointer ∙ q.pointer)
