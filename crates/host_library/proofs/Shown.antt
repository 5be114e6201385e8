-- What bytes show of a zone, from the descriptor that they spell.
use Rattle.std.proofs.Common.{◌≡◌, ℕ, ◌/◌, ◌%◌, ◌-◌, ◌≤◌, min, Bool, false, List, refl, sym, ap, ◌∙◌, arith, inl, inr}
use Rattle.std.specs.Prelude.{◌==◌, ◌&&◌, nat_le, slice_index}
use Rattle.std.proofs.lemmas.Bool.{cases_Bool, and_parts, ne_eqb, leb-true}
use Rattle.zns_types.specs.declared.state.State.{State}
use Rattle.zns_types.specs.declared.state.State.TheVariants.{Empty, ImplicitlyOpened, ExplicitlyOpened, Closed, ReadOnly, Full, Offline}
use Rattle.zns_types.specs.States.{number_of}
use Rattle.zns_types.specs.Fields.{field, bit}
use Rattle.zns_types.specs.Geometry.{first}
use Rattle.zns_types.specs.declared.fields.GeometryFields.{GeometryFields}
use Rattle.zone_descriptor.specs.declared.descriptor.Descriptor.{Descriptor}
use Rattle.zone_descriptor.specs.declared.desc_err.DescErr.{DescErr}
use Rattle.zone_descriptor.specs.declared.desc_err.DescErr.TheVariants.{TypeNot2, StateUnknown}
use Rattle.zone_descriptor.specs.Descriptors.{type_of, sequential, state_number, IsNoState, Describes, Refuses}
use Rattle.host_library.specs.declared.stage.Stage.{Stage}
use Rattle.host_library.specs.declared.stage.Stage.TheVariants as stage
use Rattle.host_library.specs.Shadows.{stage_of, stage_numbered, is_active_stage, stage_shown, shadow_at, unknown, shadow_shown}

pub numbered : (s : State) → stage_numbered (number_of s) ≡ stage_of s
numbered Empty = refl
numbered ImplicitlyOpened = refl
numbered ExplicitlyOpened = refl
numbered Closed = refl
numbered ReadOnly = refl
numbered Full = refl
numbered Offline = refl

pub described-stage : (bytes : List ℕ) (d : Descriptor) → Describes bytes d → stage_shown bytes ≡ stage_of d.state
described-stage bytes d shows = rw (shows.type, shows.state) (numbered d.state)

pub described-bit : (bytes : List ℕ) (d : Descriptor) → Describes bytes d → bit 3 (slice_index bytes 2) ≡ (d.attributes / 8 == 1)
described-bit bytes d shows =
    let a : d.attributes ≡ slice_index bytes 2 % 16 = sym shows.attributes ∙ omega arith in
    let same : slice_index bytes 2 / 8 % 2 ≡ d.attributes / 8 = omega arith in
    ap (λ (n : ℕ). n == 1) same

-- ---- numbers of no state

none_is : (n k : ℕ) (s : State) → number_of s ≡ k → IsNoState n → (n == k) ≡ false
none_is n k s e none = ne_eqb n k (λ is. none s (e ∙ sym is))

none_between : (n : ℕ) → IsNoState n → (nat_le 2 n && nat_le n 4) ≡ false
none_between n none = elim (cases_Bool (nat_le 2 n && nat_le n 4)) [
  | inl e ↦
      let parts = and_parts (nat_le 2 n) (nat_le n 4) e in
      let low : 2 ≤ n = leb-true 2 n parts.0 in
      let high : n ≤ 4 = leb-true n 4 parts.1 in
      let two : n ≡ 2 → ⊥ = λ is. none ImplicitlyOpened (sym is) in
      let three : n ≡ 3 → ⊥ = λ is. none ExplicitlyOpened (sym is) in
      let four : n ≡ 4 → ⊥ = λ is. none Closed (sym is) in
      absurd (omega arith)
  | inr e ↦ e
]

unnumbered : (n : ℕ) → IsNoState n → stage_numbered n ≡ stage.Unknown
unnumbered n none = rw (none_is n 0x1 Empty refl none, none_between n none, none_is n 0xd ReadOnly refl none, none_is n 0xe Full refl none, none_is n 0xf Offline refl none) refl

pub refused-stage : (bytes : List ℕ) (e : DescErr) → Refuses bytes e → stage_shown bytes ≡ stage.Unknown
refused-stage bytes (TypeNot2 byte) refuses = rw (ne_eqb (type_of bytes) sequential refuses.1) refl
refused-stage bytes (StateUnknown byte) refuses = rw (refuses.1) (unnumbered (state_number bytes) refuses.2)

-- ---- the shadow that is read

pub shown_by : (g : GeometryFields) (z : ℕ) (bytes : List ℕ) (d : Descriptor) (s : Stage) (window : Bool) (offset : ℕ) → Describes bytes d → s ≡ stage_of d.state → window ≡ (is_active_stage s && (d.attributes / 8 == 1))
    → offset ≡ min (d.pointer - first g z) g.capacity → shadow_at s window offset ≡ shadow_shown g z bytes
shown_by g z bytes d s window offset shows e f k =
    let stage : stage_shown bytes ≡ s = described-stage bytes d shows ∙ sym e in
    let opened : window ≡ (is_active_stage s && bit 3 (slice_index bytes 2)) = f ∙ ap (λ (b : Bool). is_active_stage s && b) (sym (described-bit bytes d shows)) in
    let place : offset ≡ min (field 24 8 bytes - first g z) g.capacity = k ∙ ap (λ (n : ℕ). min (n - first g z) g.capacity) (sym shows.pointer) in
    rw (stage, opened, place) refl

pub unknown_by : (g : GeometryFields) (z : ℕ) (bytes : List ℕ) (e : DescErr) → Refuses bytes e → unknown ≡ shadow_shown g z bytes
unknown_by g z bytes e refuses = rw (refused-stage bytes e refuses) refl
