-- A report of one zone shows the shadow of the drive's zone.
use Rattle.std.proofs.Common.{◌≡◌, ℕ, zero, ◌+◌, ◌*◌, ◌-◌, ◌^◌, ◌<◌, ◌≤◌, min, Bool, true, false, cond, List, ◌∷◌, length, take, drop, refl, sym, ap, ◌∙◌, arith}
use Rattle.std.specs.Prelude.{◌&&◌, slice_index, slice_range}
use Rattle.std.proofs.lemmas.List.{drop_more, drop-take}
use Rattle.std.proofs.lemmas.List.FromFn.{length-map-range_with_len, get_or-map-range_with_len}
use Rattle.std.proofs.Math.Nat.{add-mul, mul-le-mul_right, le-mul_of_pos_right}
use Rattle.std.proofs.lemmas.Nat.{pow_pos}
use Rattle.zns_types.specs.declared.fields.GeometryFields.{GeometryFields}
use Rattle.zns_types.specs.declared.state.State.{State}
use Rattle.zns_types.specs.declared.state.State.TheVariants.{Empty, ImplicitlyOpened, ExplicitlyOpened, Closed}
use Rattle.zns_types.specs.States.{is_active}
use Rattle.zns_types.specs.Fields.{field, bit}
use Rattle.zns_types.specs.Geometry.{IsGeometry, first}
use Rattle.zone_descriptor.specs.declared.descriptor.Descriptor.{Descriptor}
use Rattle.zone_descriptor.specs.Descriptors.{descriptor_bytes, FitsDescriptor}
use Rattle.zone_descriptor.proofs.DescriptorLemmas.{describes-descriptor_bytes}
use Rattle.drive_rules.specs.Shown.{shown_pointer, attribute_bits}
use Rattle.drive_rules.specs.Reports.{report}
use Rattle.zone_history.specs.Histories.{attributes_of}
use Rattle.zone_history.proofs.Standing.{stands}
use Rattle.zone_history.proofs.Ways.{window_active}
use Rattle.zone_model.specs.declared.act.Act.{Act}
use Rattle.zone_model.specs.Places.{Place, deeds}
use Rattle.zone_model.specs.Zones.{state, window, pointer, attributes, descriptor}
use Rattle.zone_model.specs.Replies.{descriptors}
use Rattle.zone_model.specs.Answers.{answered}
use Rattle.zone_model.proofs.Deeds.{all_admitted}
use Rattle.host_library.specs.Shadows.{stage_of, stage_shown, is_active_stage, has_pointer, shadow_shown, drive_shadow}
use Rattle.host_library.proofs.Shown.{described-stage}

-- ---- the bytes

-- the descriptor comes after the head
one_zone : (d : Descriptor) (ds : List Descriptor) → take 64 (drop 64 (report 128 0 true (d ∷ ds))) ≡ descriptor_bytes d
one_zone d ds = refl

zone-drop : (g : GeometryFields) (h : List Place) (z : ℕ) → z < g.zones → drop z (descriptors g h) ≡ descriptor g h z ∷ drop (z + 1) (descriptors g h)
zone-drop g h z lt =
    let long : z < length (descriptors g h) = rw (length-map-range_with_len (descriptor g h) 0 g.zones) lt in
    drop_more (descriptors g h) z (descriptor g h z) long
    ∙ ap (λ (d : Descriptor). d ∷ drop (z + 1) (descriptors g h)) (get_or-map-range_with_len (descriptor g h) 0 g.zones z z (descriptor g h z) lt (omega arith))

-- The bytes of a report of one zone that follow its head are those of the zone's descriptor.
pub reported : (g : GeometryFields) (h : List Place) (z : ℕ) (out : List ℕ) → z < g.zones → take 128 out ≡ report 128 0 true (drop z (descriptors g h)) → slice_range out 64 128 ≡ descriptor_bytes (descriptor g h z)
reported g h z out lt e =
    sym (drop-take 64 64 out)
    ∙ ap (λ (bytes : List ℕ). drop 64 bytes) e
    ∙ ap (λ (ds : List Descriptor). drop 64 (report 128 0 true ds)) (zone-drop g h z lt)

-- ---- what they show

window_bit : (finished finish reset window : Bool) → bit 3 (attribute_bits finished finish reset window) ≡ window
window_bit true true true true = refl
window_bit true true true false = refl
window_bit true true false true = refl
window_bit true true false false = refl
window_bit true false true true = refl
window_bit true false true false = refl
window_bit true false false true = refl
window_bit true false false false = refl
window_bit false true true true = refl
window_bit false true true false = refl
window_bit false true false true = refl
window_bit false true false false = refl
window_bit false false true true = refl
window_bit false false true false = refl
window_bit false false false true = refl
window_bit false false false false = refl

few_bits : (finished finish reset window : Bool) → attribute_bits finished finish reset window < 2 ^ 4
few_bits true true true true = omega arith
few_bits true true true false = omega arith
few_bits true true false true = omega arith
few_bits true true false false = omega arith
few_bits true false true true = omega arith
few_bits true false true false = omega arith
few_bits true false false true = omega arith
few_bits true false false false = omega arith
few_bits false true true true = omega arith
few_bits false true true false = omega arith
few_bits false true false true = omega arith
few_bits false true false false = omega arith
few_bits false false true true = omega arith
few_bits false false true false = omega arith
few_bits false false false true = omega arith
few_bits false false false false = omega arith

-- only an active zone has a random write area
window_shown : (s : State) (w : Bool) → (w ≡ true → is_active s ≡ true) → (is_active_stage (stage_of s) && w) ≡ w
window_shown ImplicitlyOpened w on = refl
window_shown ExplicitlyOpened w on = refl
window_shown Closed w on = refl
window_shown _ true on = absurd (cc (on refl))
window_shown _ false on = refl

place_back : (first p cap : ℕ) → p ≤ cap → min (first + p - first) cap ≡ p
place_back first p cap le = omega arith

pointer_back : (s : State) (first p cap : ℕ) → p ≤ cap → cond (has_pointer (stage_of s)) (min (shown_pointer s first p - first) cap) zero ≡ cond (has_pointer (stage_of s)) p zero
pointer_back Empty first p cap le = place_back first p cap le
pointer_back ImplicitlyOpened first p cap le = place_back first p cap le
pointer_back ExplicitlyOpened first p cap le = place_back first p cap le
pointer_back Closed first p cap le = place_back first p cap le
pointer_back _ first p cap le = refl

-- ---- a drive's descriptors

record IsSmall (g : GeometryFields) (z p : ℕ) : Type 0 where
  end : g.capacity < 2 ^ 64
  start : first g z < 2 ^ 64
  place : (s : State) → shown_pointer s (first g z) p < 2 ^ 64

shown_small : (s : State) (first p : ℕ) → first + p < 2 ^ 64 → shown_pointer s first p < 2 ^ 64
shown_small Empty first p lt = lt
shown_small ImplicitlyOpened first p lt = lt
shown_small ExplicitlyOpened first p lt = lt
shown_small Closed first p lt = lt
shown_small _ first p lt = omega arith

small : (g : GeometryFields) (z p : ℕ) → IsGeometry g → z < g.zones → p ≤ g.capacity → IsSmall g z p
small g z p is lt le =
    let all : g.zones * g.zone_size ≤ 2 ^ 28 = omega (arith, is.zones.namespace, le-mul_of_pos_right (g.zones * g.zone_size) (pow_pos g.block_exp)) in
    let more : (z + 1) * g.zone_size ≤ g.zones * g.zone_size = mul-le-mul_right g.zone_size (omega arith) in
    let end : z * g.zone_size + g.zone_size ≤ 2 ^ 28 = omega (arith, add-mul z 1 g.zone_size) in
    let fits : g.capacity ≤ g.zone_size = is.zones.capacity in
    record { end = omega arith; start = omega arith; place = λ s. shown_small s (first g z) p (omega arith) }

fits-descriptor : (g : GeometryFields) (acts : List Act) (z : ℕ) → IsGeometry g → z < g.zones → FitsDescriptor (descriptor g (answered g acts) z)
unfolding attributes_of
fits-descriptor g acts z is lt =
    let within = (stands g is (deeds (answered g acts) z) (all_admitted g acts z)).within in
    let s = small g z (pointer g (answered g acts) z) is lt within in
    record { attributes = few_bits _ _ _ _; capacity = s.end; first = s.start; pointer = s.place (state g (answered g acts) z) }

attributes-window : (g : GeometryFields) (h : List Place) (z : ℕ) → bit 3 (attributes g h z) ≡ window g h z
unfolding attributes_of
attributes-window g h z = window_bit _ _ _ _

-- What a zone's descriptor shows is the zone's shadow.
pub descriptor-shown : (g : GeometryFields) (acts : List Act) (z : ℕ) → IsGeometry g → z < g.zones → shadow_shown g z (descriptor_bytes (descriptor g (answered g acts) z)) ≡ drive_shadow g (answered g acts) z
descriptor-shown g acts z is lt =
    let h = answered g acts in
    let d = descriptor g h z in
    let bytes = descriptor_bytes d in
    let shows = describes-descriptor_bytes d (fits-descriptor g acts z is lt) in
    let stage : stage_shown bytes ≡ stage_of (state g h z) = described-stage bytes d shows in
    let opened : (is_active_stage (stage_of (state g h z)) && bit 3 (slice_index bytes 2)) ≡ window g h z = rw (attributes-window g h z) (window_shown (state g h z) (window g h z) (window_active g (deeds h z))) in
    let within = (stands g is (deeds h z) (all_admitted g acts z)).within in
    let place : cond (has_pointer (stage_of (state g h z))) (min (field 24 8 bytes - first g z) g.capacity) zero ≡ cond (has_pointer (stage_of (state g h z))) (pointer g h z) zero =
    rw (shows.pointer) (pointer_back (state g h z) (first g z) (pointer g h z) g.capacity within) in
    rw (stage, opened, place) refl
