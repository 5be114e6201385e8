-- What the summary of a history counts, with one more act.
use Rattle.std.proofs.Common.{◌≡◌, ℕ, suc, get_or, ◌+◌, ◌*◌, ◌^◌, ◌<◌, ◌≤◌, Bool, true, false, map, List, [], ◌∷◌, ◌++◌, length, reverse, refl, sym, ap, ◌∙◌, inl, inr, subst, zero-add, arith}
use Rattle.std.specs.Prelude.{not, ◌&&◌, ◌==◌, cond, sum, count_by}
use Rattle.std.specs.List.{range_with_len}
use Rattle.std.specs.Int.{from_bool}
use Rattle.std.proofs.Math.Nat.{le-mul_of_pos_right, mul-le-mul_right, add-mul}
use Rattle.std.proofs.lemmas.Nat.{pow_pos}
use Rattle.std.proofs.lemmas.Bool.{cases_Bool, and_parts}
use Rattle.std.proofs.lemmas.List.{length-reverse}
use Rattle.std.proofs.lemmas.List.FromFn.{sum_by-map-range_with_len_more}
use Rattle.cqe_codec.specs.declared.cqe.Cqe.{Cqe}
use Rattle.zns_types.specs.declared.fields.GeometryFields.{GeometryFields}
use Rattle.zns_types.specs.Statuses.{Status, is_success}
use Rattle.zns_types.specs.Geometry.{IsGeometry}
use Rattle.drive_rules.specs.Shown.{one}
use Rattle.zone_history.proofs.Standing.{stands}
use Rattle.zone_model.specs.declared.act.Act.{Act}
use Rattle.zone_model.specs.Places.{Place, took, deeds}
use Rattle.zone_model.specs.Zones.{pointer, active, opened, windows}
use Rattle.zone_model.specs.Sessions.{Recorded}
use Rattle.solo_drive.specs.Drives.{Drive, history}
use Rattle.zns_program.specs.Summaries.{pointers, totals}
use Rattle.zone_model.specs.Answers.{status, answer, answered_back, answered}
use Rattle.zone_model.specs.Entries.{waits, posted}
use Rattle.zone_model.proofs.Histories.{answered-push}
use Rattle.zone_model.proofs.Deeds.{all_admitted}
use Rattle.zone_model.proofs.Merging.{count-cons}

-- ---- what an act's entries tell

-- an act that posts no entry succeeded
pub none_posted : (g : GeometryFields) (h : List Place) (a : Act) → length (posted g h a) ≡ 0 → is_success (status g h a) ≡ true
unfolding posted
none_posted g h a none = elim (cases_Bool (waits g h a)) [
  | inl waiting ↦ (and_parts _ _ (and_parts _ _ waiting).0).0
  | inr other ↦ absurd (omega (arith, rw other at none))
]

-- the first entry that an act posts has the act's status
pub first_posted : (g : GeometryFields) (h : List Place) (a : Act) (entry : Cqe) → 0 < length (posted g h a) → entry ≡ get_or (posted g h a) 0 entry → entry.code ≡ status g h a
unfolding posted
first_posted g h a entry some is = elim (cases_Bool (waits g h a)) [
  | inl waiting ↦ absurd (omega (arith, rw waiting at some))
  | inr other ↦ ap (λ (c : Cqe). c.code) (rw other at is)
]

-- a status is success exactly if both of its parts are 0
pub both-is_success : (s : Status) → ((s.sct == 0) && (s.sc == 0)) ≡ is_success s
both-is_success s = by_first (s.sct == 0) (s.sc == 0)
  where
    by_first : (type code : Bool) → (type && code) ≡ cond type code false
    by_first true code = refl
    by_first false code = refl

-- ---- counts

length-answered_back : (g : GeometryFields) (acts : List Act) → length (answered_back g acts) ≡ length acts
unfolding answered_back
length-answered_back g [] = refl
length-answered_back g (a ∷ acts) = ap suc (length-answered_back g acts)

-- a history has one place for each act
pub length-answered : (g : GeometryFields) (acts : List Act) → length (answered g acts) ≡ length acts
unfolding answered
length-answered g acts = length-answered_back g (reverse acts) ∙ length-reverse acts

took-answer : (g : GeometryFields) (h : List Place) (a : Act) → took (answer g h a) ≡ is_success (status g h a)
unfolding answer
took-answer g h a = refl

from_bool-one : (b : Bool) → from_bool b ≡ one b
from_bool-one true = refl
from_bool-one false = refl

-- an act either succeeds or is refused
pub one_of_both : (b : Bool) → from_bool b + from_bool (not b) ≡ 1
one_of_both true = refl
one_of_both false = refl

pub success-push : (g : GeometryFields) (acts : List Act) (a : Act) → count_by took (answered g (acts ++ a ∷ [])) ≡ count_by took (answered g acts) + from_bool (is_success (status g (answered g acts) a))
success-push g acts a =
    let h = answered g acts in
    ap (count_by took) (answered-push g acts a) ∙ count-cons took (answer g h a) h ∙ rw (took-answer g h a) (omega (arith, from_bool-one (is_success (status g h a))))

pub refused-push : (g : GeometryFields) (acts : List Act) (a : Act) → count_by (λ p. not (took p)) (answered g (acts ++ a ∷ [])) ≡ count_by (λ p. not (took p)) (answered g acts) + from_bool (not (is_success (status g (answered g acts) a)))
refused-push g acts a =
    let h = answered g acts in
    ap (count_by (λ (p : Place). not (took p))) (answered-push g acts a) ∙ count-cons (λ (p : Place). not (took p)) (answer g h a) h ∙ rw (took-answer g h a) (omega (arith, from_bool-one (not (is_success (status g h a)))))

-- ---- pointers

-- ---- pointers

-- no pointer is past the end of its zone
pointer-le : (g : GeometryFields) → IsGeometry g → (acts : List Act) (z : ℕ) → pointer g (answered g acts) z ≤ g.zone_size
pointer-le g is acts z = omega (arith, (stands g is (deeds (answered g acts) z) (all_admitted g acts z)).within, is.zones.capacity)

few_blocks : (g : GeometryFields) → IsGeometry g → g.zones * g.zone_size ≤ 2 ^ 28
few_blocks g is = omega (arith, is.zones.namespace, le-mul_of_pos_right (g.zones * g.zone_size) (pow_pos g.block_exp))

-- the sum of the pointers is at most the number of blocks in the zones
sum-le : (g : GeometryFields) → IsGeometry g → (zone sum pointer : ℕ) → zone < g.zones → sum ≤ zone * g.zone_size → pointer ≤ g.zone_size → (sum + pointer ≤ (zone + 1) * g.zone_size) × (sum + pointer ≤ 2 ^ 28)
sum-le g is zone sum pointer lt all one =
    let more : (zone + 1) * g.zone_size ≤ g.zones * g.zone_size = mul-le-mul_right g.zone_size (omega arith) in
    (omega (arith, add-mul zone 1 g.zone_size), omega (arith, add-mul zone 1 g.zone_size, more, few_blocks g is))

-- the same with one more zone of the drive
pub zone-more : (g fields : GeometryFields) (acts : List Act) (zone sum last : ℕ) → fields ≡ g → IsGeometry fields → zone < fields.zones → sum ≤ zone * g.zone_size → last ≡ pointer g (answered g acts) zone
    → (sum + last ≤ (zone + 1) * g.zone_size) × (sum + last ≤ 2 ^ 28)
zone-more g fields acts zone sum last same is lt all e =
    let valid : IsGeometry g = subst IsGeometry same is in
    let below : zone < g.zones = subst (λ (f : GeometryFields). zone < f.zones) same lt in
    let one : last ≤ g.zone_size = rw e (pointer-le g valid acts zone) in
    sum-le g valid zone sum last below all one

-- the sum of the pointers with one more zone
pub pointers-more : (f : ℕ → ℕ) (n : ℕ) → sum (map f (range_with_len 0 (n + 1))) ≡ sum (map f (range_with_len 0 n)) + f n
pointers-more f n = sum_by-map-range_with_len_more (λ x. x) f 0 n n (zero-add n)

-- ---- all of them

-- the totals of a drive that served a session are those of the session's history
pub same_totals : (s : Recorded) (d : Drive) (commands success refused pointers_of : ℕ) → d.geometry ≡ s.geometry → d.acts ≡ s.acts → commands ≡ length s.acts
    → success ≡ count_by took (history d) → refused ≡ count_by (λ p. not (took p)) (history d) → pointers_of ≡ pointers d.geometry (history d)
    → record { commands = commands; success = success; refused = refused; active = active d.geometry (history d); opened = opened d.geometry (history d); windows = windows d.geometry (history d); pointers = pointers_of } ≡ totals s.geometry (answered s.geometry s.acts)
same_totals s d commands success refused pointers_of geometry acts c r f p =
    rw (c ∙ sym (length-answered s.geometry s.acts), r, f, p, geometry, acts) refl
