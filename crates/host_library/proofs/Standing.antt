-- The shadows of a host after it sent a command.
use Rattle.std.proofs.Common.{◌≡◌, ℕ, List, [], ◌∷◌, ◌++◌, length, take, Option, Some, None, refl, sym, subst, inl, inr}
use Rattle.std.specs.Prelude.{◌⊎◌}
use Rattle.std.proofs.lemmas.Bool.{cases_Bool}
use Rattle.zns_types.specs.declared.fields.GeometryFields.{GeometryFields}
use Rattle.zns_types.specs.Geometry.{IsGeometry}
use Rattle.zns_types.specs.Statuses.{is_success}
use Rattle.sqe_codec.specs.Commands.{cid_of}
use Rattle.zone_model.specs.declared.act.Act.{Act}
use Rattle.zone_model.specs.Places.{command_of}
use Rattle.zone_model.specs.Answers.{status, answered}
use Rattle.zone_model.specs.Replies.{reply_bytes}
use Rattle.host_library.specs.declared.shadow.Shadow.{Shadow}
use Rattle.host_library.specs.Links.{IsAnswered, Gains, MayGain}
use Rattle.host_library.specs.Shadows.{unknown}
use Rattle.host_library.specs.Asking.{IsAsked, zone_about, shadow_done}
use Rattle.host_library.specs.Hosts.{AreTrue}
use Rattle.host_library.specs.Pumping.{verdict_of, verdict_told, with_changed, shadows_after}
use Rattle.host_library.proofs.Asked.{asked-event}
use Rattle.host_library.proofs.ShadowLists.{AreDrives, forgotten-same, forgotten-served, refused-stays, done-follows}
use Rattle.host_library.proofs.ToldAnswers.{verdict-told, done-true}

-- at most one history is told
told_once : (now : Option (List Act)) (acts others : List Act) → now ≡ Some acts → now ≡ Some others → acts ≡ others
told_once now acts others e f = cc

none_told : (now : Option (List Act)) (acts : List Act) → now ≡ None → now ≡ Some acts → ⊥
none_told now acts e f = cc

-- ---- an answer

-- the shadows, from what the definitions say of the act
told-follows : (g : GeometryFields) (acts : List Act) (a : Act) (bytes : List ℕ) (len : ℕ) (out : List ℕ) (shadows : List Shadow) → IsGeometry g → IsAsked g a → length shadows ≡ g.zones → AreDrives g acts shadows
    → IsAnswered g acts a bytes len out → AreDrives g (acts ++ a ∷ []) (shadows_after g (command_of a) (verdict_told g (answered g acts) a) out shadows)
told-follows g acts a bytes len out shadows is asked long was answer = elim (cases_Bool (is_success (status g (answered g acts) a))) [
  | inl ok ↦ rw ok (done-follows g acts a (shadow_done g (command_of a) out) shadows is asked.kind ok long was
      (λ here one. done-true g acts a out _ is asked.kind ok (subst (λ (n : ℕ). take n out ≡ reply_bytes g (answered g acts) a) answer.len answer.read) here one))
  | inr refused ↦ rw refused (refused-stays g acts a shadows is refused was)
]

-- An answered command leaves shadows that are the drive's.
pub answered-true : (g : GeometryFields) (before now : Option (List Act)) (a : Act) (bytes : List ℕ) (len : ℕ) (out : List ℕ) (shadows : List Shadow) → IsGeometry g → IsAsked g a → length shadows ≡ g.zones → AreTrue g before shadows
    → Gains before now a → ((acts : List Act) → before ≡ Some acts → IsAnswered g acts a bytes len out)
    → AreTrue g now (shadows_after g (command_of a) (verdict_of (cid_of a.sqe.bytes) bytes len) out shadows)
answered-true g None now a bytes len out shadows is asked long was gains answers acts e = absurd (none_told now acts (gains.untold refl) e)
answered-true g (Some acts) now a bytes len out shadows is asked long was gains answers others e =
    let same : others ≡ acts ++ a ∷ [] = told_once now others (acts ++ a ∷ []) e (gains.told acts refl) in
    let answer = answers acts refl in
    let verdict = verdict-told g (answered g acts) a bytes len (asked-event g (command_of a) asked.kind) answer.entry answer.len in
    let follows : AreDrives g (acts ++ a ∷ []) (shadows_after g (command_of a) (verdict_of (cid_of a.sqe.bytes) bytes len) out shadows) = rw verdict (told-follows g acts a bytes len out shadows is asked long (was acts refl) answer) in
    subst (λ (xs : List Act). AreDrives g xs (shadows_after g (command_of a) (verdict_of (cid_of a.sqe.bytes) bytes len) out shadows)) (sym same) follows

-- ---- a fault

either : (g : GeometryFields) (acts others : List Act) (a : Act) (now : Option (List Act)) (shadows : List Shadow) → IsGeometry g → IsAsked g a → length shadows ≡ g.zones → AreDrives g acts shadows → now ≡ Some others
    → (now ≡ Some acts) ⊎ (now ≡ Some (acts ++ a ∷ [])) → AreDrives g others (with_changed (zone_about g (command_of a)) (λ s. unknown) shadows)
either g acts others a now shadows is asked long was e (inl same) =
    subst (λ (xs : List Act). AreDrives g xs (with_changed (zone_about g (command_of a)) (λ s. unknown) shadows)) (told_once now acts others same e) (forgotten-same g acts (zone_about g (command_of a)) shadows long was)
either g acts others a now shadows is asked long was e (inr more) =
    subst (λ (xs : List Act). AreDrives g xs (with_changed (zone_about g (command_of a)) (λ s. unknown) shadows)) (told_once now (acts ++ a ∷ []) others more e) (forgotten-served g acts a shadows is asked.kind long was)

-- A send that failed leaves shadows that are the drive's.
pub failed-true : (g : GeometryFields) (before now : Option (List Act)) (a : Act) (shadows : List Shadow) → IsGeometry g → IsAsked g a → length shadows ≡ g.zones → AreTrue g before shadows → MayGain before now a
    → AreTrue g now (with_changed (zone_about g (command_of a)) (λ s. unknown) shadows)
failed-true g None now a shadows is asked long was gains acts e = absurd (none_told now acts (gains.untold refl) e)
failed-true g (Some acts) now a shadows is asked long was gains others e = either g acts others a now shadows is asked long (was acts refl) e (gains.told acts refl)
