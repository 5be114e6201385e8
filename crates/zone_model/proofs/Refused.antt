-- A zone to which nothing is done stays as it was, and so does the whole drive after a refused act.
use Rattle.std.proofs.Common.{◌≡◌, ℕ, Bool, false, List, ◌∷◌, None, refl, ap, ◌∙◌, arith}
use Rattle.std.specs.Prelude.{◌&&◌, not, drop}
use Rattle.std.specs.List.{list_any}
use mathlib.Core.Path.{fun_ext}
use Rattle.std.proofs.lemmas.List.Elements.{filter_agree}
use Rattle.zns_types.specs.declared.fields.GeometryFields.{GeometryFields}
use Rattle.zns_types.specs.Statuses.{is_success}
use Rattle.zone_limits.specs.declared.limits.Limits.{Limits}
use Rattle.drive_rules.specs.Deeds.{use_of}
use Rattle.zone_history.specs.Histories.{Done, state_of, window_of, pointer_of, block_of, attributes_of, sight_of}
use Rattle.sqe_codec.specs.declared.cmd.Cmd.{Cmd}
use Rattle.sqe_codec.specs.declared.cmd.Cmd.TheVariants as cmd
use Rattle.zone_model.specs.declared.act.Act.{Act}
use Rattle.zone_model.specs.Places.{Place, took, command_of, deeds, changed_zone, had_excursion, cleared, waited, since_cleared}
use Rattle.zone_model.specs.Zones.{zones, counted, counts}
use Rattle.zone_model.specs.Notices.{changed, enabled, enabled_by, masked, noticed, pending, requests, answered_requests, waiting}
use Rattle.zone_model.specs.Answers.{status, fires, zone_deed, answer, and_then}
use Rattle.zone_model.specs.Laws.{IsUnchanged, IsAsBefore}
use Rattle.zone_model.proofs.Deeds.{deeds-idle, deed-refused}

-- ---- zones

-- a zone with the same deeds is the same
pub unchanged : (g : GeometryFields) (old new : List Place) (z : ℕ) → deeds new z ≡ deeds old z → IsUnchanged g old new z
unchanged g old new z same = record {
  state = ap (state_of g) same;
  window = ap (window_of g) same;
  pointer = ap (pointer_of g) same;
  blocks = λ b. ap (λ (ds : List Done). block_of g ds b) same;
  attributes = ap (attributes_of g) same;
}

pub idle-unchanged : (g : GeometryFields) (h : List Place) (a : Act) (z : ℕ) → zone_deed g h a z ≡ None → IsUnchanged g h (and_then g h a) z
idle-unchanged g h a z none = unchanged g h (and_then g h a) z (deeds-idle g h a z none)

-- zones with the same deeds use the same resources
pub counts-same : (g : GeometryFields) (old new : List Place) → ((z : ℕ) → deeds new z ≡ deeds old z) → counts g new ≡ counts g old
counts-same g old new same = ap (λ (of : ℕ → List Done). counted g (λ z. use_of (sight_of g (of z)))) (fun_ext same)

-- ---- notices

-- the act failed and answered no event request
pub record IsIdle (p : Place) : Type 0 where
  pub refused : took p ≡ false
  pub fired : p.fired ≡ None

idle_after : (g : GeometryFields) (h : List Place) (a : Act) → is_success (status g h a) ≡ false → IsIdle (answer g h a)
unfolding answer fires
idle_after g h a refused = record { refused = refused; fired = rw refused refl }

idle-cleared : (p : Place) → IsIdle p → cleared p ≡ false
unfolding cleared
idle-cleared p i = rw i.refused refl

idle-excursion : (p : Place) → IsIdle p → had_excursion p ≡ false
unfolding had_excursion
idle-excursion p i = rw i.refused refl

idle-waited : (p : Place) → IsIdle p → waited p ≡ false
unfolding waited
idle-waited p i = rw i.refused refl

idle-changed_zone : (g : GeometryFields) (p : Place) (z : ℕ) → IsIdle p → changed_zone g z p ≡ false
unfolding changed_zone
idle-changed_zone g p z i = rw i.refused refl

changed-kept : (g : GeometryFields) (p : Place) (h : List Place) → IsIdle p → changed g (p ∷ h) ≡ changed g h
unfolding changed
changed-kept g p h i =
    filter_agree (λ z. list_any (changed_zone g z) (since_cleared (p ∷ h))) (λ z. list_any (changed_zone g z) (since_cleared h)) (λ z. rw (idle-cleared p i, idle-changed_zone g p z i) refl) (zones g)

enabled_by-refused : (c : Cmd) (before : Bool) → enabled_by false c before ≡ before
enabled_by-refused (cmd.SetFeature feature value) before = refl
enabled_by-refused _ before = refl

enabled-kept : (p : Place) (h : List Place) → IsIdle p → enabled (p ∷ h) ≡ enabled h
unfolding enabled
enabled-kept p h i = rw i.refused (enabled_by-refused (command_of p.act) (enabled h))

masked-kept : (p : Place) (h : List Place) → IsIdle p → masked (p ∷ h) ≡ masked h
unfolding masked
masked-kept p h i = rw (idle-cleared p i, i.fired) refl

noticed-kept : (p : Place) (h : List Place) → IsIdle p → noticed (p ∷ h) ≡ noticed h
noticed-kept p h i = rw (idle-cleared p i, idle-excursion p i) refl

pending-kept : (p : Place) (h : List Place) → IsIdle p → pending (p ∷ h) ≡ pending h
unfolding pending
pending-kept p h i = ap (λ (b : Bool). not b && noticed (p ∷ h)) (masked-kept p h i) ∙ ap (λ (b : Bool). not (masked h) && b) (noticed-kept p h i)

waiting-kept : (p : Place) (h : List Place) → IsIdle p → waiting (p ∷ h) ≡ waiting h
unfolding waiting
waiting-kept p h i =
    let none : answered_requests (p ∷ h) ≡ answered_requests h = rw (idle-excursion p i) (omega arith) in
    let same : requests (p ∷ h) ≡ requests h = rw (idle-waited p i) refl in
    ap (λ (n : ℕ). drop n (requests (p ∷ h))) none ∙ ap (λ (xs : List ℕ). drop (answered_requests h) xs) same

-- ---- the drive

pub refused_as_before : (g : GeometryFields) (h : List Place) (a : Act) → is_success (status g h a) ≡ false → IsAsBefore g h (and_then g h a)
refused_as_before g h a refused =
    let i = idle_after g h a refused in
    let same = counts-same g h (and_then g h a) (λ z. deeds-idle g h a z (deed-refused g h a z refused)) in
    record {
      zones = λ z. idle-unchanged g h a z (deed-refused g h a z refused);
      active = ap (λ (n : Limits). n.active) same;
      opened = ap (λ (n : Limits). n.opened) same;
      windows = ap (λ (n : Limits). n.windows) same;
      changed = changed-kept g (answer g h a) h i;
      enabled = enabled-kept (answer g h a) h i;
      masked = masked-kept (answer g h a) h i;
      pending = pending-kept (answer g h a) h i;
      waiting = waiting-kept (answer g h a) h i;
    }
