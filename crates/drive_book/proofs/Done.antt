-- What an act that succeeds does to the notices, by its command.
use Rattle.std.proofs.Common.{◌≡◌, ℕ, ◌+◌, true, false, not, List, ◌∷◌, is_some, refl, sym, ap, ◌∙◌, arith}
use Rattle.std.specs.Prelude.{◌&&◌, ◌||◌, drop}
use Rattle.std.proofs.lemmas.List.{drop-drop}
use Rattle.zns_types.specs.declared.fields.GeometryFields.{GeometryFields}
use Rattle.zns_types.specs.Statuses.{is_success}
use Rattle.sqe_codec.specs.declared.cmd.Cmd.{Cmd}
use Rattle.sqe_codec.specs.Commands.{cid_of}
use Rattle.drive_rules.specs.Shown.{one}
use Rattle.zone_model.specs.declared.act.Act.{Act}
use Rattle.zone_model.specs.Places.{Place, command_of, is_excursion, reads_and_clears, is_event_request, changes, changed_zone, had_excursion, cleared, waited}
use Rattle.zone_model.specs.Notices.{enabled, enabled_by, masked, noticed, pending, requests, answered_requests, waiting, fires_by}
use Rattle.zone_model.specs.Answers.{status, fires, answer, and_then}

-- the act was a command, and it succeeded
pub record IsDone (g : GeometryFields) (h : List Place) (a : Act) (c : Cmd) : Type 0 where
  pub success : is_success (status g h a) ≡ true
  pub command : command_of a ≡ c

pub done-cleared : (g : GeometryFields) (h : List Place) (a : Act) (c : Cmd) → IsDone g h a c → cleared (answer g h a) ≡ reads_and_clears c
unfolding cleared answer
done-cleared g h a c d = rw (d.success, d.command) refl

pub done-excursion : (g : GeometryFields) (h : List Place) (a : Act) (c : Cmd) → IsDone g h a c → had_excursion (answer g h a) ≡ is_excursion c
unfolding had_excursion answer
done-excursion g h a c d = rw (d.success, d.command) refl

pub done-fired : (g : GeometryFields) (h : List Place) (a : Act) (c : Cmd) → IsDone g h a c → fires g h a ≡ fires_by h (cid_of a.sqe.bytes) c
unfolding fires
done-fired g h a c d = rw (d.success, d.command) refl

pub done-waited : (g : GeometryFields) (h : List Place) (a : Act) (c : Cmd) → IsDone g h a c → waited (answer g h a) ≡ (is_event_request c && not (is_some (fires g h a)))
unfolding waited answer
done-waited g h a c d = rw (d.success, d.command) refl

pub done-enabled : (g : GeometryFields) (h : List Place) (a : Act) (c : Cmd) → IsDone g h a c → enabled (and_then g h a) ≡ enabled_by true c (enabled h)
unfolding enabled answer
done-enabled g h a c d = rw (d.success, d.command) refl

pub done-changed_zone : (g : GeometryFields) (h : List Place) (a : Act) (c : Cmd) (z : ℕ) → IsDone g h a c → changed_zone g z (answer g h a) ≡ changes g z c
unfolding changed_zone answer
done-changed_zone g h a c z d = rw (d.success, d.command) refl

-- ---- what one more place makes of the marks

pub masked-kept : (p : Place) (h : List Place) → cleared p ≡ false → masked (p ∷ h) ≡ (is_some p.fired || masked h)
unfolding masked
masked-kept p h keeps = rw keeps refl

pub masked-read : (p : Place) (h : List Place) → cleared p ≡ true → masked (p ∷ h) ≡ false
unfolding masked
masked-read p h reads = rw reads refl

pub noticed-kept : (p : Place) (h : List Place) → cleared p ≡ false → noticed (p ∷ h) ≡ ((had_excursion p && enabled h) || noticed h)
noticed-kept p h keeps = rw keeps refl

pub pending-kept : (p : Place) (h : List Place) → cleared p ≡ false → pending (p ∷ h) ≡ (not (is_some p.fired || masked h) && ((had_excursion p && enabled h) || noticed h))
unfolding pending
pending-kept p h keeps = rw (masked-kept p h keeps, noticed-kept p h keeps) refl

pub pending-read : (p : Place) (h : List Place) → cleared p ≡ true → pending (p ∷ h) ≡ false
unfolding pending
pending-read p h reads = rw (masked-read p h reads, reads) refl

-- ---- and of the requests

pub requests-kept : (p : Place) (h : List Place) → waited p ≡ false → requests (p ∷ h) ≡ requests h
requests-kept p h none = rw none refl

pub answered-more : (p : Place) (h : List Place) → answered_requests (p ∷ h) ≡ one (had_excursion p && is_some p.fired) + answered_requests h
answered-more p h = refl

pub waiting-kept : (p : Place) (h : List Place) → waited p ≡ false → waiting (p ∷ h) ≡ drop (one (had_excursion p && is_some p.fired)) (waiting h)
unfolding waiting
waiting-kept p h none =
    let told = one (had_excursion p && is_some p.fired) in
    let n = answered_requests h in
    let order : told + n ≡ n + told = omega arith in
    ap (λ (xs : List ℕ). drop (told + n) xs) (requests-kept p h none) ∙ ap (λ (k : ℕ). drop k (requests h)) order ∙ sym (drop-drop told n (requests h))
