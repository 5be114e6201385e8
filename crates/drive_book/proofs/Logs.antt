-- The log of changed zones of a history with one more act.
use Rattle.std.proofs.Common.{◌≡◌, ℕ, ◌<◌, Bool, true, false, cond, eqb, List, [], ◌∷◌, refl, ◌∙◌, inl, inr, arith}
use Rattle.std.specs.Prelude.{◌||◌}
use Rattle.std.specs.List.{All, list_any}
use Rattle.std.proofs.lemmas.List.Elements.{All-filter, All-from_get_or, filter_agree}
use Rattle.std.proofs.lemmas.List.FromFn.{length-range_with_len, get_or-range_with_len}
use Rattle.std.proofs.lemmas.Bool.{cases_Bool}
use Rattle.std.proofs.lemmas.Nat.{div_below}
use Rattle.std.proofs.lemmas.Bool.Decides.{nat_tests}
use Rattle.zns_types.specs.declared.fields.GeometryFields.{GeometryFields}
use Rattle.zns_types.specs.Geometry.{IsGeometry, zone_of}
use Rattle.zns_types.specs.Statuses.{is_success}
use Rattle.sqe_codec.specs.declared.cmd.Cmd.{Cmd}
use Rattle.sqe_codec.specs.declared.cmd.Cmd.TheVariants as cmd
use Rattle.drive_rules.specs.declared.deed.Deed.TheVariants as deed
use Rattle.drive_rules.specs.declared.aim.Aim.{Aim}
use Rattle.zone_model.specs.declared.act.Act.{Act}
use Rattle.zone_model.specs.Places.{Place, command_of, reads_and_clears, is_excursion, changes, changed_zone, cleared, since_cleared}
use Rattle.zone_model.specs.Zones.{zones}
use Rattle.zone_model.specs.Notices.{changed}
use Rattle.zone_model.specs.Answers.{status, answer, and_then}
use Rattle.zone_model.proofs.Refused.{refused_as_before}
use Rattle.zone_model.proofs.Passing.{aim-passes}
use Rattle.zone_model.proofs.Fronts.{excursion_front-within}
use Rattle.changed_log.specs.Logs.{with_zone}
use Rattle.changed_log.proofs.Ranges.{filter-with_zone, filter-none}
use Rattle.drive_book.proofs.Done.{IsDone, done-cleared, done-changed_zone}

-- a zone has changed since the log was last read and cleared
abbrev pub has_changed : GeometryFields → List Place → ℕ → Bool
has_changed g h z = list_any (changed_zone g z) (since_cleared h)

pub has_changed-kept : (g : GeometryFields) (p : Place) (h : List Place) (z : ℕ) → cleared p ≡ false → has_changed g (p ∷ h) z ≡ (changed_zone g z p || has_changed g h z)
has_changed-kept g p h z keeps = rw keeps refl

-- each is a zone of the drive
pub changed-below : (g : GeometryFields) (h : List Place) → All (λ z. z < g.zones) (changed g h)
unfolding changed
changed-below g h =
    All-filter (has_changed g h) (λ z. z < g.zones) (zones g)
    (All-from_get_or (λ z. z < g.zones) (zones g) 0 (λ i lt. omega (arith, length-range_with_len 0 g.zones, get_or-range_with_len 0 g.zones i 0 (omega (arith, length-range_with_len 0 g.zones)))))

here : (z : ℕ) (b : Bool) → (eqb z z || b) ≡ true
here z b = grind (arith, nat_tests)

elsewhere : (z y : ℕ) (b : Bool) → (y ≡ z → ⊥) → (eqb z y || b) ≡ b
elsewhere z y b other = grind (arith, nat_tests)

-- an excursion that succeeds notes its zone
pub excursion-changed : (g : GeometryFields) (h : List Place) (a : Act) (nsid slba kind : ℕ) → IsDone g h a (cmd.Excursion nsid slba kind) → zone_of g slba < g.zones → changed g (and_then g h a) ≡ with_zone (zone_of g slba) (changed g h)
unfolding changed
excursion-changed g h a nsid slba kind d within =
    let p = answer g h a in
    let c = cmd.Excursion nsid slba kind in
    let zone = zone_of g slba in
    let keeps : cleared p ≡ false = done-cleared g h a c d in
    let after : (y : ℕ) → has_changed g (p ∷ h) y ≡ (eqb zone y || has_changed g h y) = λ y. rw (has_changed-kept g p h y keeps, done-changed_zone g h a c y d) refl in
    filter-with_zone (has_changed g h) (has_changed g (p ∷ h)) zone 0 g.zones (after zone ∙ here zone (has_changed g h zone)) (λ y other. after y ∙ elsewhere zone y (has_changed g h y) other) (omega arith) (omega arith)

-- a read that clears leaves no zone
pub read-changed : (g : GeometryFields) (h : List Place) (a : Act) (nsid page bytes offset : ℕ) → IsDone g h a (cmd.GetLog nsid page bytes offset false) → changed g (and_then g h a) ≡ []
unfolding changed
read-changed g h a nsid page bytes offset d =
    let p = answer g h a in
    let reads : cleared p ≡ true = done-cleared g h a (cmd.GetLog nsid page bytes offset false) d in
    filter-none (has_changed g (p ∷ h)) 0 g.zones (λ z. rw reads refl)

-- a command that may change the log
abbrev pub changes_log : Cmd → Bool
changes_log c = is_excursion c || reads_and_clears c

changes_none : (g : GeometryFields) (z : ℕ) (c : Cmd) → changes_log c ≡ false → changes g z c ≡ false
changes_none g z (cmd.Excursion nsid slba kind) e = absurd cc
changes_none g z _ e = refl

keeps_all : (c : Cmd) → changes_log c ≡ false → reads_and_clears c ≡ false
keeps_all (cmd.Excursion nsid slba kind) e = absurd cc
keeps_all (cmd.GetLog nsid page bytes offset retain) e = e
keeps_all _ e = refl

-- any other act doesn't change it
pub other-changed : (g : GeometryFields) (h : List Place) (a : Act) → changes_log (command_of a) ≡ false → changed g (and_then g h a) ≡ changed g h
unfolding changed
other-changed g h a calm = elim (cases_Bool (is_success (status g h a))) [
  | inl done ↦
      let d : IsDone g h a (command_of a) = record { success = done; command = refl } in
      let p = answer g h a in
      let keeps : cleared p ≡ false = done-cleared g h a (command_of a) d ∙ keeps_all (command_of a) calm in
      filter_agree (has_changed g (p ∷ h)) (has_changed g h)
      (λ z. rw (has_changed-kept g p h z keeps, done-changed_zone g h a (command_of a) z d, changes_none g z (command_of a) calm) refl) (zones g)
  | inr refused ↦ (refused_as_before g h a refused).changed
]

-- a drive that starts has noted none
pub no_acts-changed : (g : GeometryFields) → changed g [] ≡ []
unfolding changed
no_acts-changed g = filter-none (has_changed g []) 0 g.zones (λ z. refl)

-- ---- any act

-- the log after a command that succeeds
abbrev pub log_by : GeometryFields → Cmd → List ℕ → List ℕ
log_by g (cmd.GetLog nsid page bytes offset retain) zones = cond retain zones []
log_by g (cmd.Excursion nsid slba kind) zones = with_zone (zone_of g slba) zones
log_by g _ zones = zones

-- an excursion that succeeds goes to a zone of the drive
pub excursion-zone : (g : GeometryFields) (h : List Place) (a : Act) (nsid slba kind : ℕ) → IsGeometry g → IsDone g h a (cmd.Excursion nsid slba kind) → zone_of g slba < g.zones
excursion-zone g h a nsid slba kind valid d =
    let aim : Aim = record { zone = zone_of g slba; deed = deed.Excursion kind } in
    let front = (aim-passes g h a aim d.success (rw d.command refl)).front in
    div_below slba g.zone_size g.zones valid.zones.zone_size (excursion_front-within g nsid slba kind (rw d.command at front))

done-changed : (g : GeometryFields) (h : List Place) (a : Act) (c : Cmd) → IsGeometry g → IsDone g h a c → changed g (and_then g h a) ≡ log_by g c (changed g h)
done-changed g h a (cmd.GetLog nsid page bytes offset true) valid d = other-changed g h a (rw d.command refl)
done-changed g h a (cmd.GetLog nsid page bytes offset false) valid d = read-changed g h a nsid page bytes offset d
done-changed g h a (cmd.Excursion nsid slba kind) valid d = excursion-changed g h a nsid slba kind d (excursion-zone g h a nsid slba kind valid d)
done-changed g h a _ valid d = other-changed g h a (rw d.command refl)

-- The log of a history with one more act.
pub changed-step : (g : GeometryFields) (h : List Place) (a : Act) → IsGeometry g
    → changed g (and_then g h a) ≡ cond (is_success (status g h a)) (log_by g (command_of a) (changed g h)) (changed g h)
changed-step g h a valid = elim (cases_Bool (is_success (status g h a))) [
  | inl done ↦ rw done (done-changed g h a (command_of a) valid (record { success = done; command = refl }))
  | inr refused ↦ rw refused (refused_as_before g h a refused).changed
]
