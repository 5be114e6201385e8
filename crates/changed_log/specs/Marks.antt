-- The marks of asynchronous events, and the requests that wait. (NVM Express Base Specification 2.0, 5.2, Asynchronous
-- Event Request; Zoned Namespace Command Set Specification 1.1, 4.1.3, Zone Descriptor Changed Notices.)
use Rattle.std.specs.Prelude.{◌≡◌, ℕ, ◌≤◌, Bool, true, false, not, ◌&&◌, nat_le, if◌then◌else◌, List, [], ◌∷◌, ◌++◌, length, Option, Some, None}
use Rattle.changed_log.specs.declared.waited.Waited.{Waited}
use Rattle.changed_log.specs.declared.waited.Waited.TheVariants as waited

-- Whether notices are enabled; whether an event was told since the changed zones were last read and cleared; whether one is still to be
-- told; and the command identifiers of the waiting event requests, the oldest first.
pub record Marks : Type 0 where
  pub enabled : Bool
  pub masked : Bool
  pub pending : Bool
  pub waiting : List ℕ

-- a drive starts with notices disabled
abbrev pub at_start : Marks
at_start = record { enabled = false; masked = false; pending = false; waiting = [] }

-- What always holds of the marks: an event is pending only if none was told yet and no request waits for it, and at most four requests
-- wait.
pub record IsSound (m : Marks) : Type 0 where
  pub unmasked : m.pending ≡ true → m.masked ≡ false
  pub unasked : m.pending ≡ true → m.waiting ≡ []
  pub few : length m.waiting ≤ 4

-- Set Features: only bit 27 of the asynchronous event configuration (Base Specification 2.0, 5.27.1.8)
abbrev pub with_enabled : Bool → Marks → Marks
with_enabled on m = record m { enabled = on }

-- ---- an event request

-- a pending event completes the request; otherwise it waits, if fewer than four do
abbrev pub told_to : Marks → Waited
told_to m = if m.pending then waited.Fired else if nat_le 4 (length m.waiting) then waited.Limit else waited.Kept

abbrev pub after_request : ℕ → Marks → Marks
after_request cid m =
    if m.pending then record m { masked = true; pending = false }
    else if nat_le 4 (length m.waiting) then m
    else record m { waiting = m.waiting ++ cid ∷ [] }

-- ---- an excursion that succeeded

-- its event is told now, or as soon as a request comes
abbrev pub is_told : Marks → Bool
is_told m = m.enabled && not m.masked

-- the first request, which has waited longest
abbrev pub oldest : List ℕ → Option ℕ
oldest [] = None
oldest (cid ∷ rest) = Some cid

-- the request that it completes: the oldest one waiting
abbrev pub fired_by : Marks → Option ℕ
fired_by m = if is_told m then oldest m.waiting else None

-- the event goes to the oldest request; if there is none, it becomes pending
abbrev pub told : Marks → List ℕ → Marks
told m [] = record m { pending = true }
told m (cid ∷ rest) = record m { masked = true; pending = false; waiting = rest }

abbrev pub after_excursion : Marks → Marks
after_excursion m = if is_told m then told m m.waiting else m

-- ---- a read of the changed zones that clears them

abbrev pub after_read : Marks → Marks
after_read m = record m { masked = false; pending = false }
