-- The marks follow the definitions over histories: each call turns the marks of a history into those of the history with the act that it
-- serves.
use Rattle.std.proofs.Common.{◌≡◌, ℕ, ◌<◌, ◌≤◌, Bool, true, false, not, cond, List, [], ◌∷◌, ◌++◌, length, Option, Some, None, is_some, refl, ap, ◌∙◌, inl, inr, arith, length-append}
use Rattle.std.specs.Prelude.{◌&&◌, ◌||◌, nat_le, drop, reverse, unwrap_or}
use Rattle.std.proofs.lemmas.List.{drop-append-le, drop_all}
use Rattle.std.proofs.lemmas.Bool.{cases_Bool, cases_lt}
use Rattle.zns_types.specs.declared.fields.GeometryFields.{GeometryFields}
use Rattle.zns_types.specs.Fields.{bit}
use Rattle.zns_types.specs.Statuses.{Status, is_success, success, event_limit_exceeded}
use Rattle.sqe_codec.specs.declared.cmd.Cmd.{Cmd}
use Rattle.sqe_codec.specs.declared.cmd.Cmd.TheVariants as cmd
use Rattle.sqe_codec.specs.Commands.{cid_of}
use Rattle.drive_rules.specs.Shown.{one}
use Rattle.zone_model.specs.declared.act.Act.{Act}
use Rattle.zone_model.specs.Places.{Place, command_of, is_excursion, reads_and_clears, is_event_request, had_excursion, cleared, waited}
use Rattle.zone_model.specs.Notices.{enabled, enabled_by, masked, noticed, pending, requests, answered_requests, waiting, fires_by, first_of}
use Rattle.zone_model.specs.Answers.{status, fires, answer, and_then, answered_back, answered}
use Rattle.zone_model.proofs.Refused.{refused_as_before}
use Rattle.changed_log.specs.declared.waited.Waited.{Waited}
use Rattle.changed_log.specs.declared.waited.Waited.TheVariants as waited_as
use Rattle.changed_log.specs.Marks.{Marks, at_start, oldest, with_enabled, told_to, after_request, fired_by, after_excursion, after_read}
use Rattle.drive_book.specs.Books.{marks_of}
use Rattle.drive_book.proofs.Done.{IsDone, done-cleared, done-excursion, done-fired, done-waited, done-enabled, masked-kept, masked-read, noticed-kept, pending-kept, pending-read, answered-more, waiting-kept}

-- ---- words

-- Excursions answered no more requests than waited. It holds of every history of answered acts.
abbrev pub HasAsked : List Place → Type 0
HasAsked h = answered_requests h ≤ length (requests h)

-- the status of an event request
abbrev pub request_status : Waited → Status
request_status waited_as.Limit = event_limit_exceeded
request_status _ = success

-- the number of the request that is answered at once: its own, or none
abbrev pub own_event : ℕ → Waited → Option ℕ
own_event cid waited_as.Fired = Some cid
own_event cid _ = None

-- a command that may change the marks
abbrev pub changes_marks : Cmd → Bool
changes_marks (cmd.GetLog nsid page bytes offset retain) = not retain
changes_marks (cmd.SetFeature feature value) = true
changes_marks cmd.Event = true
changes_marks (cmd.Excursion nsid slba kind) = true
changes_marks _ = false

-- the marks after a command with this identifier that succeeds
abbrev pub marks_by : ℕ → Cmd → Marks → Marks
marks_by cid (cmd.GetLog nsid page bytes offset retain) m = cond retain m (after_read m)
marks_by cid (cmd.SetFeature feature value) m = with_enabled (bit 27 value) m
marks_by cid cmd.Event m = after_request cid m
marks_by cid (cmd.Excursion nsid slba kind) m = after_excursion m
marks_by cid _ m = m

-- ---- an excursion, over plain marks

-- marks of a history: whether an excursion left an event, and whether one was told
abbrev pub plain : Bool → Bool → Bool → List ℕ → Marks
plain enabled masked noticed waiting = record { enabled = enabled; masked = masked; pending = not masked && noticed; waiting = waiting }

-- the marks after an excursion, by the request that it answered
abbrev pub excursed : Bool → Bool → Bool → List ℕ → Option ℕ → Marks
excursed enabled masked noticed waiting fired = record {
  enabled = enabled;
  masked = is_some fired || masked;
  pending = not (is_some fired || masked) && (enabled || noticed);
  waiting = drop (one (is_some fired)) waiting;
}

pub after_excursion-is : (e k n : Bool) (w : List ℕ) → excursed e k n w (cond (e && not k) (first_of w) None) ≡ after_excursion (plain e k n w)
after_excursion-is true true n w = refl
after_excursion-is true false n [] = refl
after_excursion-is true false n (x ∷ xs) = refl
after_excursion-is false true n w = refl
after_excursion-is false false n w = refl

first_of-oldest : (xs : List ℕ) → first_of xs ≡ oldest xs
first_of-oldest [] = refl
first_of-oldest (x ∷ xs) = refl

-- ---- requests that were answered

some_wait : (b : Bool) (n : ℕ) (rs : List ℕ) → is_some (cond b (first_of (drop n rs)) None) ≡ true → n < length rs
some_wait false n rs is = absurd cc
some_wait true n rs is = elim (cases_lt n (length rs)) [
  | inl lt ↦ lt
  | inr past ↦ let none = ap (λ (xs : List ℕ). is_some (first_of xs)) (drop_all n rs past) in absurd cc
]

asked_by : (h : List Place) (cid : ℕ) (c : Cmd) → (is_excursion c && is_some (fires_by h cid c)) ≡ true → answered_requests h < length (requests h)
unfolding waiting
asked_by h cid (cmd.Excursion nsid slba kind) is = some_wait (enabled h && not (masked h)) (answered_requests h) (requests h) is
asked_by h cid _ is = absurd cc

both_hold : (s e : Bool) (f : Option ℕ) → ((s && e) && is_some (cond s f None)) ≡ true → (e && is_some f) ≡ true
both_hold true e f is = is
both_hold false e f is = absurd cc

requests-grow : (p : Place) (h : List Place) → length (requests h) ≤ length (requests (p ∷ h))
requests-grow p h = elim (cases_Bool (waited p)) [
  | inl is ↦ rw is (omega (arith, length-append (requests h) (cid_of p.act.sqe.bytes ∷ [])))
  | inr isnt ↦ rw isnt (omega arith)
]

-- an excursion answers only a request that waits
pub has_asked-step : (g : GeometryFields) (h : List Place) (a : Act) → HasAsked h → HasAsked (and_then g h a)
unfolding had_excursion answer fires
has_asked-step g h a so_far =
    let p = answer g h a in
    let grows = requests-grow p h in
    let more = answered-more p h in
    elim (cases_Bool (had_excursion p && is_some p.fired)) [
      | inl told ↦
          let lt = asked_by h (cid_of a.sqe.bytes) (command_of a) (both_hold (is_success (status g h a)) (is_excursion (command_of a)) (fires_by h (cid_of a.sqe.bytes) (command_of a)) told) in
          let n = ap one told in
          omega arith
      | inr none ↦ let n = ap one none in omega arith
    ]

has_asked-back : (g : GeometryFields) (acts : List Act) → HasAsked (answered_back g acts)
unfolding answered_back
has_asked-back g [] = omega arith
has_asked-back g (a ∷ acts) = has_asked-step g (answered_back g acts) a (has_asked-back g acts)

pub has_asked : (g : GeometryFields) (acts : List Act) → HasAsked (answered g acts)
unfolding answered
has_asked g acts = has_asked-back g (reverse acts)

-- ---- an excursion that succeeds

pub excursion-fires : (g : GeometryFields) (h : List Place) (a : Act) (nsid slba kind : ℕ) → IsDone g h a (cmd.Excursion nsid slba kind) → fires g h a ≡ fired_by (marks_of h)
excursion-fires g h a nsid slba kind d =
    done-fired g h a (cmd.Excursion nsid slba kind) d ∙ ap (λ (o : Option ℕ). cond (enabled h && not (masked h)) o None) (first_of-oldest (waiting h))

pub excursion-marks : (g : GeometryFields) (h : List Place) (a : Act) (nsid slba kind : ℕ) → IsDone g h a (cmd.Excursion nsid slba kind) → marks_of (and_then g h a) ≡ after_excursion (marks_of h)
unfolding answer pending
excursion-marks g h a nsid slba kind d =
    let p = answer g h a in
    let c = cmd.Excursion nsid slba kind in
    let keeps : cleared p ≡ false = done-cleared g h a c d in
    let none : waited p ≡ false = done-waited g h a c d in
    let excursed : had_excursion p ≡ true = done-excursion g h a c d in
    rw (done-enabled g h a c d, masked-kept p h keeps, noticed-kept p h keeps, waiting-kept p h none, excursed, done-fired g h a c d)
    (after_excursion-is (enabled h) (masked h) (noticed h) (waiting h))

-- ---- a read of the log that clears it

pub read-marks : (g : GeometryFields) (h : List Place) (a : Act) (nsid page bytes offset : ℕ) → IsDone g h a (cmd.GetLog nsid page bytes offset false) → marks_of (and_then g h a) ≡ after_read (marks_of h)
read-marks g h a nsid page bytes offset d =
    let p = answer g h a in
    let c = cmd.GetLog nsid page bytes offset false in
    let reads : cleared p ≡ true = done-cleared g h a c d in
    let none : waited p ≡ false = done-waited g h a c d in
    let calm : had_excursion p ≡ false = done-excursion g h a c d in
    rw (done-enabled g h a c d, masked-read p h reads, pending-read p h reads, waiting-kept p h none, calm) refl

-- ---- an act that does no more than enable notices

-- a command that does no more than enable notices
pub record IsCalm (h : List Place) (cid : ℕ) (c : Cmd) : Type 0 where
  pub keeps : reads_and_clears c ≡ false
  pub no_excursion : is_excursion c ≡ false
  pub no_request : is_event_request c ≡ false
  pub fires_none : fires_by h cid c ≡ None

calm-marks : (g : GeometryFields) (h : List Place) (a : Act) (c : Cmd) → IsDone g h a c → IsCalm h (cid_of a.sqe.bytes) c → marks_of (and_then g h a) ≡ with_enabled (enabled_by true c (enabled h)) (marks_of h)
unfolding answer pending
calm-marks g h a c d calm =
    let p = answer g h a in
    let keeps : cleared p ≡ false = done-cleared g h a c d ∙ calm.keeps in
    let no_excursion : had_excursion p ≡ false = done-excursion g h a c d ∙ calm.no_excursion in
    let silent : fires g h a ≡ None = done-fired g h a c d ∙ calm.fires_none in
    let none : waited p ≡ false = done-waited g h a c d ∙ rw calm.no_request refl in
    rw (done-enabled g h a c d, masked-kept p h keeps, noticed-kept p h keeps, waiting-kept p h none, no_excursion, silent) refl

pub feature-marks : (g : GeometryFields) (h : List Place) (a : Act) (feature value : ℕ) → IsDone g h a (cmd.SetFeature feature value) → marks_of (and_then g h a) ≡ with_enabled (bit 27 value) (marks_of h)
feature-marks g h a feature value d = calm-marks g h a (cmd.SetFeature feature value) d (record { keeps = refl; no_excursion = refl; no_request = refl; fires_none = refl })

-- ---- acts that leave the marks

pub refused-marks : (g : GeometryFields) (h : List Place) (a : Act) → is_success (status g h a) ≡ false → marks_of (and_then g h a) ≡ marks_of h
refused-marks g h a refused =
    let same = refused_as_before g h a refused in
    rw (same.enabled, same.masked, same.pending, same.waiting) refl

is_calm : (h : List Place) (cid : ℕ) (c : Cmd) → changes_marks c ≡ false → IsCalm h cid c
is_calm h cid (cmd.GetLog nsid page bytes offset true) e = record { keeps = refl; no_excursion = refl; no_request = refl; fires_none = refl }
is_calm h cid (cmd.GetLog nsid page bytes offset false) e = absurd cc
is_calm h cid (cmd.SetFeature feature value) e = absurd cc
is_calm h cid cmd.Event e = absurd cc
is_calm h cid (cmd.Excursion nsid slba kind) e = absurd cc
is_calm h cid _ e = record { keeps = refl; no_excursion = refl; no_request = refl; fires_none = refl }

calm-enabled : (c : Cmd) (before : Bool) → changes_marks c ≡ false → enabled_by true c before ≡ before
calm-enabled (cmd.SetFeature feature value) before e = absurd cc
calm-enabled _ before e = refl

pub other-marks : (g : GeometryFields) (h : List Place) (a : Act) → changes_marks (command_of a) ≡ false → marks_of (and_then g h a) ≡ marks_of h
other-marks g h a calm = elim (cases_Bool (is_success (status g h a))) [
  | inl done ↦
      calm-marks g h a (command_of a) (record { success = done; command = refl }) (is_calm h (cid_of a.sqe.bytes) (command_of a) calm)
      ∙ ap (λ (b : Bool). with_enabled b (marks_of h)) (calm-enabled (command_of a) (enabled h) calm)
  | inr refused ↦ refused-marks g h a refused
]

-- ---- an event request

status_by : (q b : Bool) → unwrap_or (cond (not q && b) (Some event_limit_exceeded) None) success ≡ request_status (cond q waited_as.Fired (cond b waited_as.Limit waited_as.Kept))
status_by true b = refl
status_by false true = refl
status_by false false = refl

-- its status
pub request-status : (g : GeometryFields) (h : List Place) (a : Act) → command_of a ≡ cmd.Event → status g h a ≡ request_status (told_to (marks_of h))
unfolding status
request-status g h a asks = rw asks (status_by (pending h) (nat_le 4 (length (waiting h))))

-- it waits after the others
waiting-asked : (p : Place) (h : List Place) → waited p ≡ true → had_excursion p ≡ false → HasAsked h → waiting (p ∷ h) ≡ waiting h ++ cid_of p.act.sqe.bytes ∷ []
unfolding waiting
waiting-asked p h waits calm asked =
    let n : answered_requests (p ∷ h) ≡ answered_requests h = rw calm (omega arith) in
    let more : requests (p ∷ h) ≡ requests h ++ cid_of p.act.sqe.bytes ∷ [] = rw waits refl in
    rw (n, more) (drop-append-le (answered_requests h) (requests h) (cid_of p.act.sqe.bytes ∷ []) asked)

-- an event is there: it is told
request-told : (g : GeometryFields) (h : List Place) (a : Act) → IsDone g h a cmd.Event → pending h ≡ true → marks_of (and_then g h a) ≡ after_request (cid_of a.sqe.bytes) (marks_of h)
unfolding answer
request-told g h a d there =
    let p = answer g h a in
    let keeps : cleared p ≡ false = done-cleared g h a cmd.Event d in
    let calm : had_excursion p ≡ false = done-excursion g h a cmd.Event d in
    let told : fires g h a ≡ Some (cid_of a.sqe.bytes) = done-fired g h a cmd.Event d ∙ rw there refl in
    let none : waited p ≡ false = done-waited g h a cmd.Event d ∙ rw told refl in
    rw (done-enabled g h a cmd.Event d, masked-kept p h keeps, pending-kept p h keeps, waiting-kept p h none, calm, told, there) refl

-- none is there: it waits
request-waits : (g : GeometryFields) (h : List Place) (a : Act) → IsDone g h a cmd.Event → HasAsked h → pending h ≡ false
    → marks_of (and_then g h a) ≡ record (marks_of h) { waiting = waiting h ++ cid_of a.sqe.bytes ∷ [] }
unfolding answer pending
request-waits g h a d asked none =
    let p = answer g h a in
    let keeps : cleared p ≡ false = done-cleared g h a cmd.Event d in
    let calm : had_excursion p ≡ false = done-excursion g h a cmd.Event d in
    let silent : fires g h a ≡ None = done-fired g h a cmd.Event d ∙ rw none refl in
    let waits : waited p ≡ true = done-waited g h a cmd.Event d ∙ rw silent refl in
    rw (done-enabled g h a cmd.Event d, masked-kept p h keeps, noticed-kept p h keeps, waiting-asked p h waits calm asked, calm, silent) refl

after_wait : (g : GeometryFields) (h : List Place) (a : Act) (b : Bool) → nat_le 4 (length (waiting h)) ≡ b → pending h ≡ false → command_of a ≡ cmd.Event → HasAsked h
    → marks_of (and_then g h a) ≡ after_request (cid_of a.sqe.bytes) (marks_of h)
after_wait g h a true full none asks asked =
    let refused : is_success (status g h a) ≡ false = rw (request-status g h a asks, none, full) refl in
    let same : marks_of h ≡ record (marks_of h) { pending = false } = rw none refl in
    rw (none, full) (refused-marks g h a refused ∙ same)
after_wait g h a false room none asks asked =
    let done : is_success (status g h a) ≡ true = rw (request-status g h a asks, none, room) refl in
    let waits = request-waits g h a (record { success = done; command = asks }) asked none in
    let same : record (marks_of h) { waiting = waiting h ++ cid_of a.sqe.bytes ∷ [] } ≡ record (marks_of h) { pending = false; waiting = waiting h ++ cid_of a.sqe.bytes ∷ [] } = rw none refl in
    rw (none, room) (waits ∙ same)

-- the marks after it
pub request-marks : (g : GeometryFields) (h : List Place) (a : Act) → command_of a ≡ cmd.Event → HasAsked h → marks_of (and_then g h a) ≡ after_request (cid_of a.sqe.bytes) (marks_of h)
request-marks g h a asks asked = elim (cases_Bool (pending h)) [
  | inl there ↦
      let done : is_success (status g h a) ≡ true = rw (request-status g h a asks, there) refl in
      request-told g h a (record { success = done; command = asks }) there
  | inr none ↦ after_wait g h a (nat_le 4 (length (waiting h))) refl none asks asked
]

fires_as : (q b : Bool) (cid : ℕ) → cond (is_success (request_status (cond q waited_as.Fired (cond b waited_as.Limit waited_as.Kept)))) (cond q (Some cid) None) None ≡ own_event cid (cond q waited_as.Fired (cond b waited_as.Limit waited_as.Kept))
fires_as true b cid = refl
fires_as false true cid = refl
fires_as false false cid = refl

-- it is answered at once if it is told of an event
pub request-fires : (g : GeometryFields) (h : List Place) (a : Act) → command_of a ≡ cmd.Event → fires g h a ≡ own_event (cid_of a.sqe.bytes) (told_to (marks_of h))
unfolding fires
request-fires g h a asks = rw (request-status g h a asks, asks) (fires_as (pending h) (nat_le 4 (length (waiting h))) (cid_of a.sqe.bytes))

-- ---- a drive that starts

pub no_acts-marks : at_start ≡ marks_of []
unfolding enabled masked pending waiting
no_acts-marks = refl

-- ---- any act

-- the marks after a command that succeeds
done-marks : (g : GeometryFields) (h : List Place) (a : Act) (c : Cmd) → IsDone g h a c → HasAsked h → marks_of (and_then g h a) ≡ marks_by (cid_of a.sqe.bytes) c (marks_of h)
done-marks g h a (cmd.GetLog nsid page bytes offset true) d asked = other-marks g h a (rw d.command refl)
done-marks g h a (cmd.GetLog nsid page bytes offset false) d asked = read-marks g h a nsid page bytes offset d
done-marks g h a (cmd.SetFeature feature value) d asked = feature-marks g h a feature value d
done-marks g h a cmd.Event d asked = request-marks g h a d.command asked
done-marks g h a (cmd.Excursion nsid slba kind) d asked = excursion-marks g h a nsid slba kind d
done-marks g h a _ d asked = other-marks g h a (rw d.command refl)

-- The marks of a history with one more act.
pub marks-step : (g : GeometryFields) (h : List Place) (a : Act) → HasAsked h
    → marks_of (and_then g h a) ≡ cond (is_success (status g h a)) (marks_by (cid_of a.sqe.bytes) (command_of a) (marks_of h)) (marks_of h)
marks-step g h a asked = elim (cases_Bool (is_success (status g h a))) [
  | inl done ↦ rw done (done-marks g h a (command_of a) (record { success = done; command = refl }) asked)
  | inr refused ↦ rw refused (refused-marks g h a refused)
]
