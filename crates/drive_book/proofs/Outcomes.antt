-- What becomes of an act, from its status and its command.
use Rattle.std.proofs.Common.{◌≡◌, ℕ, Bool, true, false, cond, eqb, List, length, Option, Some, None, refl, sym, ap, ◌∙◌, subst}
use Rattle.std.specs.Prelude.{◌&&◌, nat_le, is_none}
use Rattle.std.proofs.lemmas.Bool.{eqb-true}
use Rattle.zns_types.specs.declared.fields.GeometryFields.{GeometryFields}
use Rattle.zns_types.specs.Statuses.{Status, success, is_success}
use Rattle.sqe_codec.specs.declared.cmd.Cmd.{Cmd}
use Rattle.sqe_codec.specs.declared.cmd.Cmd.TheVariants as cmd
use Rattle.sqe_codec.specs.Commands.{cid_of}
use Rattle.zone_model.specs.declared.act.Act.{Act}
use Rattle.zone_model.specs.Places.{Place, command_of, is_event_request}
use Rattle.zone_model.specs.Notices.{pending, waiting, fires_by}
use Rattle.zone_model.specs.Answers.{status, fires}
use Rattle.zone_model.specs.Entries.{dwords_of, dwords_by}
use Rattle.zone_model.specs.Replies.{reply_bytes, read_by}
use Rattle.changed_log.specs.declared.waited.Waited.TheVariants as waited_as
use Rattle.changed_log.specs.Marks.{told_to, fired_by}
use Rattle.drive_book.specs.declared.outcome.Outcome.{Outcome}
use Rattle.drive_book.specs.Outcomes.{refusal_with, plain_success, told, request_outcome, event_by, OutcomeStands}
use Rattle.drive_book.specs.Books.{marks_of}
use Rattle.drive_book.proofs.Done.{IsDone, done-fired}
use Rattle.drive_book.proofs.Marks.{request_status, request-status, excursion-fires}

-- ---- a refused act

no_event : (c : Cmd) → event_by c None ≡ None
no_event (cmd.Excursion nsid slba kind) = refl
no_event _ = refl

-- its result is empty
pub refused-stands : (g : GeometryFields) (h : List Place) (a : Act) → is_success (status g h a) ≡ false → OutcomeStands g h a (refusal_with (status g h a))
unfolding dwords_of reply_bytes fires
refused-stands g h a refused = record {
  code = refl;
  dw0 = rw refused refl;
  dw1 = rw refused refl;
  len = rw refused refl;
  event = rw (refused, no_event (command_of a)) refl;
  waits = rw refused refl;
}

-- ---- an act that succeeds

same_success : (s : Status) → is_success s ≡ true → success ≡ s
same_success s is = by_sct (eqb s.sct 0) refl is
  where
    by_sct : (b : Bool) → eqb s.sct 0 ≡ b → cond b (eqb s.sc 0) false ≡ true → success ≡ s
    by_sct true sct sc =
        ap (λ (n : ℕ). record { sct = n; sc = 0 }) (sym (eqb-true s.sct 0 sct)) ∙ ap (λ (n : ℕ). record { sct = s.sct; sc = n }) (sym (eqb-true s.sc 0 sc))
    by_sct false sct sc = absurd cc

-- what becomes of a command with this identifier that succeeds after a history
abbrev pub outcome_by : GeometryFields → List Place → ℕ → Cmd → Outcome
outcome_by g h cid c = record {
  code = success;
  dw0 = (dwords_by g h (fires_by h cid c) c).dw0;
  dw1 = (dwords_by g h (fires_by h cid c) c).dw1;
  len = length (read_by g h c);
  event = event_by c (fires_by h cid c);
  waits = is_event_request c && is_none (fires_by h cid c);
}

pub done-stands : (g : GeometryFields) (h : List Place) (a : Act) (c : Cmd) → IsDone g h a c → OutcomeStands g h a (outcome_by g h (cid_of a.sqe.bytes) c)
unfolding dwords_of reply_bytes
done-stands g h a c d =
    let fired = done-fired g h a c d in
    record {
      code = same_success (status g h a) d.success;
      dw0 = rw (d.success, fired, d.command) refl;
      dw1 = rw (d.success, fired, d.command) refl;
      len = rw (d.success, d.command) refl;
      event = rw (fired, d.command) refl;
      waits = rw (d.success, fired, d.command) refl;
    }

-- an excursion answers the request that the marks name
pub excursion-stands : (g : GeometryFields) (h : List Place) (a : Act) (nsid slba kind : ℕ) → IsDone g h a (cmd.Excursion nsid slba kind) → OutcomeStands g h a (record plain_success { event = fired_by (marks_of h) })
excursion-stands g h a nsid slba kind d =
    let c = cmd.Excursion nsid slba kind in
    let event = sym (done-fired g h a c d) ∙ excursion-fires g h a nsid slba kind d in
    subst (λ (o : Option ℕ). OutcomeStands g h a (record plain_success { event = o })) event (done-stands g h a c d)

-- ---- an event request

by_marks : (g : GeometryFields) (h : List Place) (a : Act) (there full : Bool) → pending h ≡ there → command_of a ≡ cmd.Event → status g h a ≡ request_status (cond there waited_as.Fired (cond full waited_as.Limit waited_as.Kept))
    → OutcomeStands g h a (request_outcome (cond there waited_as.Fired (cond full waited_as.Limit waited_as.Kept)))
by_marks g h a true full there asks code =
    let d : IsDone g h a cmd.Event = record { success = rw code refl; command = asks } in
    subst (λ (b : Bool). OutcomeStands g h a (record told { waits = is_none (cond b (Some (cid_of a.sqe.bytes)) None) })) there (done-stands g h a cmd.Event d)
by_marks g h a false true there asks code = subst (λ (s : Status). OutcomeStands g h a (refusal_with s)) code (refused-stands g h a (rw code refl))
by_marks g h a false false there asks code =
    let d : IsDone g h a cmd.Event = record { success = rw code refl; command = asks } in
    subst (λ (b : Bool). OutcomeStands g h a (record told { waits = is_none (cond b (Some (cid_of a.sqe.bytes)) None) })) there (done-stands g h a cmd.Event d)

-- its outcome depends on the marks
pub request-stands : (g : GeometryFields) (h : List Place) (a : Act) → command_of a ≡ cmd.Event → OutcomeStands g h a (request_outcome (told_to (marks_of h)))
request-stands g h a asks = by_marks g h a (pending h) (nat_le 4 (length (waiting h))) refl asks (request-status g h a asks)
