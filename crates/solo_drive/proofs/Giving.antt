-- Acts that change nothing and return bytes.
use Rattle.std.proofs.Common.{◌≡◌, ℕ, ◌≤◌, true, List, [], ◌++◌, None, length, drop, refl, sym, ap, ◌∙◌, subst, inr}
use Rattle.std.specs.Prelude.{unwrap_or}
use Rattle.zns_types.specs.declared.fields.GeometryFields.{GeometryFields}
use Rattle.zns_types.specs.Geometry.{IsGeometry}
use Rattle.zns_types.specs.Statuses.{Status, success, is_success}
use Rattle.zns_types.specs.Rows.{Row, first_holding}
use Rattle.sqe_codec.specs.declared.cmd.Cmd.{Cmd}
use Rattle.sqe_codec.specs.Commands.{cid_of}
use Rattle.drive_rules.specs.Aims.{aim_of, sweep_of}
use Rattle.drive_rules.specs.Tables.{front_rows}
use Rattle.zone_model.specs.declared.act.Act.{Act}
use Rattle.zone_model.specs.Places.{Place, command_of}
use Rattle.zone_model.specs.Notices.{changed}
use Rattle.zone_model.specs.Answers.{status, own_rows}
use Rattle.zone_model.specs.Replies.{read_by, reply_bytes}
use Rattle.drive_book.specs.declared.book.Book.{Book}
use Rattle.drive_book.specs.declared.outcome.Outcome.{Outcome}
use Rattle.drive_book.specs.Books.{marks_of}
use Rattle.drive_book.specs.Outcomes.{OutcomeStands, plain_success}
use Rattle.drive_book.proofs.Done as done
use Rattle.drive_book.proofs.Logs.{log_by, changed-step}
use Rattle.drive_book.proofs.Marks.{marks_by, has_asked, marks-step}
use Rattle.drive_book.proofs.Outcomes.{outcome_by, done-stands}
use Rattle.zone_cell.specs.Cells.{Cell}
use Rattle.solo_drive.specs.Parts.{PartsStand}
use Rattle.solo_drive.specs.Applying.{history_of, IsDone}
use Rattle.solo_drive.proofs.Told.{IsSilent, silent-done}
use Rattle.solo_drive.proofs.Plain.{plain-wants, plain-idle, plain-status}
use Rattle.solo_drive.proofs.PlainReads.{read-len}

-- The command goes to no zone, has no rows after its front, changes nothing, and returns its bytes and success.
pub record OnlyGives (g : GeometryFields) (h : List Place) (cid : ℕ) (k : Cmd) : Type 0 where
  pub aim : aim_of g k ≡ None
  pub own : own_rows g h k ≡ []
  pub sweep : sweep_of k ≡ None
  pub outcome : outcome_by g h cid k ≡ record plain_success { len = length (read_by g h k) }
  pub log : log_by g k (changed g h) ≡ changed g h
  pub marks : marks_by cid k (marks_of h) ≡ marks_of h

-- If no row of its front refuses it, and its bytes come first, the act is done.
pub gives-done : (g : GeometryFields) (a : Act) (k : Cmd) (cells : List Cell) (book : Book) (n : ℕ) (out out' : List ℕ) (o : Outcome) → IsGeometry g → PartsStand g a cells book → command_of a ≡ k → first_holding (front_rows g (command_of a)) ≡ None
    → OnlyGives g (history_of g book) (cid_of a.sqe.bytes) k → length out' ≡ length out → n ≤ length out → o ≡ record plain_success { len = n } → out' ≡ read_by g (history_of g book) k ++ drop n out → IsDone g a o cells cells book book out out'
unfolding reply_bytes
gives-done g a k cells book n out out' o valid p e passes only same room is reads =
    let h = history_of g book in
    let aim : aim_of g (command_of a) ≡ None = ap (aim_of g) e ∙ only.aim in
    let own : own_rows g h (command_of a) ≡ [] = ap (own_rows g h) e ∙ only.own in
    let ok : is_success (status g h a) ≡ true = ap is_success (plain-status g h a aim passes ∙ ap (λ (rows : List (Row Status)). unwrap_or (first_holding rows) success) own) in
    let d : done.IsDone g h a k = record { success = ok; command = e } in
    let silent : IsSilent g h a = record {
      idle = λ z. plain-idle g h a z aim (ap sweep_of e ∙ only.sweep);
      changed = changed-step g h a valid ∙ rw (ok, e) only.log;
      marks = marks-step g h a (has_asked g book.journal.acts) ∙ rw (ok, e) only.marks;
    } in
    let len : length (read_by g h k) ≡ n = read-len (read_by g h k) out out' n reads same room in
    let given : outcome_by g h (cid_of a.sqe.bytes) k ≡ o = only.outcome ∙ ap (λ (m : ℕ). record plain_success { len = m }) len ∙ sym is in
    let stands : OutcomeStands g h a o = subst (OutcomeStands g h a) given (done-stands g h a k d) in
    let read : out' ≡ reply_bytes g h a ++ drop o.len out = reads ∙ rw (ok, e, is) refl in
    silent-done g a o cells book out out' p silent stands read (inr (plain-wants g h a aim))
