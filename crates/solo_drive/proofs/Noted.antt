-- Acts that do nothing to any zone: Get Log Page, Set Features, Get Features, and Asynchronous Event Request.
use Rattle.std.proofs.Common.{◌≡◌, ℕ, ◌+◌, ◌*◌, ◌^◌, ◌<◌, ◌≤◌, min, Bool, true, false, cond, List, [], ◌++◌, None, length, drop, refl, sym, ap, ◌∙◌, subst, arith, inl, inr}
use Rattle.std.specs.Prelude.{◌==◌, unwrap_or}
use Rattle.std.specs.List.{All}
use Rattle.std.proofs.lemmas.Bool.{cases_Bool, eqb-true, ltb-false}
use Rattle.zns_types.specs.declared.fields.GeometryFields.{GeometryFields}
use Rattle.zns_types.specs.Fields.{bit}
use Rattle.zns_types.specs.Geometry.{IsGeometry, block_len, greatest_transfer}
use Rattle.zns_types.specs.Statuses.{Status, success, is_success}
use Rattle.zns_types.specs.Rows.{Row, first_holding}
use Rattle.zns_types.proofs.RowLemmas.{none_holds}
use Rattle.sqe_codec.specs.declared.cmd.Cmd.{Cmd}
use Rattle.sqe_codec.specs.declared.cmd.Cmd.TheVariants as cmd
use Rattle.sqe_codec.specs.Commands.{cid_of, reply_len}
use Rattle.drive_rules.specs.Aims.{aim_of}
use Rattle.drive_rules.specs.Reports.{changed_page, first_bytes}
use Rattle.drive_rules.specs.Tables.{is_too_long, front_rows, log_rows}
use Rattle.changed_log.specs.declared.waited.Waited.{Waited}
use Rattle.changed_log.specs.declared.waited.Waited.TheVariants as waited
use Rattle.changed_log.specs.Marks.{Marks, with_enabled, told_to, after_request, after_read}
use Rattle.zone_cell.specs.Cells.{Cell}
use Rattle.zone_model.specs.declared.act.Act.{Act}
use Rattle.zone_model.specs.Places.{Place, command_of}
use Rattle.zone_model.specs.Notices.{changed}
use Rattle.zone_model.specs.Answers.{status, zone_deed, own_rows, and_then}
use Rattle.zone_model.specs.Replies.{reply_bytes}
use Rattle.zone_model.proofs.OneCounted.{idle_is_uncounted}
use Rattle.drive_book.specs.declared.book.Book.{Book}
use Rattle.drive_book.specs.declared.outcome.Outcome.{Outcome}
use Rattle.drive_book.specs.Books.{marks_of}
use Rattle.drive_book.specs.Outcomes.{OutcomeStands, plain_success, request_outcome}
use Rattle.drive_book.proofs.Done as done
use Rattle.drive_book.proofs.Logs.{changed-below, changed-step, other-changed}
use Rattle.drive_book.proofs.Marks.{has_asked, marks-step, request-marks}
use Rattle.drive_book.proofs.Outcomes.{done-stands, request-stands}
use Rattle.solo_drive.specs.Parts.{zones_in, PartsStand}
use Rattle.solo_drive.specs.Applying.{history_of, IsWideEnough, IsDone}
use Rattle.solo_drive.specs.Noticing.{read_outcome, with_page, after_log, after_feature, feature_outcome, after_ask}
use Rattle.solo_drive.proofs.Told.{cells-idle, IsSilent, silent-done}
use Rattle.solo_drive.proofs.Plain.{plain-wants, plain-idle, plain-status}
use Rattle.solo_drive.proofs.FirstBytes.{length-first_bytes}

-- ---- what such an act makes of the book

pub record IsNoted (g : GeometryFields) (h : List Place) (a : Act) (b b' : Book) : Type 0 where
  pub idle : (z : ℕ) → zone_deed g h a z ≡ None
  pub log : b'.log ≡ changed g (and_then g h a)
  pub events : b'.events ≡ marks_of (and_then g h a)
  pub limits : b'.limits ≡ b.limits
  pub tallies : b'.tallies ≡ b.tallies
  pub journal : b'.journal ≡ b.journal

noted-done : (g : GeometryFields) (a : Act) (o : Outcome) (cells : List Cell) (book book' : Book) (out out' : List ℕ) → PartsStand g a cells book → IsNoted g (history_of g book) a book book' → OutcomeStands g (history_of g book) a o
    → out' ≡ reply_bytes g (history_of g book) a ++ drop o.len out → IsWideEnough g a cells book → IsDone g a o cells cells book book' out out'
noted-done g a o cells book book' out out' p n stands read wide =
    let h = history_of g book in
    record {
      outcome = stands;
      zones = p.cells_stand ∙ cells-idle g h a (zones_in cells) n.idle;
      limits = n.limits ∙ ap (λ (b : Book). b.limits) p.book_stands ∙ sym (idle_is_uncounted g h a n.idle);
      log = n.log;
      events = n.events;
      tallies = n.tallies;
      journal = n.journal;
      read = read;
      wide = wide;
    }

book-log : (g : GeometryFields) (a : Act) (cells : List Cell) (book : Book) → PartsStand g a cells book → book.log ≡ changed g (history_of g book)
book-log g a cells book p = ap (λ (b : Book). b.log) p.book_stands

book-events : (g : GeometryFields) (a : Act) (cells : List Cell) (book : Book) → PartsStand g a cells book → book.events ≡ marks_of (history_of g book)
book-events g a cells book p = ap (λ (b : Book). b.events) p.book_stands

-- no row refuses it
plain-succeeds : (g : GeometryFields) (h : List Place) (a : Act) (k : Cmd) → command_of a ≡ k → own_rows g h k ≡ [] → aim_of g (command_of a) ≡ None → first_holding (front_rows g (command_of a)) ≡ None → done.IsDone g h a k
plain-succeeds g h a k e own plain none = record {
  success = ap is_success (plain-status g h a plain none ∙ ap (λ (rows : List (Row Status)). unwrap_or (first_holding rows) success) (ap (own_rows g h) e ∙ own));
  command = e;
}

-- ---- Get Log Page

-- the zones of the log are zones of the drive
pub log-zones : (g : GeometryFields) (a : Act) (cells : List Cell) (book : Book) → PartsStand g a cells book → All (λ z. z < g.zones) book.log
log-zones g a cells book p = subst (All (λ z. z < g.zones)) (sym (book-log g a cells book p)) (changed-below g (history_of g book))

-- its bytes are at most as many as one command may move
log-fits : (g : GeometryFields) (a : Act) (nsid page bytes offset : ℕ) (retain : Bool) → command_of a ≡ cmd.GetLog nsid page bytes offset retain → first_holding (front_rows g (command_of a)) ≡ None → is_too_long g bytes ≡ false
log-fits g a nsid page bytes offset retain e none = let (_, (_, (too_long, _))) = none_holds (log_rows g nsid page bytes offset) (rw e at none) in too_long

-- there is room for them
pub log-room : (g : GeometryFields) (a : Act) (nsid page bytes offset room : ℕ) (retain : Bool) → command_of a ≡ cmd.GetLog nsid page bytes offset retain → first_holding (front_rows g (command_of a)) ≡ None → reply_len g (command_of a) ≤ room → bytes ≤ room
log-room g a nsid page bytes offset room retain e none le =
    let short = log-fits g a nsid page bytes offset retain e none in
    let asks : reply_len g (command_of a) ≡ bytes = rw (e, short) refl in
    omega (arith, asks)

block_len-small : (g : GeometryFields) → IsGeometry g → block_len g ≤ 4096
block_len-small g valid = elim (cases_Bool (g.block_exp == 9)) [
  | inl is ↦ omega (arith, ap (λ (k : ℕ). 2 ^ k) (eqb-true g.block_exp 9 is))
  | inr isnt ↦
      let is : (g.block_exp == 12) ≡ true = rw isnt at valid.units.block_exp in
      omega (arith, ap (λ (k : ℕ). 2 ^ k) (eqb-true g.block_exp 12 is))
]

least_of : (b : Bool) (m n : ℕ) → cond b m (min m n) ≤ m
least_of true m n = omega arith
least_of false m n = omega arith

-- they are fewer than 2^32
pub log-few : (g : GeometryFields) (a : Act) (nsid page bytes offset : ℕ) (retain : Bool) → IsGeometry g → command_of a ≡ cmd.GetLog nsid page bytes offset retain → first_holding (front_rows g (command_of a)) ≡ None → bytes < 2 ^ 32
log-few g a nsid page bytes offset retain valid e none =
    let short = log-fits g a nsid page bytes offset retain e none in
    omega (arith, ltb-false (greatest_transfer g) bytes short, least_of (g.mdts == 0) (65536 * block_len g) (2 ^ (12 + g.mdts)), block_len-small g valid)

pub log-done : (g : GeometryFields) (a : Act) (cells : List Cell) (book book' : Book) (nsid page bytes offset : ℕ) (retain : Bool) (out out' : List ℕ) (o : Outcome) → IsGeometry g → PartsStand g a cells book
    → command_of a ≡ cmd.GetLog nsid page bytes offset retain → first_holding (front_rows g (command_of a)) ≡ None → o ≡ read_outcome bytes → book' ≡ after_log retain book → out' ≡ with_page g bytes book out
    → IsDone g a o cells cells book book' out out'
unfolding reply_bytes
log-done g a cells book book' nsid page bytes offset retain out out' o valid p e none outcome is read =
    let h = history_of g book in
    let k = cmd.GetLog nsid page bytes offset retain in
    let plain : aim_of g (command_of a) ≡ None = rw e refl in
    let d = plain-succeeds g h a k e refl plain none in
    let log = book-log g a cells book p in
    let events = book-events g a cells book p in
    let noted : IsNoted g h a book book' = record {
      idle = λ z. plain-idle g h a z plain (rw e refl);
      log = ap (λ (b : Book). b.log) is ∙ ap (λ (zs : List ℕ). cond retain zs []) log ∙ sym (changed-step g h a valid ∙ rw (d.success, e) refl);
      events = ap (λ (b : Book). b.events) is ∙ ap (λ (m : Marks). cond retain m (after_read m)) events ∙ sym (marks-step g h a (has_asked g book.journal.acts) ∙ rw (d.success, e) refl);
      limits = ap (λ (b : Book). b.limits) is;
      tallies = ap (λ (b : Book). b.tallies) is;
      journal = ap (λ (b : Book). b.journal) is;
    } in
    let len : length (first_bytes bytes (changed_page g (changed g h))) ≡ bytes = length-first_bytes bytes (changed_page g (changed g h)) in
    let stands : OutcomeStands g h a o = subst (OutcomeStands g h a) (ap read_outcome len ∙ sym outcome) (done-stands g h a k d) in
    let reply : out' ≡ reply_bytes g h a ++ drop o.len out = read ∙ ap (λ (zs : List ℕ). first_bytes bytes (changed_page g zs) ++ drop bytes out) log ∙ rw (d.success, e, outcome) refl in
    noted-done g a o cells book book' out out' p noted stands reply (inr (plain-wants g h a plain))

-- ---- Set Features and Get Features

pub set-feature-done : (g : GeometryFields) (a : Act) (cells : List Cell) (book book' : Book) (feature value : ℕ) (out : List ℕ) (o : Outcome) → IsGeometry g → PartsStand g a cells book → command_of a ≡ cmd.SetFeature feature value
    → first_holding (front_rows g (command_of a)) ≡ None → o ≡ plain_success → book' ≡ after_feature value book → IsDone g a o cells cells book book' out out
unfolding reply_bytes
set-feature-done g a cells book book' feature value out o valid p e none outcome is =
    let h = history_of g book in
    let k = cmd.SetFeature feature value in
    let plain : aim_of g (command_of a) ≡ None = rw e refl in
    let d = plain-succeeds g h a k e refl plain none in
    let noted : IsNoted g h a book book' = record {
      idle = λ z. plain-idle g h a z plain (rw e refl);
      log = ap (λ (b : Book). b.log) is ∙ book-log g a cells book p ∙ sym (changed-step g h a valid ∙ rw (d.success, e) refl);
      events = ap (λ (b : Book). b.events) is ∙ ap (with_enabled (bit 27 value)) (book-events g a cells book p) ∙ sym (marks-step g h a (has_asked g book.journal.acts) ∙ rw (d.success, e) refl);
      limits = ap (λ (b : Book). b.limits) is;
      tallies = ap (λ (b : Book). b.tallies) is;
      journal = ap (λ (b : Book). b.journal) is;
    } in
    let stands : OutcomeStands g h a o = subst (OutcomeStands g h a) (sym outcome) (done-stands g h a k d) in
    let reply : out ≡ reply_bytes g h a ++ drop o.len out = rw (d.success, e, outcome) refl in
    noted-done g a o cells book book' out out p noted stands reply (inr (plain-wants g h a plain))

pub get-feature-done : (g : GeometryFields) (a : Act) (cells : List Cell) (book : Book) (feature : ℕ) (out : List ℕ) (o : Outcome) → IsGeometry g → PartsStand g a cells book → command_of a ≡ cmd.GetFeature feature
    → first_holding (front_rows g (command_of a)) ≡ None → o ≡ feature_outcome book.events → IsDone g a o cells cells book book out out
unfolding reply_bytes
get-feature-done g a cells book feature out o valid p e none outcome =
    let h = history_of g book in
    let k = cmd.GetFeature feature in
    let plain : aim_of g (command_of a) ≡ None = rw e refl in
    let d = plain-succeeds g h a k e refl plain none in
    let silent : IsSilent g h a = record {
      idle = λ z. plain-idle g h a z plain (rw e refl);
      changed = changed-step g h a valid ∙ rw (d.success, e) refl;
      marks = marks-step g h a (has_asked g book.journal.acts) ∙ rw (d.success, e) refl;
    } in
    let told : feature_outcome (marks_of h) ≡ o = sym (outcome ∙ ap feature_outcome (book-events g a cells book p)) in
    let stands : OutcomeStands g h a o = subst (OutcomeStands g h a) told (done-stands g h a k d) in
    let reply : out ≡ reply_bytes g h a ++ drop o.len out = rw (d.success, e, outcome) refl in
    silent-done g a o cells book out out p silent stands reply (inr (plain-wants g h a plain))

-- ---- Asynchronous Event Request

request-len : (w : Waited) → (request_outcome w).len ≡ 0
request-len waited.Fired = refl
request-len waited.Limit = refl
request-len waited.Kept = refl

either_nil : (b : Bool) → cond {A = List ℕ} b [] [] ≡ []
either_nil true = refl
either_nil false = refl

pub ask-done : (g : GeometryFields) (a : Act) (cells : List Cell) (book book' : Book) (out : List ℕ) (o : Outcome) → PartsStand g a cells book → command_of a ≡ cmd.Event → o ≡ request_outcome (told_to book.events)
    → book' ≡ after_ask (cid_of a.sqe.bytes) book → IsDone g a o cells cells book book' out out
unfolding reply_bytes
ask-done g a cells book book' out o p e outcome is =
    let h = history_of g book in
    let plain : aim_of g (command_of a) ≡ None = rw e refl in
    let events = book-events g a cells book p in
    let noted : IsNoted g h a book book' = record {
      idle = λ z. plain-idle g h a z plain (rw e refl);
      log = ap (λ (b : Book). b.log) is ∙ book-log g a cells book p ∙ sym (other-changed g h a (rw e refl));
      events = ap (λ (b : Book). b.events) is ∙ ap (after_request (cid_of a.sqe.bytes)) events ∙ sym (request-marks g h a e (has_asked g book.journal.acts));
      limits = ap (λ (b : Book). b.limits) is;
      tallies = ap (λ (b : Book). b.tallies) is;
      journal = ap (λ (b : Book). b.journal) is;
    } in
    let told : o ≡ request_outcome (told_to (marks_of h)) = outcome ∙ ap (λ (m : Marks). request_outcome (told_to m)) events in
    let stands : OutcomeStands g h a o = subst (OutcomeStands g h a) (sym told) (request-stands g h a e) in
    let nothing : reply_bytes g h a ≡ [] = rw e (either_nil (is_success (status g h a))) in
    let len : o.len ≡ 0 = ap (λ (x : Outcome). x.len) outcome ∙ request-len (told_to book.events) in
    let reply : out ≡ reply_bytes g h a ++ drop o.len out = rw (nothing, len) refl in
    noted-done g a o cells book book' out out p noted stands reply (inr (plain-wants g h a plain))
