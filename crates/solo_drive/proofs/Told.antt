-- The effect of one act on the book and on lent cells.
use Rattle.std.proofs.Common.{◌≡◌, ℕ, ◌+◌, Bool, true, false, List, [], ◌++◌, Some, None, map, drop, refl, sym, ap, ◌∙◌, subst}
use Rattle.zns_types.specs.declared.fields.GeometryFields.{GeometryFields}
use Rattle.zns_types.specs.Geometry.{IsGeometry, first, zone_of, offset_of}
use Rattle.zns_types.specs.Statuses.{Status, is_success}
use Rattle.sqe_codec.specs.declared.cmd.Cmd.{Cmd}
use Rattle.sqe_codec.specs.declared.cmd.Cmd.TheVariants as cmd
use Rattle.sqe_codec.specs.Commands.{cid_of}
use Rattle.changed_log.specs.Logs.{with_zone}
use Rattle.changed_log.specs.Marks.{fired_by, after_excursion}
use Rattle.drive_rules.specs.declared.deed.Deed.{Deed}
use Rattle.drive_rules.specs.declared.deed.Deed.TheVariants as deed
use Rattle.drive_rules.specs.declared.aim.Aim.{Aim}
use Rattle.drive_rules.specs.Aims.{aim_of, sent_deed}
use Rattle.zone_cell.specs.Cells.{Cell}
use Rattle.zone_model.specs.declared.act.Act.{Act}
use Rattle.zone_model.specs.Places.{Place}
use Rattle.zone_model.specs.Zones.{pointer}
use Rattle.zone_model.specs.Notices.{changed}
use Rattle.zone_model.specs.Answers.{status, zone_deed, and_then, answered}
use Rattle.zone_model.specs.Replies.{read_by, reply_bytes}
use Rattle.zone_model.proofs.Deeds.{deed-refused}
use Rattle.zone_model.proofs.OneCounted.{idle_is_uncounted}
use Rattle.zone_model.proofs.Sends.{sent-holds, aimed-deed}
use Rattle.drive_book.specs.declared.book.Book.{Book}
use Rattle.drive_book.specs.declared.outcome.Outcome.{Outcome}
use Rattle.drive_book.specs.Books.{marks_of}
use Rattle.drive_book.specs.Outcomes.{OutcomeStands, refusal_with, plain_success}
use Rattle.drive_book.proofs.Done as done
use Rattle.drive_book.proofs.Logs.{log_by, changed-step}
use Rattle.drive_book.proofs.Marks.{marks_by, has_asked, marks-step}
use Rattle.drive_book.proofs.Outcomes.{refused-stands, done-stands, excursion-stands}
use Rattle.solo_drive.specs.Parts.{cells_at, zones_in, PartsStand}
use Rattle.solo_drive.specs.Applying.{history_of, IsWideEnough, IsDone}
use Rattle.solo_drive.specs.Telling.{placed_outcome, Tells}
use Rattle.solo_drive.proofs.Cells.{cell-idle}

-- ---- acts that do nothing to any zone

pub cells-idle : (g : GeometryFields) (h : List Place) (a : Act) (zs : List ℕ) → ((z : ℕ) → zone_deed g h a z ≡ None) → cells_at g h zs ≡ cells_at g (and_then g h a) zs
cells-idle g h a zs idle = ap (λ (f : ℕ → Cell). map f zs) (λ i z. sym (cell-idle g h a z (idle z)) i)

-- log and marks are unchanged too
pub record IsSilent (g : GeometryFields) (h : List Place) (a : Act) : Type 0 where
  pub idle : (z : ℕ) → zone_deed g h a z ≡ None
  pub changed : changed g (and_then g h a) ≡ changed g h
  pub marks : marks_of (and_then g h a) ≡ marks_of h

pub silent-done : (g : GeometryFields) (a : Act) (o : Outcome) (cells : List Cell) (book : Book) (out out' : List ℕ) → PartsStand g a cells book → IsSilent g (history_of g book) a → OutcomeStands g (history_of g book) a o
    → out' ≡ reply_bytes g (history_of g book) a ++ drop o.len out → IsWideEnough g a cells book → IsDone g a o cells cells book book out out'
silent-done g a o cells book out out' p s stands read wide =
    let h = history_of g book in
    record {
      outcome = stands;
      zones = p.cells_stand ∙ cells-idle g h a (zones_in cells) s.idle;
      limits = ap (λ (b : Book). b.limits) p.book_stands ∙ sym (idle_is_uncounted g h a s.idle);
      log = ap (λ (b : Book). b.log) p.book_stands ∙ sym s.changed;
      events = ap (λ (b : Book). b.events) p.book_stands ∙ sym s.marks;
      tallies = refl;
      journal = refl;
      read = read;
      wide = wide;
    }

-- ---- refused acts

refused-silent : (g : GeometryFields) (acts : List Act) (a : Act) → IsGeometry g → is_success (status g (answered g acts) a) ≡ false → IsSilent g (answered g acts) a
refused-silent g acts a valid refused = record {
  idle = λ z. deed-refused g (answered g acts) a z refused;
  changed = changed-step g (answered g acts) a valid ∙ rw refused refl;
  marks = marks-step g (answered g acts) a (has_asked g acts) ∙ rw refused refl;
}

refused-reply : (g : GeometryFields) (h : List Place) (a : Act) → is_success (status g h a) ≡ false → reply_bytes g h a ≡ []
unfolding reply_bytes
refused-reply g h a refused = rw refused refl

pub refused-done : (g : GeometryFields) (a : Act) (code : Status) (cells : List Cell) (book : Book) (out : List ℕ) → IsGeometry g → PartsStand g a cells book → status g (history_of g book) a ≡ code → is_success code ≡ false
    → IsWideEnough g a cells book → IsDone g a (refusal_with code) cells cells book book out out
refused-done g a code cells book out valid p is refused wide =
    let h = history_of g book in
    let fails : is_success (status g h a) ≡ false = ap is_success is ∙ refused in
    silent-done g a (refusal_with code) cells book out out p (refused-silent g book.journal.acts a valid fails) (subst (λ (s : Status). OutcomeStands g h a (refusal_with s)) is (refused-stands g h a fails))
    (rw (refused-reply g h a fails) refl) wide

-- ---- acts that do a deed to one zone

-- what is reported of it
pub record Told (g : GeometryFields) (h : List Place) (a : Act) (o : Outcome) (b b' : Book) : Type 0 where
  pub outcome : OutcomeStands g h a o
  pub log : b'.log ≡ changed g (and_then g h a)
  pub events : b'.events ≡ marks_of (and_then g h a)
  pub limits : b'.limits ≡ b.limits
  pub tallies : b'.tallies ≡ b.tallies
  pub journal : b'.journal ≡ b.journal
  pub silent : reply_bytes g h a ≡ []
  pub len : o.len ≡ 0

reply-is : (g : GeometryFields) (h : List Place) (a : Act) (c : Cmd) → done.IsDone g h a c → reply_bytes g h a ≡ read_by g h c
unfolding reply_bytes
reply-is g h a c d = rw (d.success, d.command) refl

-- a command that returns nothing and leaves log and marks unchanged
plain-told : (g : GeometryFields) (acts : List Act) (a : Act) (c : Cmd) (o : Outcome) (b b' : Book) → IsGeometry g → done.IsDone g (answered g acts) a c → OutcomeStands g (answered g acts) a o → o.len ≡ 0 → read_by g (answered g acts) c ≡ []
    → log_by g c (changed g (answered g acts)) ≡ changed g (answered g acts) → marks_by (cid_of a.sqe.bytes) c (marks_of (answered g acts)) ≡ marks_of (answered g acts)
    → b.log ≡ changed g (answered g acts) → b.events ≡ marks_of (answered g acts) → b' ≡ b → Told g (answered g acts) a o b b'
plain-told g acts a c o b b' valid d stands len nothing same_log same_marks log events is =
    let h = answered g acts in
    record {
      outcome = stands;
      log = ap (λ (x : Book). x.log) is ∙ log ∙ sym (changed-step g h a valid ∙ rw (d.success, d.command) same_log);
      events = ap (λ (x : Book). x.events) is ∙ events ∙ sym (marks-step g h a (has_asked g acts) ∙ rw (d.success, d.command) same_marks);
      limits = ap (λ (x : Book). x.limits) is;
      tallies = ap (λ (x : Book). x.tallies) is;
      journal = ap (λ (x : Book). x.journal) is;
      silent = reply-is g h a c d ∙ nothing;
      len = len;
    }

-- what a deed that is sent reports
abbrev IsPlain : GeometryFields → ℕ → ℕ → Book → Book → Outcome → Deed → Type 0
IsPlain g zone at b b' o d = Tells g zone at b b' o d → (o ≡ plain_success) × (b' ≡ b)

sent-plain : (g : GeometryFields) (zone at act last : ℕ) (option : Bool) (b b' : Book) (o : Outcome) (d : Deed) → sent_deed act option last ≡ Some d → IsPlain g zone at b b' o d
sent-plain g zone at act last option b b' o d is =
    sent-holds (IsPlain g zone at b b' o) act option last d (record { close = λ t. t; finish = λ t. t; opens = λ is t. t; reset = λ t. t; offline = λ t. t; commit = λ t. t }) is

pub told : (g : GeometryFields) (acts : List Act) (a : Act) (c : Cmd) (aim : Aim) (at : ℕ) (b b' : Book) (o : Outcome) → IsGeometry g → done.IsDone g (answered g acts) a c → aim_of g c ≡ Some aim → at ≡ pointer g (answered g acts) aim.zone
    → b.log ≡ changed g (answered g acts) → b.events ≡ marks_of (answered g acts) → Tells g aim.zone at b b' o aim.deed → Told g (answered g acts) a o b b'
told g acts a (cmd.Write nsid slba blocks) aim at b b' o valid d e there log events t =
    let is : record { zone = zone_of g slba; deed = deed.Write (offset_of g slba) blocks } ≡ aim = cc in
    let plain : (o ≡ plain_success) × (b' ≡ b) = subst (λ (x : Aim). Tells g x.zone at b b' o x.deed) (sym is) t in
    let stands = done-stands g (answered g acts) a (cmd.Write nsid slba blocks) d in
    plain-told g acts a (cmd.Write nsid slba blocks) o b b' valid d (subst (OutcomeStands g (answered g acts) a) (sym plain.0) stands) (ap (λ (x : Outcome). x.len) plain.0) refl refl refl log events plain.1
told g acts a (cmd.Append nsid zslba blocks) aim at b b' o valid d e there log events t =
    let h = answered g acts in
    let is : record { zone = zone_of g zslba; deed = deed.Append blocks } ≡ aim = cc in
    let zone_is : zone_of g zslba ≡ aim.zone = ap (λ (x : Aim). x.zone) is in
    let plain : (o ≡ placed_outcome (first g (zone_of g zslba) + at)) × (b' ≡ b) = subst (λ (x : Aim). Tells g x.zone at b b' o x.deed) (sym is) t in
    let lba : first g (zone_of g zslba) + at ≡ first g (zone_of g zslba) + pointer g h (zone_of g zslba) = ap (λ (p : ℕ). first g (zone_of g zslba) + p) (there ∙ ap (pointer g h) (sym zone_is)) in
    let stands = done-stands g h a (cmd.Append nsid zslba blocks) d in
    plain-told g acts a (cmd.Append nsid zslba blocks) o b b' valid d (subst (OutcomeStands g h a) (sym (plain.0 ∙ ap placed_outcome lba)) stands) (ap (λ (x : Outcome). x.len) plain.0) refl refl refl log events plain.1
told g acts a (cmd.Send nsid slba act true option) aim at b b' o valid d e there log events t = absurd (cc e)
told g acts a (cmd.Send nsid slba act false option) aim at b b' o valid d e there log events t =
    let h = answered g acts in
    let is = aimed-deed (zone_of g slba) (sent_deed act option (offset_of g slba)) aim e in
    let plain = sent-plain g aim.zone at act (offset_of g slba) option b b' o aim.deed is.1 t in
    let stands = done-stands g h a (cmd.Send nsid slba act false option) d in
    plain-told g acts a (cmd.Send nsid slba act false option) o b b' valid d (subst (OutcomeStands g h a) (sym plain.0) stands) (ap (λ (x : Outcome). x.len) plain.0) refl refl refl log events plain.1
told g acts a (cmd.Excursion nsid slba kind) aim at b b' o valid d e there log events t =
    let h = answered g acts in
    let is : record { zone = zone_of g slba; deed = deed.Excursion kind } ≡ aim = cc in
    let both : (o ≡ record plain_success { event = fired_by b.events }) × (b' ≡ record b { log = with_zone (zone_of g slba) b.log; events = after_excursion b.events }) = subst (λ (x : Aim). Tells g x.zone at b b' o x.deed) (sym is) t in
    let event : o ≡ record plain_success { event = fired_by (marks_of h) } = both.0 ∙ ap (λ m. record plain_success { event = fired_by m }) events in
    record {
      outcome = subst (OutcomeStands g h a) (sym event) (excursion-stands g h a nsid slba kind d);
      log = ap (λ (x : Book). x.log) both.1 ∙ ap (with_zone (zone_of g slba)) log ∙ sym (changed-step g h a valid ∙ rw (d.success, d.command) refl);
      events = ap (λ (x : Book). x.events) both.1 ∙ ap after_excursion events ∙ sym (marks-step g h a (has_asked g acts) ∙ rw (d.success, d.command) refl);
      limits = ap (λ (x : Book). x.limits) both.1;
      tallies = ap (λ (x : Book). x.tallies) both.1;
      journal = ap (λ (x : Book). x.journal) both.1;
      silent = reply-is g h a (cmd.Excursion nsid slba kind) d;
      len = ap (λ (x : Outcome). x.len) both.0;
    }
told g acts a _ aim at b b' o valid d e there log events t = absurd (cc e)
