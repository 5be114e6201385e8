-- The book of an act that went ahead: what its zone gives back is all that changes before the act is posted.
use Rattle.std.proofs.Common.{◌≡◌, ℕ, ◌<◌, ◌≤◌, Bool, true, false, cond, List, Option, Some, None, length, refl, sym, ap, ◌∙◌, subst, inl, inr, arith}
use Rattle.std.specs.Prelude.{◌&&◌, not, IsTrue}
use Rattle.std.proofs.lemmas.Bool.{cases_Bool, and_parts}
use Rattle.zns_types.specs.declared.fields.GeometryFields.{GeometryFields}
use Rattle.zns_types.specs.Geometry.{IsGeometry}
use Rattle.zns_types.specs.Statuses.{is_success}
use Rattle.sqe_codec.specs.declared.cmd.Cmd.{Cmd}
use Rattle.sqe_codec.specs.declared.cmd.Cmd.TheVariants as cmd
use Rattle.sqe_codec.specs.Commands.{transfer_len, cid_of}
use Rattle.zone_limits.specs.declared.limits.Limits.{Limits}
use Rattle.zone_limits.specs.declared.limits.Need.{Need}
use Rattle.zone_limits.specs.Resources.{more, fewer, given_back, recounted, no_need}
use Rattle.drive_rules.specs.declared.deed.Deed.{Deed}
use Rattle.drive_rules.specs.declared.deed.Deed.TheVariants as deed
use Rattle.drive_rules.specs.declared.aim.Aim.{Aim}
use Rattle.drive_rules.specs.Aims.{aim_of, sweep_of}
use Rattle.changed_log.specs.Marks.{Marks}
use Rattle.zone_history.specs.Admitted.{is_write}
use Rattle.zone_cell.specs.Cells.{Cell}
use Rattle.zone_cell.specs.Deeds.{after_deed}
use Rattle.zone_model.specs.declared.act.Act.{Act}
use Rattle.zone_model.specs.Places.{Place, command_of}
use Rattle.zone_model.specs.Zones.{state, uses, counts}
use Rattle.zone_model.specs.Notices.{changed}
use Rattle.zone_model.specs.Counting.{after_close}
use Rattle.zone_model.specs.Answers.{status, zone_deed, evicted, and_then, answered}
use Rattle.zone_model.proofs.Counts.{counted-use}
use Rattle.zone_model.proofs.Deeds.{deed-refused}
use Rattle.zone_model.proofs.LocalFacts.{none_gives_way}
use Rattle.zone_model.proofs.OneCounted.{deed-aim, one_is_counted, idle_is_uncounted}
use Rattle.drive_book.specs.declared.book.Book.{Book}
use Rattle.drive_book.specs.declared.posted.Posted.{Posted}
use Rattle.drive_book.specs.Books.{marks_of, BookStands}
use Rattle.drive_book.specs.Following.{PostsEntries, KeepsTallies}
use Rattle.drive_book.proofs.Books.{IsReady, ready-tallies, IsPosted, book-post}
use Rattle.drive_book.proofs.Logs.{log_by, changed-step}
use Rattle.drive_book.proofs.Marks.{marks_by, has_asked, marks-step}
use Rattle.solo_drive.specs.declared.ahead.Ready.{Ready}
use Rattle.solo_drive.specs.Parts.{cell_at}
use Rattle.solo_drive.specs.Applying.{history_of}
use Rattle.solo_drive.specs.Ahead.{goes_ahead, opened_at, given_up, freed_by, outcome_from, IsDue, IsSettled}
use Rattle.solo_drive.proofs.Going.{IsAhead, opened-used, aim-ahead, freed-aim, plain-ahead, ahead-wants_nothing}
use Rattle.solo_drive.proofs.Moved.{refused-frees, read-frees}
use Rattle.solo_drive.proofs.Plain.{plain-idle}
use Rattle.solo_drive.proofs.Cells.{sight-cell, cell-done}

-- ---- what is given back was counted

-- one of each resource that a use names is counted
pub record IsUsing (n : Limits) (u : Need) : Type 0 where
  pub active : IsTrue u.active → 1 ≤ n.active
  pub opened : IsTrue u.opened → 1 ≤ n.opened
  pub window : IsTrue u.window → 1 ≤ n.windows

nothing-used : (n : Limits) → IsUsing n no_need
nothing-used n = record { active = λ t. absurd (cc t); opened = λ t. absurd (cc t); window = λ t. absurd (cc t) }

first-of : (x y : Bool) → IsTrue (x && y) → IsTrue x
first-of true y t = refl
first-of false y t = t

given-used : (n : Limits) (u v : Need) → IsUsing n u → IsUsing n (given_up u v)
given-used n u v is = record {
  active = λ t. is.active (first-of u.active (not v.active) t);
  opened = λ t. is.opened (first-of u.opened (not v.opened) t);
  window = λ t. is.window (first-of u.window (not v.window) t);
}

using-at : (g : GeometryFields) (h : List Place) (z : ℕ) → z < g.zones → IsUsing (counts g h) (uses g h z)
using-at g h z lt = let k = counted-use g (uses g h) z lt in record { active = k.active.used; opened = k.opened.used; window = k.windows.used }

pub freed-used : (g : GeometryFields) (h : List Place) (a : Act) → IsGeometry g → goes_ahead g (opened_at g h) (command_of a) ≡ true → IsUsing (counts g h) (freed_by g h a (command_of a))
freed-used g h a valid ahead = by_aim (aim_of g (command_of a)) refl
  where
    by_aim : (o : Option Aim) → aim_of g (command_of a) ≡ o → IsUsing (counts g h) (freed_by g h a (command_of a))
    by_aim None e =
        let r = plain-ahead g (opened_at g h) (command_of a) e ahead in
        subst (IsUsing (counts g h)) (read-frees g h a r.nsid r.slba r.blocks r.is) (nothing-used (counts g h))
    by_aim (Some aim) e =
        let is = aim-ahead g (opened_at g h) (command_of a) aim e ahead in
        subst (IsUsing (counts g h)) (sym (freed-aim g h a (opened_at g h) (command_of a) aim e ahead)) (given-used (counts g h) (uses g h aim.zone) (uses g (and_then g h a) aim.zone) (using-at g h aim.zone (is.within valid)))

-- ---- the counts

-- what is used afterwards was used before
record IsLess (u v : Need) : Type 0 where
  active : v.active ≡ true → u.active ≡ true
  opened : v.opened ≡ true → u.opened ≡ true
  window : v.window ≡ true → u.window ≡ true

one-recounted : (x y : Bool) (n : ℕ) → (y ≡ true → x ≡ true) → (IsTrue x → 1 ≤ n) → fewer (x && not y) n ≡ more y (fewer x n)
one-recounted true true n less some = let le = some refl in omega (arith, le)
one-recounted true false n less some = refl
one-recounted false true n less some = absurd (cc (less refl))
one-recounted false false n less some = refl

same-limits : (n m : Limits) → n.active ≡ m.active → n.opened ≡ m.opened → n.windows ≡ m.windows → n ≡ m
same-limits n m p q r =
    ap (λ (x : ℕ). record { active = x; opened = n.opened; windows = n.windows }) p
    ∙ ap (λ (x : ℕ). record { active = m.active; opened = x; windows = n.windows }) q
    ∙ ap (λ (x : ℕ). record { active = m.active; opened = m.opened; windows = x }) r

recounted-less : (u v : Need) (n : Limits) → IsLess u v → IsUsing n u → given_back n (given_up u v) ≡ recounted u v n
recounted-less u v n less is =
    same-limits (given_back n (given_up u v)) (recounted u v n)
    (one-recounted u.active v.active n.active less.active is.active)
    (one-recounted u.opened v.opened n.opened less.opened is.opened)
    (one-recounted u.window v.window n.windows less.window is.window)

-- a write doesn't give the zone a random write area
write-window : (g : GeometryFields) (d : Deed) (payload : List ℕ) (c : Cell) → is_write d ≡ true → (after_deed g d payload c).window ≡ true → c.window ≡ true
write-window g (deed.Write from blocks) payload c writes is = (and_parts c.window _ is).0
write-window g (deed.Append blocks) payload c writes is = (and_parts c.window _ is).0
write-window g _ payload c writes is = absurd (cc writes)

less-after : (g : GeometryFields) (acts : List Act) (a : Act) (aim : Aim) → IsGeometry g → length a.payload ≡ transfer_len g (command_of a) → aim_of g (command_of a) ≡ Some aim → is_success (status g (answered g acts) a) ≡ true → IsAhead g (opened_at g (answered g acts)) aim
    → IsLess (uses g (answered g acts) aim.zone) (uses g (and_then g (answered g acts) a) aim.zone)
less-after g acts a aim valid len e ok is =
    let h = answered g acts in
    let h' = and_then g h a in
    let done = cell-done g acts a aim.zone aim.deed valid len (deed-aim g h a aim e ok) in
    let after : (after_deed g aim.deed a.payload (cell_at g h aim.zone)).window ≡ (uses g h' aim.zone).window = ap (λ (c : Cell). c.window) done ∙ ap (λ z. z.window) (sight-cell g h' aim.zone) in
    let before : (cell_at g h aim.zone).window ≡ (uses g h aim.zone).window = ap (λ z. z.window) (sight-cell g h aim.zone) in
    record {
      active = λ t. (opened-used (state g h aim.zone) is.there).active;
      opened = λ t. is.there;
      window = λ t. sym before ∙ write-window g aim.deed a.payload (cell_at g h aim.zone) is.writes (after ∙ t);
    }

-- What is freed is exactly what the counts lose.
pub counts-settled : (g : GeometryFields) (acts : List Act) (a : Act) → IsGeometry g → length a.payload ≡ transfer_len g (command_of a) → goes_ahead g (opened_at g (answered g acts)) (command_of a) ≡ true
    → given_back (counts g (answered g acts)) (freed_by g (answered g acts) a (command_of a)) ≡ counts g (and_then g (answered g acts) a)
counts-settled g acts a valid len ahead = by_aim (aim_of g (command_of a)) refl
  where
    h : List Place
    h = answered g acts

    -- nothing was done
    idle : ((z : ℕ) → zone_deed g h a z ≡ None) → no_need ≡ freed_by g h a (command_of a) → given_back (counts g h) (freed_by g h a (command_of a)) ≡ counts g (and_then g h a)
    idle none frees = ap (given_back (counts g h)) (sym frees) ∙ sym (idle_is_uncounted g h a none)

    written : (aim : Aim) → aim_of g (command_of a) ≡ Some aim → is_success (status g h a) ≡ true → given_back (counts g h) (freed_by g h a (command_of a)) ≡ counts g (and_then g h a)
    written aim e ok =
        let is = aim-ahead g (opened_at g h) (command_of a) aim e ahead in
        let alone : evicted g h a ≡ None = (none_gives_way g h a (ahead-wants_nothing g h a ahead)).evicted in
        ap (given_back (counts g h)) (freed-aim g h a (opened_at g h) (command_of a) aim e ahead)
        ∙ recounted-less (uses g h aim.zone) (uses g (and_then g h a) aim.zone) (counts g h) (less-after g acts a aim valid len e ok is) (using-at g h aim.zone (is.within valid))
        ∙ ap (λ (o : Option ℕ). recounted (uses g h aim.zone) (uses g (and_then g h a) aim.zone) (after_close g h o (counts g h))) (sym alone)
        ∙ sym (one_is_counted g h a aim e (is.within valid) ok)

    by_aim : (o : Option Aim) → aim_of g (command_of a) ≡ o → given_back (counts g h) (freed_by g h a (command_of a)) ≡ counts g (and_then g h a)
    by_aim None e =
        let r = plain-ahead g (opened_at g h) (command_of a) e ahead in
        idle (λ z. plain-idle g h a z e (ap sweep_of r.is)) (read-frees g h a r.nsid r.slba r.blocks r.is)
    by_aim (Some aim) e = elim (cases_Bool (is_success (status g h a))) [
      | inl ok ↦ written aim e ok
      | inr refused ↦ idle (λ z. deed-refused g h a z refused) (refused-frees g h a refused)
    ]

-- ---- log and marks

log-stays : (g : GeometryFields) (opened : ℕ → Bool) (k : Cmd) (zones : List ℕ) → goes_ahead g opened k ≡ true → log_by g k zones ≡ zones
log-stays g opened (cmd.GetLog nsid page bytes offset retain) zones ahead = absurd (cc ahead)
log-stays g opened (cmd.Excursion nsid slba kind) zones ahead = absurd (cc ahead)
log-stays g opened _ zones ahead = refl

marks-stay : (g : GeometryFields) (opened : ℕ → Bool) (cid : ℕ) (k : Cmd) (m : Marks) → goes_ahead g opened k ≡ true → marks_by cid k m ≡ m
marks-stay g opened cid (cmd.GetLog nsid page bytes offset retain) m ahead = absurd (cc ahead)
marks-stay g opened cid (cmd.SetFeature feature value) m ahead = absurd (cc ahead)
marks-stay g opened cid cmd.Event m ahead = absurd (cc ahead)
marks-stay g opened cid (cmd.Excursion nsid slba kind) m ahead = absurd (cc ahead)
marks-stay g opened cid _ m ahead = refl

either : {A : Type 0} → (b : Bool) (x : A) → cond b x x ≡ x
either true x = refl
either false x = refl

changed-stays : (g : GeometryFields) (h : List Place) (a : Act) → IsGeometry g → goes_ahead g (opened_at g h) (command_of a) ≡ true → changed g (and_then g h a) ≡ changed g h
changed-stays g h a valid ahead =
    changed-step g h a valid ∙ ap (λ (zs : List ℕ). cond (is_success (status g h a)) zs (changed g h)) (log-stays g (opened_at g h) (command_of a) (changed g h) ahead) ∙ either (is_success (status g h a)) (changed g h)

events-stay : (g : GeometryFields) (acts : List Act) (a : Act) → goes_ahead g (opened_at g (answered g acts)) (command_of a) ≡ true → marks_of (and_then g (answered g acts) a) ≡ marks_of (answered g acts)
events-stay g acts a ahead =
    let h = answered g acts in
    marks-step g h a (has_asked g acts) ∙ ap (λ (m : Marks). cond (is_success (status g h a)) m (marks_of h)) (marks-stay g (opened_at g h) (cid_of a.sqe.bytes) (command_of a) (marks_of h) ahead) ∙ either (is_success (status g h a)) (marks_of h)

-- ---- the book

-- once what is freed is given back, the book is ready for the act
settled-ready : (g : GeometryFields) (a : Act) (r : Ready) (book : Book) (n : Limits) → IsGeometry g → length a.payload ≡ transfer_len g (command_of a) → BookStands g book → IsDue g (history_of g book) a r → n ≡ given_back book.limits r.freed → IsReady g a book (record book { limits = n })
settled-ready g a r book n valid len stands due is =
    let h = history_of g book in
    record {
      limits = is ∙ ap (λ (b : Book). given_back b.limits r.freed) stands ∙ ap (given_back (counts g h)) due.stands.freed ∙ counts-settled g book.journal.acts a valid len due.ahead;
      log = ap (λ (b : Book). b.log) stands ∙ sym (changed-stays g h a valid due.ahead);
      events = ap (λ (b : Book). b.events) stands ∙ sym (events-stay g book.journal.acts a due.ahead);
      tallies = refl;
      journal = refl;
    }

-- the resources are counted in the book
pub book-used : (g : GeometryFields) (a : Act) (r : Ready) (book : Book) → IsGeometry g → BookStands g book → IsDue g (history_of g book) a r → IsUsing book.limits r.freed
book-used g a r book valid stands due =
    let h = history_of g book in
    let used = freed-used g h a valid due.ahead in
    subst (λ (n : Limits). IsUsing n r.freed) (sym (ap (λ (b : Book). b.limits) stands)) (subst (IsUsing (counts g h)) (sym due.stands.freed) used)

pub settled : (g : GeometryFields) (a : Act) (r : Ready) (p : Posted) (book new : Book) (n : Limits) → IsGeometry g → length a.payload ≡ transfer_len g (command_of a) → BookStands g book → IsDue g (history_of g book) a r → n ≡ given_back book.limits r.freed
    → IsPosted a (record book { limits = n }) new → KeepsTallies g (record book { limits = n }) a (outcome_from r) new → PostsEntries g (record book { limits = n }) a (outcome_from r) p → p.len ≡ r.len → IsSettled g a p book new
settled g a r p book new n valid len stands due is posted keeps posts same =
    let h = history_of g book in
    let mid = record book { limits = n } in
    let ready = settled-ready g a r book n valid len stands due is in
    record {
      kept = book-post g a (outcome_from r) book mid new stands ready due.stands.outcome posted keeps;
      entries = posts h (ready-tallies g a book mid stands ready) due.stands.outcome;
      len = same ∙ due.stands.outcome.len;
      alone = ahead-wants_nothing g h a due.ahead;
    }
