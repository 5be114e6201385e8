-- The book of a new drive, and of one that has served one more act.
use Rattle.std.proofs.Common.{◌≡◌, ℕ, ◌+◌, ◌-◌, Bool, false, List, [], ◌∷◌, ◌++◌, refl, sym, ap, ◌∙◌, arith}
use Rattle.std.specs.Prelude.{count_by, replicate}
use Rattle.zns_types.specs.declared.fields.GeometryFields.{GeometryFields}
use Rattle.zone_limits.specs.declared.limits.Limits.{Limits}
use Rattle.zone_history.specs.Histories.{state_of, window_of}
use Rattle.zone_model.specs.declared.act.Act.{Act}
use Rattle.zone_model.specs.Kept.{KeptActs}
use Rattle.zone_model.specs.Places.{Place, deeds}
use Rattle.zone_model.specs.Zones.{counted, counts, zones}
use Rattle.zone_model.specs.Notices.{changed}
use Rattle.zone_model.specs.Answers.{and_then, answered}
use Rattle.zone_model.proofs.Histories.{answered-none, answered-push}
use Rattle.changed_log.specs.Marks.{Marks, at_start}
use Rattle.drive_book.specs.declared.book.Book.{Book}
use Rattle.drive_book.specs.declared.tally.Tally.{Tally}
use Rattle.drive_book.specs.Tallies.{no_tally}
use Rattle.drive_book.specs.Books.{tallies_of, marks_of, book_of, book_at, BookStands, TalliesStand}
use Rattle.drive_book.specs.declared.outcome.Outcome.{Outcome}
use Rattle.drive_book.specs.Outcomes.{OutcomeStands}
use Rattle.drive_book.specs.Following.{KeepsTallies}
use Rattle.drive_book.proofs.Marks.{no_acts-marks}
use Rattle.drive_book.proofs.Logs.{no_acts-changed}
use Rattle.drive_book.proofs.TallyCounts.{tallies-none}

-- the parts of a book are those of another
pub record HasParts (b c : Book) : Type 0 where
  pub limits : b.limits ≡ c.limits
  pub log : b.log ≡ c.log
  pub events : b.events ≡ c.events
  pub tallies : b.tallies ≡ c.tallies
  pub journal : b.journal ≡ c.journal

-- so the books are the same
pub same_book : (b c : Book) → HasParts b c → b ≡ c
same_book b c same =
    ap (λ (x : Limits). record b { limits = x }) same.limits
    ∙ ap (λ (x : List ℕ). record b { limits = c.limits; log = x }) same.log
    ∙ ap (λ (x : Marks). record b { limits = c.limits; log = c.log; events = x }) same.events
    ∙ ap (λ (x : List Tally). record b { limits = c.limits; log = c.log; events = c.events; tallies = x }) same.tallies
    ∙ ap (λ (x : KeptActs). record c { journal = x }) same.journal

-- ---- a drive to which nothing was done

none_pass : (p : ℕ → Bool) (xs : List ℕ) → ((x : ℕ) → p x ≡ false) → count_by p xs ≡ 0
none_pass p [] none = refl
none_pass p (x ∷ xs) none = rw (none x) (none_pass p xs none)

same_limits : (n : Limits) → n.active ≡ 0 → n.opened ≡ 0 → n.windows ≡ 0 → n ≡ record { active = 0; opened = 0; windows = 0 }
same_limits n active opened windows =
    ap (λ (x : ℕ). record n { active = x }) active
    ∙ ap (λ (x : ℕ). record n { active = 0; opened = x }) opened
    ∙ ap (λ (x : ℕ). record { active = 0; opened = 0; windows = x }) windows

-- no zone is in use
no_acts-counts : (g : GeometryFields) → record { active = 0; opened = 0; windows = 0 } ≡ counts g []
unfolding counted deeds state_of window_of
no_acts-counts g = sym (same_limits (counts g []) (none_pass _ (zones g) (λ z. refl)) (none_pass _ (zones g) (λ z. refl)) (none_pass _ (zones g) (λ z. refl)))

pub no_acts-book : (g : GeometryFields) (room : ℕ)
    → record { limits = record { active = 0; opened = 0; windows = 0 }; log = []; events = at_start; tallies = replicate g.queues no_tally; journal = record { acts = []; spare = room } } ≡ book_at g [] room
no_acts-book g room =
    same_book _ (book_of g [] [] room) (record { limits = no_acts-counts g; log = sym (no_acts-changed g); events = no_acts-marks; tallies = tallies-none g; journal = refl })
    ∙ ap (λ (h : List Place). book_of g h [] room) (sym (answered-none g))

-- ---- one more act

-- all but the journal is that of the history with one more act
pub record GoesOn (g : GeometryFields) (h : List Place) (a : Act) (b : Book) : Type 0 where
  pub limits : b.limits ≡ counts g (and_then g h a)
  pub log : b.log ≡ changed g (and_then g h a)
  pub events : b.events ≡ marks_of (and_then g h a)
  pub tallies : b.tallies ≡ tallies_of g (and_then g h a)

-- With the act in its journal, it is the book of these acts and this one.
pub book-step : (g : GeometryFields) (acts : List Act) (a : Act) (spare : ℕ) (b : Book) → GoesOn g (answered g acts) a b → b.journal ≡ record { acts = acts ++ a ∷ []; spare = spare } → b ≡ book_at g (acts ++ a ∷ []) spare
book-step g acts a spare b on journal =
    same_book b (book_of g (and_then g (answered g acts) a) (acts ++ a ∷ []) spare) (record { limits = on.limits; log = on.log; events = on.events; tallies = on.tallies; journal = journal })
    ∙ ap (λ (h : List Place). book_of g h (acts ++ a ∷ []) spare) (sym (answered-push g acts a))

-- ---- posting an act that was done

-- A book is up to date with an act, except for its tallies and its journal.
pub record IsReady (g : GeometryFields) (a : Act) (old mid : Book) : Type 0 where
  pub limits : mid.limits ≡ counts g (and_then g (answered g old.journal.acts) a)
  pub log : mid.log ≡ changed g (and_then g (answered g old.journal.acts) a)
  pub events : mid.events ≡ marks_of (and_then g (answered g old.journal.acts) a)
  pub tallies : mid.tallies ≡ old.tallies
  pub journal : mid.journal ≡ old.journal

-- it has the tallies of the history before the act
pub ready-tallies : (g : GeometryFields) (a : Act) (old mid : Book) → BookStands g old → IsReady g a old mid → mid.tallies ≡ tallies_of g (answered g old.journal.acts)
ready-tallies g a old mid stands ready = ready.tallies ∙ ap (λ (b : Book). b.tallies) stands

-- which are those of its journal
pub ready-stands : (g : GeometryFields) (a : Act) (old mid : Book) → BookStands g old → IsReady g a old mid → TalliesStand g mid
ready-stands g a old mid stands ready = rw ready.journal (ready-tallies g a old mid stands ready)

-- what posting an act changes in a book, besides its tallies
pub record IsPosted (a : Act) (mid new : Book) : Type 0 where
  pub limits : new.limits ≡ mid.limits
  pub log : new.log ≡ mid.log
  pub events : new.events ≡ mid.events
  pub journal : new.journal.acts ≡ mid.journal.acts ++ a ∷ []
  pub spare : new.journal.spare + 1 ≡ mid.journal.spare

same_journal : (j k : KeptActs) → j.acts ≡ k.acts → j.spare ≡ k.spare → j ≡ k
same_journal j k acts spare = ap (λ (x : List Act). record { acts = x; spare = j.spare }) acts ∙ ap (λ (n : ℕ). record { acts = k.acts; spare = n }) spare

-- Once the act is posted, the book is that of the acts in the old one's journal and this one.
pub book-post : (g : GeometryFields) (a : Act) (o : Outcome) (old mid new : Book) → BookStands g old → IsReady g a old mid → OutcomeStands g (answered g old.journal.acts) a o → IsPosted a mid new → KeepsTallies g mid a o new
    → new ≡ book_at g (old.journal.acts ++ a ∷ []) (old.journal.spare - 1)
book-post g a o old mid new stands ready outcome posted keeps =
    let h = answered g old.journal.acts in
    let acts : new.journal.acts ≡ old.journal.acts ++ a ∷ [] = posted.journal ∙ ap (λ (j : KeptActs). j.acts ++ a ∷ []) ready.journal in
    let spare : new.journal.spare ≡ old.journal.spare - 1 = omega (arith, posted.spare, ap (λ (j : KeptActs). j.spare) ready.journal) in
    let on : GoesOn g h a new = record {
      limits = posted.limits ∙ ready.limits;
      log = posted.log ∙ ready.log;
      events = posted.events ∙ ready.events;
      tallies = keeps h (ready-tallies g a old mid stands ready) outcome;
    } in
    book-step g old.journal.acts a (old.journal.spare - 1) new on (same_journal new.journal _ acts spare)
