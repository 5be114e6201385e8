-- Taking a word keeps the rule.
use Rattle.std.proofs.Common.{◌≡◌, ◌≢◌, ℕ, zero, suc, ◌+◌, ◌<◌, eqb, Bool, true, false, List, ◌∷◌, length, get_or, set, Option, Some, None, refl, ap, sym, ◌∙◌, subst, arith, suc-ne-zero, length-set, ⊎_elim}
use mathlib.Core.Option.{none, some, some-injective}
use mathlib.Core.Option as maybe
use lib.ListN.{get_elem?, length-map}
use lib.Seq.{map-set}
use prog.Atomic.{either}
use Rattle.atomic_table.specs.Table.{State, Act as Move, step, keeps, takes, Valid, stepped, carried_after, Allows}
use Rattle.atomic_table.proofs.Lists.{at_set, set_else, exchanged}
use Rattle.zns_types.specs.declared.fields.GeometryFields.{GeometryFields}
use Rattle.zone_cell.specs.Cells.{Cell}
use Rattle.zone_model.specs.declared.act.Act.{Act}
use Rattle.zone_model.specs.Kept.{KeptActs}
use Rattle.drive_book.specs.declared.book.Book.{Book}
use Rattle.zone_desk.specs.Parts.{zone_at, AreAt, ledger_at, journal_at}
use Rattle.zone_desk.specs.Rules.{word_of, home_of, HoldsBook, HoldsCells, Apart, Fits, IsOut, HasBook, HasCell, Rule}
use Rattle.zone_desk.specs.Sights.{missed_if, with_cells, with_journal}
use Rattle.zone_desk.specs.Plays.{Mine, TookBook, TookZone, TakesBook, TakesZone, Compares}
use Rattle.zone_desk.specs.declared.plan.Plan.{Plan}
use Rattle.zone_desk.specs.declared.slot.Slot.{Slot}
use Rattle.zone_desk.specs.declared.slot.Slot.TheVariants.{Ledger, Zone}
use Rattle.zone_desk.specs.declared.sight.Kind.TheVariants.{Queue}
use Rattle.zone_desk.specs.declared.sight.Standing.{Standing}
use Rattle.zone_desk.specs.declared.sight.Sight.{Sight}
use Rattle.zone_desk.proofs.Lists.{prefix_shorter}
use Rattle.zone_desk.proofs.Parts.{at-zone, all-at}
use Rattle.zone_desk.proofs.Views.{at_same, at_some, set_at, map_at, words_again, each_set, spares_set, spare_le, alone_set, out_new, out_set}

abbrev pub St : Type 0
St = State Slot Sight

abbrev pub Homes : Type 0
Homes = List (maybe.Option Slot)

abbrev pub Holders : Type 0
Holders = List (Option ℕ)

abbrev Goes : Plan → St → ℕ → ℕ → Mine → (Mine → Type 0) → ℕ → Type 0
Goes plan s i id me then x = (w : Sight) × (a : Move Slot) × Valid s.homes me.1 a × Rule plan (stepped s i x id me.1 w a) × then (w, carried_after me.1 a)

-- ---- a step that changes only a view

-- a pass afterwards was one of the same queue before
abbrev Same : Sight → Sight → Type 0
Same v w = w.kind ≡ Queue → (v.kind ≡ Queue) × (w.queue ≡ v.queue)

looks : (plan : Plan) (s : St) (r : Rule plan s) (i id : ℕ) (v w : Sight) → i < length s.words → get_elem? s.views id ≡ some v → Fits plan r.log r.standings r.holder r.holders id w → w.spare ≡ v.spare → Same v w → (HasBook v → HasBook w) → ((z : ℕ) → HasCell z v → HasCell z w)
    → Rule plan record { words = set s.words i (get_or s.words i 0); homes = s.homes; views = set s.views id w }
looks plan s r i id v w near at fits spare same book cells =
    let sum = spares_set s.views id v w at in
    let whole = r.sum in
    record {
      log = r.log;
      standings = r.standings;
      holder = r.holder;
      holders = r.holders;
      words = words_again s.words i near ∙ r.words;
      wide = r.wide;
      book = r.book;
      cells = r.cells;
      out_book = out_set HasBook r.holder s.views id v w at book r.out_book;
      out_cells = λ z h e. out_set (HasCell z) h s.views id v w at (cells z) (r.out_cells z h e);
      sum = omega arith;
      small = r.small;
      each = each_set (Fits plan r.log r.standings r.holder r.holders) s.views id w (λ j u ne e. r.each j u e) fits;
      alone = alone_set s.views id v w at same r.alone;
      stands = r.stands;
      beyond = r.beyond;
    }

word_count : (plan : Plan) (s : St) (r : Rule plan s) → length s.words ≡ suc (length s.homes)
word_count plan s r = ap (λ (ws : List ℕ). length ws) r.words ∙ ap (λ (n : ℕ). suc (suc n)) (length-map r.holders word_of) ∙ ap suc (sym r.wide)

-- what stays true after a take that found its word held
record Misses (plan : Plan) (id : ℕ) (v w : Sight) : Type 0 where
  fits : (log : List Act) (standings : List Standing) (holder : Option ℕ) (holders : Holders) → Fits plan log standings holder holders id v → Fits plan log standings holder holders id w
  spare : w.spare ≡ v.spare
  same : Same v w
  book : HasBook v → HasBook w
  cells : (z : ℕ) → HasCell z v → HasCell z w

misses : (plan : Plan) (counts : Bool) (id word : ℕ) (v : Sight) → Misses plan id v (missed_if counts v word)
misses plan true id word v = record {
  fits = λ log standings holder holders f. record {
    seen = f.seen;
    heard = f.heard;
    given_back = f.given_back;
    journal = f.journal;
    cells = f.cells;
    apart = f.apart;
    queue = f.queue;
    main = f.main;
    idle = f.idle;
    note = f.note;
    spent = f.spent;
  };
  spare = refl;
  same = λ q. (q, refl);
  book = λ b. b;
  cells = λ z b. b;
}
misses plan false id word v = record { fits = λ log standings holder holders f. f; spare = refl; same = λ q. (q, refl); book = λ b. b; cells = λ z b. b }

-- ---- a zone's word

more_cells : (g : GeometryFields) (id : ℕ) (holders : Holders) (log : List Act) (z : ℕ) (cells : List Cell) → get_elem? holders z ≡ some None → HoldsCells g id holders log cells → ((i : ℕ) (d : Cell) → get_elem? cells i ≡ some d → d.zone ≢ z)
    → HoldsCells g id (set holders z (Some id)) log (zone_at g log z ∷ cells)
more_cells g id holders log z cells free old apart zero d e =
    let is : zone_at g log z ≡ d = some-injective (zone_at g log z) d e in
    let zone : (zone_at g log z).zone ≡ z = at-zone g log z in
    subst (λ (x : Cell). (get_elem? (set holders z (Some id)) x.zone ≡ some (Some id)) × (x ≡ zone_at g log x.zone)) is (ap (get_elem? (set holders z (Some id))) zone ∙ set_at holders z None (Some id) free, ap (zone_at g log) (sym zone))
more_cells g id holders log z cells free old apart (suc i) d e = let h = old i d e in (set_else holders z d.zone (Some id) (apart i d e) ∙ h.0, h.1)

more_apart : (c : Cell) (cells : List Cell) → Apart cells → ((i : ℕ) (d : Cell) → get_elem? cells i ≡ some d → d.zone ≢ c.zone) → Apart (c ∷ cells)
more_apart c cells old apart zero zero a b ea eb same = refl
more_apart c cells old apart zero (suc j) a b ea eb same = absurd (apart j b eb (sym same ∙ ap (λ (x : Cell). x.zone) (sym (some-injective c a ea))))
more_apart c cells old apart (suc i) zero a b ea eb same = absurd (apart i a ea (same ∙ ap (λ (x : Cell). x.zone) (sym (some-injective c b eb))))
more_apart c cells old apart (suc i) (suc j) a b ea eb same = ap suc (old i j a b ea eb same)

-- the zone's word was free
zone_free : (plan : Plan) (s : St) (r : Rule plan s) (id z : ℕ) (me : Mine) → me.0.geometry ≡ plan.fields → get_elem? r.holders z ≡ some None → me.0.kind ≡ Queue → get_elem? s.views id ≡ some me.0
    → Goes plan s (suc (suc z)) id me (λ m'. TookZone (z + 2) me m') 1
zone_free plan s r id z me same free is at =
    let v : Sight = me.0 in
    let c : Cell = zone_at plan.fields r.log z in
    let zone : c.zone ≡ z = at-zone plan.fields r.log z in
    let w : Sight = with_cells v (c ∷ v.cells) in
    let f = r.each id v at in
    let holders' : Holders = set r.holders z (Some id) in
    let home = r.cells z None free in
    let sum = spares_set s.views id v w at in
    let whole = r.sum in
    let mine : (i : ℕ) (d : Cell) → get_elem? v.cells i ≡ some d → d.zone ≢ z
    = λ i d e same. cc (at_same r.holders z (Some id) None (subst (λ (y : ℕ). get_elem? r.holders y ≡ some (Some id)) same (f.cells i d e).0) free) in (
      w,
      takes (suc z) (Zone c),
      home,
      record {
        log = r.log;
        standings = r.standings;
        holder = r.holder;
        holders = holders';
        words = ap (λ (ws : List ℕ). set ws (suc (suc z)) 1) r.words ∙ ap (λ (ws : List ℕ). length r.log ∷ word_of r.holder ∷ ws) (sym (map-set word_of r.holders z (Some id)));
        wide = length-set s.homes (suc z) none ∙ (r.wide ∙ ap suc (sym (length-set r.holders z (Some id))));
        book = set_else s.homes (suc z) 0 none (λ e. suc-ne-zero z (sym e)) ∙ r.book;
        cells = λ y h e. ⊎_elim
            (λ (t : (y ≡ z) × (Some id ≡ h)). subst (λ (k : ℕ). get_elem? (set s.homes (suc z) none) (suc k) ≡ some (home_of h (Zone (zone_at plan.fields r.log k)))) (sym t.0)
            (subst (λ (g : Option ℕ). get_elem? (set s.homes (suc z) none) (suc z) ≡ some (home_of g (Zone c))) t.1 (set_at s.homes (suc z) (some (Zone c)) none home)))
            (λ (t : (y ≢ z) × (get_elem? r.holders y ≡ some h)). set_else s.homes (suc z) (suc y) none (λ e'. t.0 (omega arith)) ∙ r.cells y h t.1)
            (at_set r.holders z y (Some id) h e);
        out_book = out_set HasBook r.holder s.views id v w at (λ b. b) r.out_book;
        out_cells = λ y h e. ⊎_elim
            (λ (t : (y ≡ z) × (Some id ≡ h)). subst (λ (g : Option ℕ). IsOut (HasCell y) g (set s.views id w)) t.1 (out_new (HasCell y) s.views id v w at (0, (c, refl, zone ∙ sym t.0))))
            (λ (t : (y ≢ z) × (get_elem? r.holders y ≡ some h)). out_set (HasCell y) h s.views id v w at (λ b. (suc b.0, (b.1.0, b.1.1, b.1.2))) (r.out_cells y h t.1))
            (at_set r.holders z y (Some id) h e);
        sum = omega arith;
        small = r.small;
        each = each_set (Fits plan r.log r.standings r.holder holders') s.views id w
            (λ j u ne e. let g = r.each j u e in
            record {
              seen = g.seen;
              heard = g.heard;
              given_back = g.given_back;
              journal = g.journal;
              cells = λ i d e'. let h = g.cells i d e' in
                  (set_else r.holders z d.zone (Some id) (λ (same : d.zone ≡ z). cc (at_same r.holders z (Some j) None (subst (λ (y : ℕ). get_elem? r.holders y ≡ some (Some j)) same h.0) free)) ∙ h.0, h.1);
              apart = g.apart;
              queue = g.queue;
              main = g.main;
              idle = g.idle;
              note = g.note;
              spent = g.spent;
            })
            record {
              seen = f.seen;
              heard = f.heard;
              given_back = f.given_back;
              journal = f.journal;
              cells = more_cells plan.fields id r.holders r.log z v.cells free f.cells mine;
              apart = more_apart c v.cells f.apart (λ i d e same. mine i d e (same ∙ zone));
              queue = f.queue;
              main = f.main;
              idle = λ ne. absurd (ne is);
              note = λ k. absurd (cc (k, is));
              spent = λ k. absurd (cc (k, is));
            };
        alone = alone_set s.views id v w at (λ q. (q, refl)) r.alone;
        stands = r.stands;
        beyond = r.beyond;
      },
      (
        c,
        refl,
        ap (λ (k : ℕ). (suc k, Zone c) ∷ me.1) (sym zone),
        ap (λ (k : ℕ). k + 2) zone,
        record {
          acts = r.log;
          stand = subst (λ (g : GeometryFields). AreAt g r.log (c ∷ v.cells)) (sym same)
              (all-at plan.fields r.log (c ∷ v.cells) (λ i d e. (more_cells plan.fields id r.holders r.log z v.cells free f.cells mine i d e).1));
        },
      ),
    )

zone_none : (plan : Plan) (s : St) (r : Rule plan s) (z : ℕ) (h : Option ℕ) → get_elem? r.holders z ≡ some h → get_or s.words (suc (suc z)) 0 ≡ 0 → get_elem? r.holders z ≡ some None
zone_none plan s r z None e found = e
zone_none plan s r z (Some j) e found =
    let n : 1 ≡ 0 = sym (map_at word_of r.holders z (Some j) e) ∙ (sym (ap (λ (ws : List ℕ). get_or ws (suc (suc z)) 0) r.words) ∙ found) in absurd (suc-ne-zero 0 n)

-- the zone's word becomes 1 if it was free, and otherwise the view becomes w
zone_taken : (plan : Plan) (slots id z : ℕ) (me : Mine) → me.0.geometry ≡ plan.fields → (w : Sight) (then : ℕ → Mine → Type 0) → me.0.kind ≡ Queue → z + 1 < slots
    → ((x : ℕ) (m' : Mine) → x ≡ 0 → TookZone (z + 2) me m' → then x m') → ((x : ℕ) → x ≢ 0 → then x (w, me.1))
    → ((log : List Act) (standings : List Standing) (holder : Option ℕ) (holders : Holders) → Fits plan log standings holder holders id me.0 → Fits plan log standings holder holders id w) → w.spare ≡ me.0.spare → Same me.0 w → (HasBook me.0 → HasBook w) → ((z : ℕ) → HasCell z me.0 → HasCell z w)
    → Allows (Rule plan) slots id me (suc (suc z)) (λ n. either (eqb n 0) 1 n) then
zone_taken plan slots id z me fields w then is near hit miss fits spare same book cells s r wide at small =
    let x : ℕ = get_or s.words (suc (suc z)) 0 in
    let long = r.wide in
    let count = word_count plan s r in
    let there = at_some r.holders z (omega arith) in
    exchanged x 0 1 (Goes plan s (suc (suc z)) id me (then x))
    (λ (zero_found : x ≡ 0).
    let t = zone_free plan s r id z me fields (zone_none plan s r z there.0 there.1 zero_found) is at in
    (t.0, t.1, t.2, t.3, hit x (t.0, carried_after me.1 t.1) zero_found t.4))
    (λ (held : x ≢ 0).
    (w, keeps, tt, looks plan s r (suc (suc z)) id me.0 w (omega arith) at (fits r.log r.standings r.holder r.holders (r.each id me.0 at)) spare same book cells, miss x held))

pub taking_zone : (plan : Plan) (counts : Bool) (slots id z : ℕ) (me : Mine) → me.0.geometry ≡ plan.fields → me.0.kind ≡ Queue → z + 1 < slots → Allows (Rule plan) slots id me (z + 2) (λ n. either (eqb n 0) 1 n) (TakesZone counts (step slots (z + 2) 0 1 none) me)
taking_zone plan counts slots id z me same is near =
    let e : suc (suc z) ≡ z + 2 = omega arith in
    let m = misses plan counts id (z + 2) me.0 in
    subst (λ (k : ℕ). Allows (Rule plan) slots id me k (λ n. either (eqb n 0) 1 n) (TakesZone counts (step slots (z + 2) 0 1 none) me)) e
    (zone_taken plan slots id z me same (missed_if counts me.0 (z + 2)) (TakesZone counts (step slots (z + 2) 0 1 none) me) is near
    (λ x m' found t. ((λ _. t), λ ne. absurd (ne found))) (λ x held. ((λ found. absurd (held found)), λ _. refl)) m.fits m.spare m.same m.book m.cells)

-- ---- the book's word

holds_taken : (j : KeptActs) (id other : ℕ) (o : Option KeptActs) → other ≢ id → HoldsBook other None j o → HoldsBook other (Some id) j o
holds_taken j id other None ne h = λ e. ne (cc e)
holds_taken j id other (Some p) ne h = absurd (cc (h.0))

-- the book's word was free
book_free : (plan : Plan) (s : St) (r : Rule plan s) (id : ℕ) (me : Mine) → me.0.geometry ≡ plan.fields → r.holder ≡ None → me.0.kind ≡ Queue → get_elem? s.views id ≡ some me.0 → Goes plan s 1 id me (λ m'. TookBook me m') 1
book_free plan s r id me same free is at =
    let v : Sight = me.0 in
    let j : KeptActs = journal_at plan.room r.log in
    let b : Book = ledger_at plan.fields j in
    let w : Sight = with_journal v j in
    let f = r.each id v at in
    let home : get_elem? s.homes 0 ≡ some (some (Ledger b)) = r.book ∙ ap (λ (h : Option ℕ). some (home_of h (Ledger b))) free in
    let sum = spares_set s.views id v w at in
    let most = spare_le s.views id v at in
    let whole = r.sum in
    let little = r.small in (
      w,
      takes 0 (Ledger b),
      home,
      record {
        log = r.log;
        standings = r.standings;
        holder = Some id;
        holders = r.holders;
        words = ap (λ (ws : List ℕ). set ws 1 1) r.words;
        wide = length-set s.homes 0 none ∙ r.wide;
        book = set_at s.homes 0 (some (Ledger b)) none home;
        cells = λ z h e. set_else s.homes 0 (suc z) none (suc-ne-zero z) ∙ r.cells z h e;
        out_book = out_new HasBook s.views id v w at (λ e. cc e);
        out_cells = λ z h e. out_set (HasCell z) h s.views id v w at (λ b. b) (r.out_cells z h e);
        sum = omega arith;
        small = r.small;
        each = each_set (Fits plan r.log r.standings (Some id) r.holders) s.views id w
            (λ i u ne e. let g = r.each i u e in
            record {
              seen = g.seen;
              heard = g.heard;
              given_back = g.given_back;
              journal = holds_taken j id i u.journal ne (subst (λ (h : Option ℕ). HoldsBook i h j u.journal) free g.journal);
              cells = g.cells;
              apart = g.apart;
              queue = g.queue;
              main = g.main;
              idle = g.idle;
              note = g.note;
              spent = g.spent;
            })
            record {
              seen = f.seen;
              heard = f.heard;
              given_back = f.given_back;
              journal = (refl, refl);
              cells = f.cells;
              apart = f.apart;
              queue = f.queue;
              main = f.main;
              idle = λ ne. absurd (ne is);
              note = λ k. absurd (cc (k, is));
              spent = λ k. absurd (cc (k, is));
            };
        alone = alone_set s.views id v w at (λ q. (q, refl)) r.alone;
        stands = r.stands;
        beyond = r.beyond;
      },
      (
        j,
        refl,
        ap (λ (g : GeometryFields). (0, Ledger (ledger_at g j)) ∷ me.1) (sym same),
        record {
          seen = f.seen;
          own = (f.queue is).1;
          room = omega arith;
          small = omega arith;
          cells = subst (λ (g : GeometryFields). AreAt g r.log v.cells) (sym same) (all-at plan.fields r.log v.cells (λ i c e. (f.cells i c e).1));
        },
      ),
    )

book_none : (plan : Plan) (s : St) (r : Rule plan s) (h : Option ℕ) → r.holder ≡ h → get_or s.words 1 0 ≡ 0 → r.holder ≡ None
book_none plan s r None e found = e
book_none plan s r (Some j) e found =
    let n : 1 ≡ 0 = sym (ap (λ (ws : List ℕ). get_or ws 1 0) r.words ∙ ap word_of e) ∙ found in absurd (suc-ne-zero 0 n)

-- the book's word becomes 1 if it was free, and otherwise the view becomes w
book_taken : (plan : Plan) (slots id : ℕ) (me : Mine) → me.0.geometry ≡ plan.fields → (w : Sight) (then : ℕ → Mine → Type 0) → me.0.kind ≡ Queue → ((x : ℕ) (m' : Mine) → x ≡ 0 → TookBook me m' → then x m') → ((x : ℕ) → x ≢ 0 → then x (w, me.1))
    → ((log : List Act) (standings : List Standing) (holder : Option ℕ) (holders : Holders) → Fits plan log standings holder holders id me.0 → Fits plan log standings holder holders id w) → w.spare ≡ me.0.spare → Same me.0 w → (HasBook me.0 → HasBook w) → ((z : ℕ) → HasCell z me.0 → HasCell z w)
    → Allows (Rule plan) slots id me 1 (λ n. either (eqb n 0) 1 n) then
book_taken plan slots id me same w then is hit miss fits spare kept book cells s r wide at small =
    let x : ℕ = get_or s.words 1 0 in
    let long = r.wide in
    let count = word_count plan s r in
    exchanged x 0 1 (Goes plan s 1 id me (then x))
    (λ (zero_found : x ≡ 0).
    let t = book_free plan s r id me same (book_none plan s r r.holder refl zero_found) is at in
    (t.0, t.1, t.2, t.3, hit x (t.0, carried_after me.1 t.1) zero_found t.4))
    (λ (held : x ≢ 0). (w, keeps, tt, looks plan s r 1 id me.0 w (omega arith) at (fits r.log r.standings r.holder r.holders (r.each id me.0 at)) spare kept book cells, miss x held))

pub taking_book : (plan : Plan) (counts : Bool) (slots id : ℕ) (me : Mine) → me.0.geometry ≡ plan.fields → me.0.kind ≡ Queue → Allows (Rule plan) slots id me 1 (λ n. either (eqb n 0) 1 n) (TakesBook counts (step slots 1 0 1 none) me)
taking_book plan counts slots id me same is =
    let m = misses plan counts id 1 me.0 in
    book_taken plan slots id me same (missed_if counts me.0 1) (TakesBook counts (step slots 1 0 1 none) me) is
    (λ x m' found t. ((λ _. t), λ ne. absurd (ne found))) (λ x held. ((λ found. absurd (held found)), λ _. refl)) m.fits m.spare m.same m.book m.cells

-- ---- a load that compares what was seen with what was told

pub comparing : (plan : Plan) (slots id : ℕ) (me : Mine) → Allows (Rule plan) slots id me 0 (λ n. n) (Compares (step slots 0 0 0 none) me)
comparing plan slots id me s r wide at fits =
    let f = r.each id me.0 at in
    let long = r.wide in
    let count = word_count plan s r in
    (me.0, keeps, tt, looks plan s r 0 id me.0 me.0 (omega arith) at f refl (λ q. (q, refl)) (λ b. b) (λ _ b. b), (refl, λ le. prefix_shorter me.0.heard me.0.seen r.log f.heard f.seen le))
