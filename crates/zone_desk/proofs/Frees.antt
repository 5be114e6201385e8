-- Giving a part back keeps the rule.
use Rattle.std.proofs.Common.{◌≡◌, ◌≢◌, ℕ, zero, suc, Bool, true, false, cond, List, ◌∷◌, length, set, Option, Some, None, refl, ap, sym, ◌∙◌, subst, arith, suc-ne-zero, length-set, ⊎_elim}
use mathlib.Core.Option.{none, some, some-injective}
use mathlib.Core.List.{IsPrefix}
use lib.ListN.{get_elem?}
use lib.Seq.{map-set}
use Rattle.atomic_table.specs.Table.{step, gives, put_back, Allows}
use Rattle.atomic_table.proofs.Lists.{at_set, set_else}
use Rattle.zns_types.specs.declared.fields.GeometryFields.{GeometryFields}
use Rattle.zone_cell.specs.Cells.{Cell}
use Rattle.zone_model.specs.declared.act.Act.{Act}
use Rattle.zone_model.specs.Kept.{KeptActs}
use Rattle.drive_book.specs.declared.book.Book.{Book}
use Rattle.zone_desk.specs.Parts.{zone_at, HasZone, ledger_at, journal_at}
use Rattle.zone_desk.specs.Rules.{word_of, home_of, HoldsBook, HoldsCells, Apart, Fits, IsOut, HasBook, HasCell, Rule}
use Rattle.zone_desk.specs.Sights.{acts_out, log_of, gave, others, without_last}
use Rattle.zone_desk.specs.Plays.{Mine, FreesBook, FreesZone}
use Rattle.zone_desk.specs.declared.plan.Plan.{Plan}
use Rattle.zone_desk.specs.declared.slot.Slot.{Slot}
use Rattle.zone_desk.specs.declared.slot.Slot.TheVariants.{Ledger, Zone}
use Rattle.zone_desk.specs.declared.sight.Kind.TheVariants.{Queue}
use Rattle.zone_desk.specs.declared.sight.Sight.{Sight}
use Rattle.zone_desk.proofs.Lists.{prefix_self}
use Rattle.zone_desk.proofs.Views.{at_same, set_at, each_set, spares_set, alone_set, out_set}
use Rattle.zone_desk.proofs.Keeps.{Homes, Holders}
use Rattle.zone_desk.proofs.Commits.{has_journal}

-- ---- the book

holds_freed : (j : KeptActs) (id other : ℕ) (holder : Option ℕ) (o : Option KeptActs) → holder ≡ Some id → other ≢ id → HoldsBook other holder j o → HoldsBook other None j o
holds_freed j id other holder None is ne h = λ e. absurd (cc e)
holds_freed j id other holder (Some p) is ne h = absurd (ne (cc (is, h.0)))

either_prefix : (b : Bool) (xs ys log : List Act) → IsPrefix xs log → IsPrefix ys log → IsPrefix (cond b xs ys) log
either_prefix true xs ys log p q = p
either_prefix false xs ys log p q = q

pub freeing_book : (plan : Plan) (slots id : ℕ) (me : Mine) (b : Book) (j : KeptActs) (more : List (ℕ × Slot)) → me.0.geometry ≡ plan.fields → me.0.kind ≡ Queue → me.0.journal ≡ Some j → me.1 ≡ (0, Ledger b) ∷ more → b ≡ ledger_at me.0.geometry j
    → Allows (Rule plan) slots id me 1 (λ _. 0) (λ _. FreesBook (step slots 1 0 0 none) me 0)
freeing_book plan slots id me b j more same is out has whole_book s r wide at fits =
    let v : Sight = me.0 in
    let w : Sight = gave v in
    let f = r.each id v at in
    let home_journal : KeptActs = journal_at plan.room r.log in
    let k : Book = ledger_at plan.fields home_journal in
    let held = has_journal home_journal id r.holder v.journal (λ e. absurd (cc (e, out))) f.journal in
    let is_home : j ≡ home_journal = cc (out, held.1) in
    let back : b ≡ k = whole_book ∙ (ap (λ (g : GeometryFields). ledger_at g j) same ∙ ap (ledger_at plan.fields) is_home) in
    let acts : log_of v ≡ r.log = ap acts_out held.1 in
    let home : get_elem? s.homes 0 ≡ some none = r.book ∙ ap (λ (h : Option ℕ). some (home_of h (Ledger k))) held.0 in
    let Put : List (ℕ × Slot) → Homes = put_back s.homes in
    let homes : put_back s.homes me.1 ≡ set s.homes 0 (some (Ledger k)) = ap Put has ∙ ap (λ (z : Book). set s.homes 0 (some (Ledger z))) back in
    let sum = spares_set s.views id v w at in
    let whole = r.sum in (
      w,
      gives,
      tt,
      record {
        log = r.log;
        standings = r.standings;
        holder = None;
        holders = r.holders;
        words = ap (λ (ws : List ℕ). set ws 1 0) r.words;
        wide = ap (λ (hs : Homes). length hs) homes ∙ (length-set s.homes 0 (some (Ledger k)) ∙ r.wide);
        book = ap (λ (hs : Homes). get_elem? hs 0) homes ∙ set_at s.homes 0 none (some (Ledger k)) home;
        cells = λ z h e. ap (λ (hs : Homes). get_elem? hs (suc z)) homes ∙ (set_else s.homes 0 (suc z) (some (Ledger k)) (suc-ne-zero z) ∙ r.cells z h e);
        out_book = tt;
        out_cells = λ z h e. out_set (HasCell z) h s.views id v w at (λ b. b) (r.out_cells z h e);
        sum = omega arith;
        small = r.small;
        each = each_set (Fits plan r.log r.standings None r.holders) s.views id w
            (λ i u ne e. let g = r.each i u e in
            record {
              seen = g.seen;
              heard = g.heard;
              given_back = g.given_back;
              journal = holds_freed home_journal id i r.holder u.journal held.0 ne g.journal;
              cells = g.cells;
              apart = g.apart;
              queue = g.queue;
              main = g.main;
              idle = g.idle;
              note = g.note;
              spent = g.spent;
            })
            record {
              seen = f.seen;
              heard = f.heard;
              given_back = either_prefix v.uncommitted (log_of v) v.given_back_log r.log (subst (λ (l : List Act). IsPrefix l r.log) (sym acts) (prefix_self r.log)) f.given_back;
              journal = λ e. absurd (cc e);
              cells = f.cells;
              apart = f.apart;
              queue = f.queue;
              main = f.main;
              idle = λ ne. absurd (ne is);
              note = λ k. absurd (cc (k, is));
              spent = λ k. absurd (cc (k, is));
            };
        alone = alone_set s.views id v w at (λ q. (q, refl)) r.alone;
        stands = r.stands;
        beyond = r.beyond;
      },
      refl,
    )

-- ---- a cell

zone_by : (y : ℕ) (c : Cell) (cs : List Cell) → y ≢ c.zone → (i : ℕ) (d : Cell) → get_elem? (c ∷ cs) i ≡ some d → d.zone ≡ y → HasZone y cs
zone_by y c cs ne zero d at is = absurd (ne (sym is ∙ ap (λ (x : Cell). x.zone) (sym (some-injective c d at))))
zone_by y c cs ne (suc i) d at is = (i, (d, at, is))

zone_kept : (y : ℕ) (c : Cell) (cs cells : List Cell) → cells ≡ c ∷ cs → y ≢ c.zone → HasZone y cells → HasZone y (others cells)
zone_kept y c cs cells out ne b =
    let there = subst (HasZone y) out b in
    subst (λ (l : List Cell). HasZone y (others l)) (sym out) (zone_by y c cs ne there.0 there.1.0 there.1.1 there.1.2)

pub freeing_zone : (plan : Plan) (slots id : ℕ) (me : Mine) (c : Cell) (cs : List Cell) (more : List (ℕ × Slot)) → me.0.kind ≡ Queue → me.0.cells ≡ c ∷ cs → me.1 ≡ (suc c.zone, Zone c) ∷ more
    → Allows (Rule plan) slots id me (suc (suc c.zone)) (λ _. 0) (λ _. FreesZone (step slots (suc (suc c.zone)) 0 0 none) me 0)
freeing_zone plan slots id me c cs more is out has s r wide at fits =
    let v : Sight = me.0 in
    let w : Sight = without_last v in
    let f = r.each id v at in
    let z : ℕ = c.zone in
    let g : GeometryFields = plan.fields in
    let old : HoldsCells g id r.holders r.log (c ∷ cs) = subst (HoldsCells g id r.holders r.log) out f.cells in
    let apart : Apart (c ∷ cs) = subst Apart out f.apart in
    let held : get_elem? r.holders z ≡ some (Some id) = (old 0 c refl).0 in
    let same : c ≡ zone_at g r.log z = (old 0 c refl).1 in
    let home : get_elem? s.homes (suc z) ≡ some none = r.cells z (Some id) held in
    let holders' : Holders = set r.holders z None in
    let put : Homes = set s.homes (suc z) (some (Zone c)) in
    let Put : List (ℕ × Slot) → Homes = put_back s.homes in
    let homes : put_back s.homes me.1 ≡ put = ap Put has in
    let sum = spares_set s.views id v w at in
    let whole = r.sum in (
      w,
      gives,
      tt,
      record {
        log = r.log;
        standings = r.standings;
        holder = r.holder;
        holders = holders';
        words = ap (λ (ws : List ℕ). set ws (suc (suc z)) 0) r.words ∙ ap (λ (ws : List ℕ). length r.log ∷ word_of r.holder ∷ ws) (sym (map-set word_of r.holders z None));
        wide = ap (λ (hs : Homes). length hs) homes ∙ (length-set s.homes (suc z) (some (Zone c)) ∙ (r.wide ∙ ap suc (sym (length-set r.holders z None))));
        book = ap (λ (hs : Homes). get_elem? hs 0) homes ∙ (set_else s.homes (suc z) 0 (some (Zone c)) (λ e. suc-ne-zero z (sym e)) ∙ r.book);
        cells = λ y h e. ap (λ (hs : Homes). get_elem? hs (suc y)) homes ∙ ⊎_elim
            (λ (t : (y ≡ z) × (None ≡ h)). subst (λ (k : ℕ). get_elem? put (suc k) ≡ some (home_of h (Zone (zone_at g r.log k)))) (sym t.0)
            (subst (λ (x : Option ℕ). get_elem? put (suc z) ≡ some (home_of x (Zone (zone_at g r.log z)))) t.1 (set_at s.homes (suc z) none (some (Zone c)) home ∙ ap (λ (x : Cell). some (some (Zone x))) same)))
            (λ (t : (y ≢ z) × (get_elem? r.holders y ≡ some h)). set_else s.homes (suc z) (suc y) (some (Zone c)) (λ e'. t.0 (omega arith)) ∙ r.cells y h t.1)
            (at_set r.holders z y None h e);
        out_book = out_set HasBook r.holder s.views id v w at (λ b. b) r.out_book;
        out_cells = λ y h e. ⊎_elim
            (λ (t : (y ≡ z) × (None ≡ h)). subst (λ (x : Option ℕ). IsOut (HasCell y) x (set s.views id w)) t.1 tt)
            (λ (t : (y ≢ z) × (get_elem? r.holders y ≡ some h)). out_set (HasCell y) h s.views id v w at (zone_kept y c cs v.cells out t.0) (r.out_cells y h t.1))
            (at_set r.holders z y None h e);
        sum = omega arith;
        small = r.small;
        each = each_set (Fits plan r.log r.standings r.holder holders') s.views id w
            (λ j u ne e. let k = r.each j u e in
            record {
              seen = k.seen;
              heard = k.heard;
              given_back = k.given_back;
              journal = k.journal;
              cells = λ i d e'. let h = k.cells i d e' in
                  (set_else r.holders z d.zone None (λ (l : d.zone ≡ z). ne (cc (at_same r.holders z (Some j) (Some id) (subst (λ (y : ℕ). get_elem? r.holders y ≡ some (Some j)) l h.0) held))) ∙ h.0, h.1);
              apart = k.apart;
              queue = k.queue;
              main = k.main;
              idle = k.idle;
              note = k.note;
              spent = k.spent;
            })
            record {
              seen = f.seen;
              heard = f.heard;
              given_back = f.given_back;
              journal = f.journal;
              cells = subst (λ (l : List Cell). HoldsCells g id holders' r.log (others l)) (sym out)
                  (λ i d e'. let h = old (suc i) d e' in (set_else r.holders z d.zone None (λ (k : d.zone ≡ z). suc-ne-zero i (apart (suc i) 0 d c e' refl k)) ∙ h.0, h.1));
              apart = subst (λ (l : List Cell). Apart (others l)) (sym out) (λ i j a b ea eb k. let n = apart (suc i) (suc j) a b ea eb k in omega arith);
              queue = f.queue;
              main = f.main;
              idle = λ ne. absurd (ne is);
              note = λ k. absurd (cc (k, is));
              spent = λ k. absurd (cc (k, is));
            };
        alone = alone_set s.views id v w at (λ q. (q, refl)) r.alone;
        stands = r.stands;
        beyond = r.beyond;
      },
      refl,
    )
