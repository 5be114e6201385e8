-- A commit keeps the rule.
use Rattle.std.proofs.Common.{◌≡◌, ◌≢◌, ℕ, suc, ◌+◌, ◌%◌, ◌^◌, ◌<◌, List, [], ◌∷◌, ◌++◌, length, map, get_or, set, Option, Some, None, refl, ap, sym, ◌∙◌, subst, arith, length-append, ⊎_elim}
use mathlib.Core.Option.{none, some}
use mathlib.Core.List.{IsPrefix}
use lib.ListN.{get_elem?}
use Rattle.atomic_table.specs.Table.{step, keeps, Allows}
use Rattle.atomic_table.proofs.Lists.{at_map}
use Rattle.zns_types.specs.declared.fields.GeometryFields.{GeometryFields}
use Rattle.zone_cell.specs.Cells.{Cell}
use Rattle.zone_model.specs.declared.act.Act.{Act}
use Rattle.zone_model.specs.Kept.{KeptActs}
use Rattle.zone_model.specs.Sessions.{acts_of}
use Rattle.solo_drive.specs.Parts.{zones_in}
use Rattle.zone_desk.specs.Parts.{zone_at, zones_at, HasZone, Covers, ledger_at, journal_at}
use Rattle.zone_desk.specs.Rules.{word_of, home_of, HoldsBook, HoldsCells, Apart, Stands, Fits, HasBook, HasCell, Rule}
use Rattle.zone_desk.specs.Sights.{acts_out, log_of, journal_after, committed}
use Rattle.zone_desk.specs.Plays.{Mine, Commits}
use Rattle.zone_desk.specs.declared.plan.Plan.{Plan}
use Rattle.zone_desk.specs.declared.slot.Slot.TheVariants.{Ledger, Zone}
use Rattle.zone_desk.specs.declared.sight.Kind.TheVariants.{Queue}
use Rattle.zone_desk.specs.declared.sight.Standing.{Standing}
use Rattle.zone_desk.specs.declared.sight.Standing.TheVariants.{Free, Live, Joined}
use Rattle.zone_desk.specs.declared.sight.Sight.{Sight}
use Rattle.zone_desk.proofs.Lists.{prefix_self, prefix_more, acts_of-own, acts_of-other}
use Rattle.zone_desk.proofs.Parts.{at-zone, journal-more}
use Rattle.zone_desk.proofs.Views.{at_within, at_same, each_set, spares_set, spare_le, alone_set, out_new, out_set, map_back}
use Rattle.zone_desk.proofs.Keeps.{Homes, Holders}

-- ---- the book

-- a seat that has a journal holds the book's word, and it is the desk's
pub has_journal : (j : KeptActs) (id : ℕ) (holder : Option ℕ) (o : Option KeptActs) → o ≢ None → HoldsBook id holder j o → (holder ≡ Some id) × (o ≡ Some j)
has_journal j id holder None has h = absurd (has refl)
has_journal j id holder (Some p) has h = (h.0, ap (λ (x : KeptActs). Some x) h.1)

holds_other : (j j' : KeptActs) (id other : ℕ) (holder : Option ℕ) (o : Option KeptActs) → holder ≡ Some id → other ≢ id → HoldsBook other holder j o → HoldsBook other (Some id) j' o
holds_other j j' id other holder None is ne h = λ e. ne (cc e)
holds_other j j' id other holder (Some p) is ne h = absurd (ne (cc (is, h.0)))

stands_more : (log : List Act) (standings : List Standing) (a : Act) → get_elem? standings a.queue ≡ some Live → (q : ℕ) (x : Standing) → get_elem? standings q ≡ some x → Stands log q x → Stands (log ++ a ∷ []) q x
stands_more log standings a live q Free at h = acts_of-other q log a (λ (e : a.queue ≡ q). cc (at_same standings q Live Free (subst (λ (z : ℕ). get_elem? standings z ≡ some Live) e live) at)) ∙ h
stands_more log standings a live q Live at h = tt
stands_more log standings a live q (Joined own seen) at h =
    (acts_of-other q log a (λ (e : a.queue ≡ q). cc (at_same standings q Live (Joined own seen) (subst (λ (z : ℕ). get_elem? standings z ≡ some Live) e live) at)) ∙ h.0, prefix_more seen log (a ∷ []) h.1)

-- ---- the cells

-- a zone whose word the committing seat doesn't hold is unchanged
abbrev Untouched : GeometryFields → Holders → ℕ → List Act → Act → Type 0
Untouched g holders id log a = (z : ℕ) (h : Option ℕ) → get_elem? holders z ≡ some h → h ≢ Some id → zone_at g (log ++ a ∷ []) z ≡ zone_at g log z

home_after : (g : GeometryFields) (homes : Homes) (holders : Holders) (id : ℕ) (log : List Act) (a : Act) (z : ℕ) (h : Option ℕ) → Untouched g holders id log a → get_elem? holders z ≡ some h
    → get_elem? homes (suc z) ≡ some (home_of h (Zone (zone_at g log z))) → get_elem? homes (suc z) ≡ some (home_of h (Zone (zone_at g (log ++ a ∷ []) z)))
home_after g homes holders id log a z None still at home = home ∙ ap (λ (c : Cell). some (some (Zone c))) (sym (still z None at (λ e. cc e)))
home_after g homes holders id log a z (Some j) still at home = home

-- each of the cells after these acts is of a zone that had one there before
record Remade (g : GeometryFields) (log : List Act) (cells : List Cell) (i : ℕ) (c : Cell) : Type 0 where
  old : Cell
  at : get_elem? cells i ≡ some old
  is : zone_at g log old.zone ≡ c
  zone : c.zone ≡ old.zone

remade : (g : GeometryFields) (log : List Act) (cells : List Cell) (i : ℕ) (c : Cell) → get_elem? (zones_at g log (zones_in cells)) i ≡ some c → Remade g log cells i c
remade g log cells i c e =
    let s = map_back (zone_at g log) (zones_in cells) i c e in
    let t = map_back (λ (x : Cell). x.zone) cells i s.0 s.1.0 in
    let is : zone_at g log t.0.zone ≡ c = ap (zone_at g log) t.1.1 ∙ s.1.1 in
    record { old = t.0; at = t.1.0; is = is; zone = sym (ap (λ (x : Cell). x.zone) is) ∙ at-zone g log t.0.zone }

cells_remade : (g : GeometryFields) (id : ℕ) (holders : Holders) (log log' : List Act) (cells : List Cell) → HoldsCells g id holders log cells → HoldsCells g id holders log' (zones_at g log' (zones_in cells))
cells_remade g id holders log log' cells old i c e =
    let t = remade g log' cells i c e in
    (ap (get_elem? holders) t.zone ∙ (old i t.old t.at).0, sym t.is ∙ ap (zone_at g log') (sym t.zone))

apart_remade : (g : GeometryFields) (log : List Act) (cells : List Cell) → Apart cells → Apart (zones_at g log (zones_in cells))
apart_remade g log cells old i j a b ea eb same =
    let s = remade g log cells i a ea in
    let t = remade g log cells j b eb in
    old i j s.old t.old s.at t.at (sym s.zone ∙ (same ∙ t.zone))

zone_held : (g : GeometryFields) (id : ℕ) (holders : Holders) (log : List Act) (cells : List Cell) (z : ℕ) → HoldsCells g id holders log cells → HasZone z cells → get_elem? holders z ≡ some (Some id)
zone_held g id holders log cells z old has = subst (λ (y : ℕ). get_elem? holders y ≡ some (Some id)) has.1.2 (old has.0 has.1.0 has.1.1).0

pub zone_remade : (g : GeometryFields) (log : List Act) (z : ℕ) (cells : List Cell) → HasZone z cells → HasZone z (zones_at g log (zones_in cells))
zone_remade g log z cells b =
    let c : Cell = b.1.0 in
    (b.0, (zone_at g log c.zone, at_map (zone_at g log) (zones_in cells) b.0 c.zone (at_map (λ (x : Cell). x.zone) cells b.0 c b.1.1), at-zone g log c.zone ∙ b.1.2))

untouched : (g : GeometryFields) (holders : Holders) (id : ℕ) (log : List Act) (a : Act) (cells : List Cell) → length holders ≡ g.zones → HoldsCells g id holders log cells → Covers g log a cells → Untouched g holders id log a
untouched g holders id log a cells count held covers z h at ne =
    let near = at_within holders z h at in
    ⊎_elim (λ (has : HasZone z cells). absurd (ne (at_same holders z h (Some id) at (zone_held g id holders log cells z held has)))) (λ (same : zone_at g (log ++ a ∷ []) z ≡ zone_at g log z). same) (covers z (omega arith))

-- ---- the step

pub committing : (slots id room : ℕ) (me : Mine) (a : Act) → slots ≡ me.0.geometry.zones + 1 → me.0.kind ≡ Queue → a.queue ≡ me.0.queue → 0 < me.0.spare → me.0.journal ≢ None → Covers me.0.geometry (log_of me.0) a me.0.cells
    → Allows (Rule record { fields = me.0.geometry; room = room }) slots id me 0 (λ n. (n + 1) % 2 ^ 64) (Commits a (step slots 0 1 0 none) me)
committing slots id room me a places is mine some_spare some_journal covers s r wide at fits =
    let g : GeometryFields = me.0.geometry in
    let plan : Plan = record { fields = g; room = room } in
    let v : Sight = me.0 in
    let w : Sight = committed v a in
    let log' : List Act = r.log ++ a ∷ [] in
    let f = r.each id v at in
    let q = f.queue is in
    let has = has_journal (journal_at room r.log) id r.holder v.journal some_journal f.journal in
    let long = r.wide in
    let still = untouched g r.holders id r.log a v.cells (omega arith) f.cells (subst (λ (o : Option KeptActs). Covers g (acts_out o) a v.cells) has.1 covers) in
    let sum = spares_set s.views id v w at in
    let most = spare_le s.views id v at in
    let whole = r.sum in
    let little = r.small in
    let x : ℕ = get_or s.words 0 0 in
    let found : x ≡ length r.log = ap (λ (ws : List ℕ). get_or ws 0 0) r.words in
    let more : length log' ≡ length r.log + 1 = length-append r.log (a ∷ []) in
    let next : (x + 1) % 2 ^ 64 ≡ length log' = omega arith in
    let live : get_elem? r.standings a.queue ≡ some Live = subst (λ (z : ℕ). get_elem? r.standings z ≡ some Live) (sym mine) q.0 in
    let word : word_of r.holder ≡ 1 = ap word_of has.0 in
    let after : journal_after v.journal a ≡ Some (journal_at room log') = ap (λ (o : Option KeptActs). journal_after o a) has.1 ∙ ap (λ (x : KeptActs). Some x) (journal-more room r.log a) in (
      w,
      keeps,
      tt,
      record {
        log = log';
        standings = r.standings;
        holder = Some id;
        holders = r.holders;
        words = ap (λ (ws : List ℕ). set ws 0 ((x + 1) % 2 ^ 64)) r.words ∙ (λ i. next i ∷ word i ∷ map word_of r.holders);
        wide = r.wide;
        book = r.book ∙ ap (λ (h : Option ℕ). some (home_of h (Ledger (ledger_at g (journal_at room r.log))))) has.0;
        cells = λ z h e. home_after g s.homes r.holders id r.log a z h still e (r.cells z h e);
        out_book = out_new HasBook s.views id v w at (λ e. absurd (cc (sym after ∙ e)));
        out_cells = λ z h e. out_set (HasCell z) h s.views id v w at (zone_remade g (log_of v ++ a ∷ []) z v.cells) (r.out_cells z h e);
        sum = omega arith;
        small = r.small;
        each = each_set (Fits plan log' r.standings (Some id) r.holders) s.views id w
            (λ i u ne e. let k = r.each i u e in
            record {
              seen = prefix_more u.seen r.log (a ∷ []) k.seen;
              heard = prefix_more u.heard r.log (a ∷ []) k.heard;
              given_back = prefix_more u.given_back_log r.log (a ∷ []) k.given_back;
              journal = holds_other (journal_at room r.log) (journal_at room log') id i r.holder u.journal has.0 ne k.journal;
              cells = λ n c e'. let h = k.cells n c e' in (h.0, h.1 ∙ sym (still c.zone (Some i) h.0 (λ y. ne (cc y))));
              apart = k.apart;
              queue = λ y. let x = k.queue y in
                  (x.0, acts_of-other u.queue r.log a (λ (same : a.queue ≡ u.queue). ne (sym (r.alone id i v u at e is y (sym mine ∙ same)))) ∙ x.1, x.2);
              main = k.main;
              idle = k.idle;
              note = k.note;
              spent = k.spent;
            })
            record {
              seen = subst (λ (o : Option KeptActs). IsPrefix (acts_out o ++ a ∷ []) log') (sym has.1) (prefix_self log');
              heard = prefix_more v.heard r.log (a ∷ []) f.heard;
              given_back = prefix_more v.given_back_log r.log (a ∷ []) f.given_back;
              journal = subst (HoldsBook id (Some id) (journal_at room log')) (sym after) (refl, refl);
              cells = subst (λ (o : Option KeptActs). HoldsCells g id r.holders log' (zones_at g (acts_out o ++ a ∷ []) (zones_in v.cells))) (sym has.1) (cells_remade g id r.holders r.log log' v.cells f.cells);
              apart = apart_remade g (log_of v ++ a ∷ []) v.cells f.apart;
              queue = λ k. (
                q.0,
                acts_of-own v.queue r.log a mine ∙ ap (λ (z : List Act). z ++ a ∷ []) q.1,
                ap (λ (o : Option KeptActs). acts_of v.queue (acts_out o ++ a ∷ [])) has.1 ∙ (acts_of-own v.queue r.log a mine ∙ ap (λ (z : List Act). z ++ a ∷ []) q.1),
              );
              main = λ k. absurd (cc (k, is));
              idle = λ ne. absurd (ne is);
              note = λ k. absurd (cc (k, is));
              spent = λ k. absurd (cc (k, is));
            };
        alone = alone_set s.views id v w at (λ k. (k, refl)) r.alone;
        stands = λ z y e. stands_more r.log r.standings a live z y e (r.stands z y e);
        beyond = λ z far. acts_of-other z r.log a (λ (e : a.queue ≡ z). let near = at_within r.standings a.queue Live live in absurd (omega arith)) ∙ r.beyond z far;
      },
      refl,
    )
