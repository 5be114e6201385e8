-- The rule holds for a new desk, and making or joining a pass keeps it.
use Rattle.std.proofs.Common.{◌≡◌, ◌≢◌, ℕ, zero, suc, ◌+◌, ◌-◌, ◌^◌, ◌<◌, ◌≤◌, true, false, cond, leb, List, [], ◌∷◌, length, map, set, replicate, Option, Some, None, refl, ap, sym, ◌∙◌, subst, arith, length-set, ⊎_elim}
use Rattle.std.specs.List.{range_with_len}
use mathlib.Core.Option.{some, some-injective, some-ne-none}
use mathlib.Core.List.{IsPrefix}
use lib.ListN.{get_elem?, length-map}
use Rattle.atomic_table.specs.Table.{State, opening, Splits, Joins}
use Rattle.atomic_table.proofs.Lists.{at_set, set_else, at_map}
use Rattle.zns_types.specs.declared.fields.GeometryFields.{GeometryFields}
use Rattle.zone_cell.specs.Cells.{Cell}
use Rattle.zone_model.specs.Zones.{zones}
use Rattle.zone_model.specs.declared.act.Act.{Act}
use Rattle.zone_model.specs.Kept.{KeptActs}
use Rattle.zone_model.specs.Sessions.{acts_of}
use Rattle.zone_desk.specs.Parts.{zone_at, zones_at, ledger_at, journal_at}
use Rattle.zone_desk.specs.Rules.{word_of, home_of, HoldsBook, Stands, Fits, IsOut, HasBook, HasCell, Rule}
use Rattle.zone_desk.specs.Sights.{first_sight, queue_sight, spent_sight, made, longer, joined}
use Rattle.zone_desk.specs.declared.plan.Plan.{Plan}
use Rattle.zone_desk.specs.declared.slot.Slot.{Slot}
use Rattle.zone_desk.specs.declared.slot.Slot.TheVariants.{Ledger, Zone}
use Rattle.zone_desk.specs.declared.sight.Kind.TheVariants.{Main, Queue}
use Rattle.zone_desk.specs.declared.sight.Standing.{Standing}
use Rattle.zone_desk.specs.declared.sight.Standing.TheVariants.{Free, Live, Joined}
use Rattle.zone_desk.specs.declared.sight.Sight.{Sight}
use Rattle.zone_desk.proofs.Lists.{acts_of-none}
use Rattle.zone_desk.proofs.Views.{at_same, set_at, each_set, each_end, spares_set, spares_end, alone_set, alone_end, out_set, out_end, out_within}

abbrev St : Type 0
St = State Slot Sight

pub no_cells : (P : ℕ → Cell → Type 0) (i : ℕ) (c : Cell) → get_elem? [] i ≡ some c → P i c
no_cells P i c e = absurd (some-ne-none c (sym e))

pub no_zone : (v : Sight) {z : ℕ} {B : Type 0} → v.cells ≡ [] → HasCell z v → B
no_zone v e b = absurd (some-ne-none b.1.0 (sym (subst (λ (l : List Cell). get_elem? l b.0 ≡ some b.1.0) e b.1.1)))

-- ---- a new desk

all_free : (n q : ℕ) (x : Standing) → get_elem? (replicate n Free) q ≡ some x → Free ≡ x
all_free zero q x e = absurd (some-ne-none x (sym e))
all_free (suc n) zero x e = some-injective Free x e
all_free (suc n) (suc q) x e = all_free n q x e

one_only : (v u : Sight) (j : ℕ) → get_elem? (v ∷ []) j ≡ some u → (j ≡ 0) × (v ≡ u)
one_only v u zero e = (refl, some-injective v u e)
one_only v u (suc j) e = absurd (some-ne-none u (sym e))

none_held : (n z : ℕ) (h : Option ℕ) → get_elem? (replicate n None) z ≡ some h → (None ≡ h) × (z < n)
none_held zero z h e = absurd (some-ne-none h (sym e))
none_held (suc n) zero h e = (some-injective None h e, omega arith)
none_held (suc n) (suc z) h e = let r = none_held n z h e in (r.0, let k = r.1 in omega arith)

free_words : (n : ℕ) → replicate n 0 ≡ map word_of (replicate n None)
free_words zero = refl
free_words (suc n) = ap (λ l. 0 ∷ l) (free_words n)

abbrev nobody : Option ℕ
nobody = None

length-nobody : (n : ℕ) → length (replicate n nobody) ≡ n
length-nobody zero = refl
length-nobody (suc n) = ap suc (length-nobody n)

range_at : (from n z : ℕ) → z < n → get_elem? (range_with_len from n) z ≡ some (from + z)
range_at from zero z h = absurd (omega arith)
range_at from (suc n) zero h = ap some (omega arith)
range_at from (suc n) (suc z) h = range_at (from + 1) n z (omega arith) ∙ ap some (omega arith)

-- the places of the cells of a new drive
abbrev pub cell_places : GeometryFields → List Slot
cell_places g = map (λ c. Zone c) (zones_at g [] (zones g))

pub length-places : (g : GeometryFields) → length (cell_places g) ≡ g.zones
length-places g = length-map (zones_at g [] (zones g)) (λ c. Zone c) ∙ (length-map (zones g) (zone_at g []) ∙ length-range g.zones 0)
  where
    length-range : (n from : ℕ) → length (range_with_len from n) ≡ n
    length-range zero from = refl
    length-range (suc n) from = ap suc (length-range n (from + 1))

place_at : (g : GeometryFields) (z : ℕ) → z < g.zones → get_elem? (cell_places g) z ≡ some (Zone (zone_at g [] z))
place_at g z lt = at_map (λ (c : Cell). Zone c) (zones_at g [] (zones g)) z (zone_at g [] z) (at_map (zone_at g []) (zones g) z z (range_at 0 g.zones z lt ∙ ap some (omega arith)))

pub opens : (plan : Plan) (j : KeptActs) → j ≡ record { acts = []; spare = plan.room } → plan.room < 2 ^ 32
    → Rule plan (opening (0 ∷ 0 ∷ replicate plan.fields.zones 0) (Ledger (ledger_at plan.fields j) ∷ cell_places plan.fields) (first_sight plan))
opens plan j is little =
    let v : Sight = first_sight plan in
    let g : GeometryFields = plan.fields in
    let queues : ℕ = g.queues in
    let holders : List (Option ℕ) = replicate g.zones None in
    let none_yet : j ≡ journal_at plan.room [] = is ∙ (λ i. record { acts = []; spare = (let all : plan.room ≡ plan.room - 0 = omega arith in all) i }) in
    record {
      log = [];
      standings = replicate queues Free;
      holder = None;
      holders = holders;
      words = ap (λ l. 0 ∷ 0 ∷ l) (free_words g.zones);
      wide = ap suc (length-map (cell_places g) some ∙ (length-places g ∙ sym (length-nobody g.zones)));
      book = ap (λ (x : KeptActs). some (some (Ledger (ledger_at g x)))) none_yet;
      cells = λ z h e. let n = none_held g.zones z h e in
          subst (λ (k : Option ℕ). get_elem? (map some (cell_places g)) z ≡ some (home_of k (Zone (zone_at g [] z)))) n.0
          (at_map some (cell_places g) z (Zone (zone_at g [] z)) (place_at g z n.1));
      out_book = tt;
      out_cells = λ z h e. subst (λ (k : Option ℕ). IsOut (HasCell z) k (v ∷ [])) (none_held g.zones z h e).0 tt;
      sum = omega arith;
      small = little;
      each = λ i u e. let one = one_only v u i e in
          subst (Fits plan [] (replicate queues Free) None holders i) one.1
          record {
            seen = ([], refl);
            heard = ([], refl);
            given_back = ([], refl);
            journal = λ h. absurd (cc h);
            cells = no_cells _;
            apart = λ i k a b ea eb s. absurd (some-ne-none a (sym ea));
            queue = λ k. absurd (cc k);
            main = λ _. (one.0, refl);
            idle = λ _. (refl, refl);
            note = λ k. absurd (cc k);
            spent = λ k. absurd (cc k);
          };
      alone = λ i k a b ea eb ka kb q. (one_only v a i ea).0 ∙ sym (one_only v b k eb).0;
      stands = λ q x e. subst (Stands [] q) (all_free queues q x e) refl;
      beyond = λ q far. refl;
    }

-- ---- a pass is made

stands_set : (log : List Act) (standings : List Standing) (q : ℕ) (y : Standing) → Stands log q y → ((k : ℕ) (x : Standing) → get_elem? standings k ≡ some x → Stands log k x)
    → (k : ℕ) (x : Standing) → get_elem? (set standings q y) k ≡ some x → Stands log k x
stands_set log standings q y new old k x e =
    ⊎_elim (λ (t : (k ≡ q) × (y ≡ x)). subst (λ (z : ℕ). Stands log z x) (sym t.0) (subst (Stands log q) t.1 new)) (λ (t : (k ≢ q) × (get_elem? standings k ≡ some x)). old k x t.1) (at_set standings q k y x e)

-- a seat without a journal does not hold the book's word
pub no_book : (plan : Plan) (log : List Act) (standings : List Standing) (holder : Option ℕ) (holders : List (Option ℕ)) (id : ℕ) (v : Sight) → Fits plan log standings holder holders id v → v.journal ≡ None → holder ≢ Some id
no_book plan log standings holder holders id v f none = subst (HoldsBook id holder (journal_at plan.room log)) none f.journal

pub making : (plan : Plan) (id : ℕ) (v : Sight) (q n : ℕ) → v.kind ≡ Main → get_elem? v.standings q ≡ some Free → n ≤ v.spare → Splits (Rule plan) id v (made v q n) (queue_sight v.geometry q v.seen n)
making plan id v q n is free enough s r at =
    let f = r.each id v at in
    let main = f.main is in
    let idle = f.idle (λ k. cc (k, is)) in
    let here : get_elem? r.standings q ≡ some Free = ap (λ (z : List Standing). get_elem? z q) (sym main.1) ∙ free in
    let empty : acts_of q r.log ≡ [] = r.stands q Free here in
    let standings' : List Standing = set r.standings q Live in
    let left : Sight = made v q n in
    let right : Sight = queue_sight v.geometry q v.seen n in
    let views' : List Sight = set s.views id left in
    let not_here = no_book plan r.log r.standings r.holder r.holders id v f idle.0 in
    let out' = out_set HasBook r.holder s.views id v left at (λ b. absurd (b idle.0)) r.out_book in
    let sum = spares_set s.views id v left at in
    let sum' = spares_end views' right in
    let whole = r.sum in
    let other : (i : ℕ) (u : Sight) → get_elem? s.views i ≡ some u → u.kind ≡ Queue → u.queue ≢ q
    = λ i u e k same. let g = (r.each i u e).queue k in cc (at_same r.standings q Live Free (subst (λ (z : ℕ). get_elem? r.standings z ≡ some Live) same g.0) here) in
    record {
      log = r.log;
      standings = standings';
      holder = r.holder;
      holders = r.holders;
      words = r.words;
      wide = r.wide;
      book = r.book;
      cells = r.cells;
      out_book = out_end HasBook r.holder views' right out';
      out_cells = λ z h e. out_end (HasCell z) h views' right (out_set (HasCell z) h s.views id v left at (λ b. no_zone v idle.1 b) (r.out_cells z h e));
      sum = omega arith;
      small = r.small;
      each = each_end (Fits plan r.log standings' r.holder r.holders) views' right
          (each_set (Fits plan r.log standings' r.holder r.holders) s.views id left
          (λ i u ne e. let g = r.each i u e in
          record {
            seen = g.seen;
            heard = g.heard;
            given_back = g.given_back;
            journal = g.journal;
            cells = g.cells;
            apart = g.apart;
            queue = λ k. let y = g.queue k in (set_else r.standings q u.queue Live (other i u e k) ∙ y.0, y.1, y.2);
            main = λ k. absurd (ne ((g.main k).0 ∙ sym main.0));
            idle = g.idle;
            note = g.note;
            spent = g.spent;
          })
          record {
            seen = f.seen;
            heard = (r.log, refl);
            given_back = (r.log, refl);
            journal = not_here;
            cells = no_cells _;
            apart = λ i j a b ea eb k. absurd (some-ne-none a (sym ea));
            queue = λ k. absurd (cc k);
            main = λ _. (main.0, ap (λ (z : List Standing). set z q Live) main.1);
            idle = λ _. (refl, refl);
            note = λ k. absurd (cc k);
            spent = λ k. absurd (cc k);
          })
          record {
            seen = f.seen;
            heard = (r.log, refl);
            given_back = (r.log, refl);
            journal = out_within HasBook r.holder views' out';
            cells = no_cells _;
            apart = λ i j a b ea eb k. absurd (some-ne-none a (sym ea));
            queue = λ _. (set_at r.standings q Free Live here, empty, acts_of-none q v.seen r.log f.seen empty);
            main = λ k. absurd (cc k);
            idle = λ _. (refl, refl);
            note = λ k. absurd (cc k);
            spent = λ k. absurd (cc k);
          };
      alone = alone_end views' right
          (λ i u e k _. ⊎_elim (λ (t : (i ≡ id) × (left ≡ u)). absurd (cc (ap (λ (x : Sight). x.kind) t.1, k))) (λ (t : (i ≢ id) × (get_elem? s.views i ≡ some u)). other i u t.1 k) (at_set s.views id i left u e))
          (alone_set s.views id v left at (λ k. absurd (cc k)) r.alone);
      stands = stands_set r.log r.standings q Live tt r.stands;
      beyond = λ k far. r.beyond k (omega (arith, length-set r.standings q Live));
    }

-- ---- a pass is joined

pub longer_either : (xs ys log : List Act) → IsPrefix xs log → IsPrefix ys log → IsPrefix (longer xs ys) log
longer_either xs ys log p q = elim (leb (length xs) (length ys)) as (λ b. IsPrefix (cond b ys xs) log) [ true ↦ q | false ↦ p ]

pub absorbing : (plan : Plan) (id : ℕ) (v : Sight) (other : ℕ) (w : Sight) → v.kind ≡ Main → w.kind ≡ Queue → w.journal ≡ None → w.cells ≡ [] → Joins (Rule plan) id v other w (joined v w) spent_sight
absorbing plan id v other w is wis none_there no_cell s r at ne there' =
    let both : Sight = joined v w in
    let gone : Sight = spent_sight in
    let y : Standing = Joined w.own w.seen in
    let views' : List Sight = set s.views id both in
    let there : get_elem? s.views other ≡ some w = sym (set_else s.views id other both ne) ∙ there' in
    let f = r.each id v at in
    let h = r.each other w there in
    let main = f.main is in
    let queue = h.queue wis in
    let idle = f.idle (λ k. cc (k, is)) in
    let standings' : List Standing = set r.standings w.queue y in
    let not_here = no_book plan r.log r.standings r.holder r.holders id v f idle.0 in
    let not_there = no_book plan r.log r.standings r.holder r.holders other w h none_there in
    let sum = spares_set s.views id v both at in
    let sum' = spares_set views' other w gone there' in
    let whole = r.sum in
    record {
      log = r.log;
      standings = standings';
      holder = r.holder;
      holders = r.holders;
      words = r.words;
      wide = r.wide;
      book = r.book;
      cells = r.cells;
      out_book = out_set HasBook r.holder views' other w gone there' (λ b. absurd (b none_there)) (out_set HasBook r.holder s.views id v both at (λ b. absurd (b idle.0)) r.out_book);
      out_cells = λ z k e. out_set (HasCell z) k views' other w gone there' (λ b. no_zone w no_cell b) (out_set (HasCell z) k s.views id v both at (λ b. no_zone v idle.1 b) (r.out_cells z k e));
      sum = omega arith;
      small = r.small;
      each = each_set (Fits plan r.log standings' r.holder r.holders) views' other gone
          (λ i u nei e. ⊎_elim
          (λ (t : (i ≡ id) × (both ≡ u)). subst (λ (z : ℕ). Fits plan r.log standings' r.holder r.holders z u) (sym t.0) (subst (Fits plan r.log standings' r.holder r.holders id) t.1
          record {
            seen = longer_either v.seen w.seen r.log f.seen h.seen;
            heard = (r.log, refl);
            given_back = (r.log, refl);
            journal = not_here;
            cells = no_cells _;
            apart = λ i j a b ea eb k. absurd (some-ne-none a (sym ea));
            queue = λ k. absurd (cc k);
            main = λ _. (main.0, ap (λ (z : List Standing). set z w.queue y) main.1);
            idle = λ _. (refl, refl);
            note = λ k. absurd (cc k);
            spent = λ k. absurd (cc k);
          }))
          (λ (t : (i ≢ id) × (get_elem? s.views i ≡ some u)). let g = r.each i u t.1 in
          record {
            seen = g.seen;
            heard = g.heard;
            given_back = g.given_back;
            journal = g.journal;
            cells = g.cells;
            apart = g.apart;
            queue = λ k. let m = g.queue k in
                (set_else r.standings w.queue u.queue y (λ (same : u.queue ≡ w.queue). nei (r.alone i other u w t.1 there k wis same)) ∙ m.0, m.1, m.2);
            main = λ k. absurd (t.0 ((g.main k).0 ∙ sym main.0));
            idle = g.idle;
            note = g.note;
            spent = g.spent;
          })
          (at_set s.views id i both u e))
          record {
            seen = (r.log, refl);
            heard = (r.log, refl);
            given_back = (r.log, refl);
            journal = not_there;
            cells = no_cells _;
            apart = λ i j a b ea eb k. absurd (some-ne-none a (sym ea));
            queue = λ k. absurd (cc k);
            main = λ k. absurd (cc k);
            idle = λ _. (refl, refl);
            note = λ k. absurd (cc k);
            spent = λ _. refl;
          };
      alone = alone_set views' other w gone there' (λ k. absurd (cc k)) (alone_set s.views id v both at (λ k. absurd (cc k)) r.alone);
      stands = stands_set r.log r.standings w.queue y (queue.1, h.seen) r.stands;
      beyond = λ k far. r.beyond k (omega (arith, length-set r.standings w.queue y));
    }
