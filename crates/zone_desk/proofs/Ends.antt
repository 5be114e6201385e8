-- Closing a desk.
use Rattle.std.proofs.Common.{◌≡◌, ◌≢◌, ℕ, zero, suc, ◌+◌, ◌≤◌, List, [], ◌∷◌, ◌++◌, length, Option, Some, None, refl, ap, sym, ◌∙◌, subst, arith, add-zero, append-nil, ⊎_elim}
use mathlib.Core.Option.{none, some, some-injective, some-ne-none}
use mathlib.Core.Option as maybe
use lib.ListN.{get_elem?}
use Rattle.atomic_table.specs.Table.{State, Final, Seen}
use Rattle.atomic_table.proofs.Lists.{at_set, set_else}
use Rattle.drive_book.specs.declared.book.Book.{Book}
use Rattle.zone_model.specs.Kept.{KeptActs}
use Rattle.zone_model.specs.Sessions.{acts_of}
use Rattle.zns_types.specs.declared.fields.GeometryFields.{GeometryFields}
use Rattle.zone_desk.specs.Parts.{zone_at, ledger_at, journal_at}
use Rattle.zone_desk.specs.Rules.{home_of, IsOut, HasBook, HasCell, spares, Rule}
use Rattle.zone_desk.specs.Sights.{joined}
use Rattle.zone_desk.specs.Passes.{Pass, absorbed, spare_of, Distinct, AllLive, Exactly, NoneJoined, NoneLive, HaveKnown, NoOthers, Ends, AreShelved}
use Rattle.zone_desk.specs.declared.plan.Plan.{Plan}
use Rattle.zone_desk.specs.declared.slot.Slot.{Slot}
use Rattle.zone_desk.specs.declared.slot.Slot.TheVariants.{Ledger, Zone}
use Rattle.zone_desk.specs.declared.sight.Kind.{Kind}
use Rattle.zone_desk.specs.declared.sight.Kind.TheVariants.{Main, Queue, Note, Spent}
use Rattle.zone_desk.specs.declared.sight.Standing.{Standing}
use Rattle.zone_desk.specs.declared.sight.Standing.TheVariants.{Free, Live, Joined}
use Rattle.zone_desk.specs.declared.sight.Sight.{Sight}
use Rattle.zone_desk.proofs.Views.{set_at, at_some}
use Rattle.zone_desk.proofs.Seats.{no_zone}

abbrev St : Type 0
St = State Slot Sight

-- ---- once no queue has a pass

spares_none : (l : List Sight) → ((j : ℕ) (u : Sight) → get_elem? l j ≡ some u → u.spare ≡ 0) → spares l ≡ 0
spares_none [] h = refl
spares_none (x ∷ xs) h = let a = h 0 x refl in let b = spares_none xs (λ j u e. h (suc j) u e) in omega arith

spares_one : (l : List Sight) (i : ℕ) (v : Sight) → get_elem? l i ≡ some v → ((j : ℕ) (u : Sight) → j ≢ i → get_elem? l j ≡ some u → u.spare ≡ 0) → spares l ≡ v.spare
spares_one [] i v e h = absurd (some-ne-none v (sym e))
spares_one (x ∷ xs) zero v e h =
    let is : x.spare ≡ v.spare = ap (λ (m : Sight). m.spare) (some-injective x v e) in
    let b = spares_none xs (λ j u e'. h (suc j) u (λ n. absurd (omega arith)) e') in omega arith
spares_one (x ∷ xs) (suc i) v e h =
    let a = h 0 x (λ n. absurd (omega arith)) refl in
    let b = spares_one xs i v e (λ j u ne e'. h (suc j) u (λ n. ne (omega arith)) e') in omega arith

-- every seat is idle
idle_at : (plan : Plan) (s : St) (r : Rule plan s) → NoneLive r.standings → (id : ℕ) (v : Sight) → get_elem? s.views id ≡ some v → (v.journal ≡ None) × (v.cells ≡ [])
idle_at plan s r empty id v at = let f = r.each id v at in f.idle (λ q. empty v.queue (f.queue q).0)

-- no seat holds a word
no_book : (plan : Plan) (s : St) (r : Rule plan s) → NoneLive r.standings → (h : Option ℕ) → IsOut HasBook h s.views → h ≡ None
no_book plan s r empty None out = refl
no_book plan s r empty (Some k) out = absurd (out.2 (idle_at plan s r empty k out.0 out.1).0)

no_cell : (plan : Plan) (s : St) (r : Rule plan s) → NoneLive r.standings → (z : ℕ) (h : Option ℕ) → IsOut (HasCell z) h s.views → h ≡ None
no_cell plan s r empty z None out = refl
no_cell plan s r empty z (Some k) out = no_zone out.0 (idle_at plan s r empty k out.0 out.1).1 out.2

-- no seat other than the main one has room
no_room : (plan : Plan) (s : St) (r : Rule plan s) (id : ℕ) → id ≡ 0 → NoneLive r.standings → (j : ℕ) (u : Sight) → j ≢ id → get_elem? s.views j ≡ some u → (k : Kind) → u.kind ≡ k → u.spare ≡ 0
no_room plan s r id first empty j u ne e Main k = absurd (ne (((r.each j u e).main k).0 ∙ sym first))
no_room plan s r id first empty j u ne e Queue k = absurd (empty u.queue ((r.each j u e).queue k).0)
no_room plan s r id first empty j u ne e Note k = (r.each j u e).note k
no_room plan s r id first empty j u ne e Spent k = (r.each j u e).spent k

-- all parts are at home, and are those of one journal
pub record Closes (g : GeometryFields) (v : Sight) (xs : List Slot) : Type 0 where
  pub journal : KeptActs
  pub book : get_elem? xs 0 ≡ some (Ledger (ledger_at g journal))
  pub cells : AreShelved g journal.acts xs g.zones
  pub ends : Ends v journal

pub ends : (plan : Plan) (id : ℕ) (v : Sight) (ws : List ℕ) (xs : List Slot) → v.kind ≡ Main → NoneLive v.standings → Final (Seen (Rule plan) id v) ws xs → length xs ≡ suc plan.fields.zones → Closes plan.fields v xs
ends plan id v ws xs is empty fin long =
    let s = fin.0 in
    let r = fin.1.0 in
    let at = fin.1.1 in
    let f = r.each id v at in
    let main = f.main is in
    let g : GeometryFields = plan.fields in
    let empty' : NoneLive r.standings = subst NoneLive main.1 empty in
    let j : KeptActs = journal_at plan.room r.log in
    let b : Book = ledger_at g j in
    let home : get_elem? s.homes 0 ≡ some (some (Ledger b)) = r.book ∙ ap (λ (h : Option ℕ). some (home_of h (Ledger b))) (no_book plan s r empty' r.holder r.out_book) in
    let alone = spares_one s.views id v at (λ i u ne e. no_room plan s r id main.0 empty' i u ne e u.kind refl) in
    let whole = r.sum in
    let little = r.small in
    let wide = r.wide in
    let same : length s.homes ≡ length xs = fin.3 in
    let count : length r.holders ≡ g.zones = omega arith in
    record {
      journal = j;
      book = fin.4 0 (Ledger b) home;
      cells = λ z lt. let there = at_some r.holders z (omega arith) in
          fin.4 (suc z) (Zone (zone_at g r.log z))
          (r.cells z there.0 there.1 ∙ ap (λ (h : Option ℕ). some (home_of h (Zone (zone_at g r.log z)))) (no_cell plan s r empty' z there.0 (r.out_cells z there.0 there.1)));
      ends = record {
        spare = omega arith;
        small = omega arith;
        seen = f.seen;
        stands = λ q x e. r.stands q x (ap (λ (z : List Standing). get_elem? z q) (sym main.1) ∙ e);
        beyond = λ q far. r.beyond q (subst (λ (z : List Standing). length z ≤ q) main.1 far);
      };
    }

-- ---- joining all passes

absorbed-end : (v : Sight) (ps : List Pass) (p : Pass) → absorbed v (ps ++ p ∷ []) ≡ joined (absorbed v ps) p.sight
absorbed-end v [] p = refl
absorbed-end v (q ∷ ps) p = absorbed-end (joined v q.sight) ps p

pub absorbed_spare : (v : Sight) (ps : List Pass) → (absorbed v ps).spare ≡ v.spare + spare_of ps
absorbed_spare v [] = sym (add-zero v.spare)
absorbed_spare v (q ∷ ps) = let r = absorbed_spare (joined v q.sight) ps in omega arith

live_apart : (x : Pass) (ps : List Pass) (q : ℕ) → q ≢ x.sight.queue → ((i : ℕ) (p : Pass) → get_elem? ps i ≡ some p → p.sight.queue ≢ q) → (i : ℕ) (p : Pass) → get_elem? (x ∷ ps) i ≡ some p → p.sight.queue ≢ q
live_apart x ps q ne others zero p e = λ same. ne (sym same ∙ sym (ap (λ (z : Pass). z.sight.queue) (some-injective x p e)))
live_apart x ps q ne others (suc i) p e = others i p e

live_left : (v : Sight) (ps : List Pass) (q : ℕ) → get_elem? (absorbed v ps).standings q ≡ some Live
    → (get_elem? v.standings q ≡ some Live) × ((i : ℕ) (p : Pass) → get_elem? ps i ≡ some p → p.sight.queue ≢ q)
live_left v [] q h = (h, λ i p e. absurd (some-ne-none p (sym e)))
live_left v (x ∷ ps) q h =
    let ih = live_left (joined v x.sight) ps q h in
    let y : Standing = Joined x.sight.own x.sight.seen in
    ⊎_elim
    (λ (t : (q ≡ x.sight.queue) × (y ≡ Live)). absurd (cc (t.1)))
    (λ (t : (q ≢ x.sight.queue) × (get_elem? v.standings q ≡ some Live)). (t.1, live_apart x ps q t.0 ih.1))
    (at_set v.standings x.sight.queue q y Live ih.0)

pub none_live : (v : Sight) (ps : List Pass) → AllLive v.standings ps → NoneLive (absorbed v ps).standings
none_live v ps all q h = let l = live_left v ps q h in let c = all q l.0 in l.1 c.0 c.1.0 c.1.1 c.1.2

absorbed_else : (v : Sight) (ps : List Pass) (q : ℕ) → ((i : ℕ) (p : Pass) → get_elem? ps i ≡ some p → p.sight.queue ≢ q) → get_elem? (absorbed v ps).standings q ≡ get_elem? v.standings q
absorbed_else v [] q apart = refl
absorbed_else v (x ∷ ps) q apart =
    absorbed_else (joined v x.sight) ps q (λ i p e. apart (suc i) p e) ∙ set_else v.standings x.sight.queue q (Joined x.sight.own x.sight.seen) (λ e. apart 0 x refl (sym e))

absorbed_at : (v : Sight) (ps : List Pass) → Distinct ps → ((i : ℕ) (p : Pass) → get_elem? ps i ≡ some p → (y : Standing) × (get_elem? v.standings p.sight.queue ≡ some y))
    → (i : ℕ) (p : Pass) → get_elem? ps i ≡ some p → get_elem? (absorbed v ps).standings p.sight.queue ≡ some (Joined p.sight.own p.sight.seen)
absorbed_at v [] distinct there i p e = absurd (some-ne-none p (sym e))
absorbed_at v (x ∷ ps) distinct there zero p e =
    let is : x ≡ p = some-injective x p e in
    let y = there 0 x refl in
    subst (λ (z : Pass). get_elem? (absorbed v (x ∷ ps)).standings z.sight.queue ≡ some (Joined z.sight.own z.sight.seen)) is
    (absorbed_else (joined v x.sight) ps x.sight.queue (λ j q ej same. let n = distinct (suc j) 0 q x ej refl same in absurd (omega arith))
    ∙ set_at v.standings x.sight.queue y.0 (Joined x.sight.own x.sight.seen) y.1)
absorbed_at v (x ∷ ps) distinct there (suc i) p e =
    absorbed_at (joined v x.sight) ps (λ a b p' q' ea eb same. let n = distinct (suc a) (suc b) p' q' ea eb same in omega arith)
    (λ j q ej. let y = there (suc j) q ej in
    (y.0, set_else v.standings x.sight.queue q.sight.queue (Joined x.sight.own x.sight.seen) (λ (same : q.sight.queue ≡ x.sight.queue). let n = distinct (suc j) 0 q x ej refl same in absurd (omega arith)) ∙ y.1))
    i p e

-- ---- what the passes knew

pub have_known : (v : Sight) (ps : List Pass) (j : KeptActs) → Exactly v.standings ps → Ends (absorbed v ps) j → HaveKnown j.acts ps
have_known v ps j all done i p e =
    let s = done.stands p.sight.queue (Joined p.sight.own p.sight.seen) (absorbed_at v ps all.distinct (λ k q ek. (Live, all.live k q ek)) i p e) in (s.1, s.0)

beyond_at : (l : List Standing) (q : ℕ) → get_elem? l q ≡ none → length l ≤ q
beyond_at [] q e = omega arith
beyond_at (x ∷ xs) zero e = absurd (some-ne-none x e)
beyond_at (x ∷ xs) (suc q) e = let h = beyond_at xs q e in omega arith

others_by : (v : Sight) (ps : List Pass) (j : KeptActs) → Ends (absorbed v ps) j → NoneJoined v.standings → (q : ℕ) → get_elem? v.standings q ≢ some Live
    → (o : maybe.Option Standing) → get_elem? v.standings q ≡ o → get_elem? (absorbed v ps).standings q ≡ o → acts_of q j.acts ≡ []
others_by v ps j done fresh q ne none e f = done.beyond q (beyond_at (absorbed v ps).standings q f)
others_by v ps j done fresh q ne (some Free) e f = done.stands q Free f
others_by v ps j done fresh q ne (some Live) e f = absurd (ne e)
others_by v ps j done fresh q ne (some (Joined own seen)) e f = absurd (fresh q own seen e)

pub no_others : (v : Sight) (ps : List Pass) (j : KeptActs) → Exactly v.standings ps → NoneJoined v.standings → Ends (absorbed v ps) j → NoOthers j.acts v.standings
no_others v ps j all fresh done q ne =
    others_by v ps j done fresh q ne (get_elem? v.standings q) refl
    (absorbed_else v ps q (λ i p e same. ne (subst (λ (z : ℕ). get_elem? v.standings z ≡ some Live) same (all.live i p e))))

-- ---- the loop over the passes

pub at_middle : {A : Type 0} (xs ys : List A) (a : A) → get_elem? (xs ++ a ∷ ys) (length xs) ≡ some a
at_middle [] ys a = refl
at_middle (x ∷ xs) ys a = at_middle xs ys a

pub joined_more : (v w : Sight) (ps : List Pass) (p : Pass) → w ≡ absorbed v ps → joined w p.sight ≡ absorbed v (ps ++ p ∷ [])
joined_more v w ps p is = ap (λ (z : Sight). joined z p.sight) is ∙ sym (absorbed-end v ps p)

pub all_yielded : {A : Type 0} (xs ys all : List A) → xs ++ ys ≡ all → length ys ≡ 0 → xs ≡ all
all_yielded xs [] all e none_left = sym (append-nil xs) ∙ e
all_yielded xs (y ∷ ys) all e none_left = absurd (omega arith)
