-- What a pass has, and what its view says.
use Rattle.std.proofs.Common.{◌≡◌, ℕ, suc, ◌+◌, ◌^◌, ◌<◌, ◌≤◌, inl, inr, ⊎_elim, List, [], ◌∷◌, ◌++◌, length, map, true, false, Option, Some, None, refl, sym, ap, ◌∙◌, subst, arith, length-append}
use mathlib.Core.List.{map-append}
use mathlib.Core.Option.{some}
use lib.ListN.{get_elem?, length-map}
use Rattle.zns_types.specs.declared.fields.GeometryFields.{GeometryFields}
use Rattle.zone_cell.specs.Cells.{Cell}
use Rattle.zone_model.specs.declared.act.Act.{Act}
use Rattle.zone_model.specs.Kept.{KeptActs}
use Rattle.drive_book.specs.declared.book.Book.{Book}
use Rattle.solo_drive.specs.Parts.{zones_in, AreLent}
use Rattle.solo_drive.proofs.Drives.{zones_in-cells_at}
use Rattle.zone_model.specs.Answers.{answered}
use Rattle.zone_desk.specs.Parts.{zone_at, zones_at, AreAt, HasZone, Covers, ledger_at, with_act}
use Rattle.zone_desk.specs.Sights.{in_order, zones_held, acts_out, log_of, journal_after, committed}
use Rattle.zone_desk.specs.Plays.{Mine}
use Rattle.zone_desk.specs.Ahead.{Open, open_act, HasMoved, Bears}
use Rattle.zone_desk.specs.Passes.{IsAbove, away, emptied, IsCarried, AreRising, AreWithin, Carries}
use Rattle.zone_desk.specs.declared.slot.Slot.{Slot}
use Rattle.zone_desk.specs.declared.slot.Slot.TheVariants.{Away}
use Rattle.zone_desk.specs.declared.sight.Sight.{Sight}
use Rattle.zone_desk.proofs.Parts.{at-zone, ledger-journal, ledger-own}
use Rattle.zone_desk.proofs.Views.{at_end}

-- ---- the cells in their order

pub length-in_order : (cs : List Cell) → length (in_order cs) ≡ length cs
length-in_order [] = refl
length-in_order (c ∷ cs) = let r = length-in_order cs in omega (arith, length-append (in_order cs) (c ∷ []))

end_same : (xs ys : List Cell) (a b : Cell) → xs ++ a ∷ [] ≡ ys ++ b ∷ [] → (xs ≡ ys) × (a ≡ b)
end_same [] [] a b e = (refl, cc e)
end_same [] (y ∷ ys) a b e = absurd (let n = ap length e in omega (arith, n, length-append ys (b ∷ [])))
end_same (x ∷ xs) [] a b e = absurd (let n = ap length e in omega (arith, n, length-append xs (a ∷ [])))
end_same (x ∷ xs) (y ∷ ys) a b e = let r = end_same xs ys a b (cc e) in (cc (e, r.0), r.1)

-- the cell that comes off at the end was taken last
pub record Popped (items : List Cell) (c : Cell) (cs : List Cell) : Type 0 where
  pub before : List Cell
  pub is : cs ≡ c ∷ before
  pub rest : items ≡ in_order before

pub popped : (items rest : List Cell) (c : Cell) (cs : List Cell) → items ≡ rest ++ c ∷ [] → items ≡ in_order cs → Popped rest c cs
popped items rest c [] e f = absurd (let n = ap length (sym e ∙ f) in omega (arith, n, length-append rest (c ∷ [])))
popped items rest c (d ∷ ds) e f = let s = end_same rest (in_order ds) c d (sym e ∙ f) in record { before = ds; is = ap (λ (x : Cell). x ∷ ds) (sym s.1); rest = s.0 }

none_in_order : (items cs : List Cell) → items ≡ [] → items ≡ in_order cs → cs ≡ []
none_in_order items [] e f = refl
none_in_order items (d ∷ ds) e f = absurd (let n = ap length (sym e ∙ f) in omega (arith, n, length-append (in_order ds) (d ∷ [])))

pub nothing_left : (n : ℕ) (items cs : List Cell) → n ≡ length items → (0 < n → false ≡ true) → items ≡ in_order cs → cs ≡ []
nothing_left n [] cs e h f = none_in_order [] cs refl f
nothing_left n (x ∷ xs) cs e h f = absurd (cc (h (let k : n ≡ suc (length xs) = e in omega arith)))

in_order-map : (f : Cell → Cell) (cs : List Cell) → map f (in_order cs) ≡ in_order (map f cs)
in_order-map f [] = refl
in_order-map f (c ∷ cs) = map-append f (in_order cs) (c ∷ []) ∙ ap (λ z. z ++ f c ∷ []) (in_order-map f cs)

-- the cells of zones
pub zones-in_order : (g : GeometryFields) (log : List Act) (cs : List Cell) → zones_at g log (zones_in (in_order cs)) ≡ in_order (zones_at g log (zones_in cs))
zones-in_order g log [] = refl
zones-in_order g log (c ∷ cs) =
    ap (zones_at g log) (map-append (λ (x : Cell). x.zone) (in_order cs) (c ∷ []))
    ∙ (map-append (zone_at g log) (zones_in (in_order cs)) (c.zone ∷ []) ∙ ap (λ z. z ++ zone_at g log c.zone ∷ []) (zones-in_order g log cs))

pub at-in_order : (g : GeometryFields) (log : List Act) (cs : List Cell) → AreAt g log cs → AreAt g log (in_order cs)
at-in_order g log cs at = ap in_order at ∙ sym (zones-in_order g log cs)

-- ---- rising zones

pub rising_length : (z : ℕ) (cs : List Cell) → IsAbove (z + 2) cs → AreRising cs → length cs ≤ z
rising_length z [] above rising = omega arith
rising_length z (c ∷ cs) above rising = let r = rising.0 in omega arith

pub rising_more : (c : Cell) (cs : List Cell) → IsAbove (c.zone + 2) cs → AreRising cs → AreRising (c ∷ cs)
rising_more c cs above rising = (rising_length c.zone cs above rising, rising)

-- ---- cells of the same zones after more acts

away_again : (g : GeometryFields) (log : List Act) (cs : List Cell) → map away (zones_at g log (zones_in cs)) ≡ map away cs
away_again g log [] = refl
away_again g log (c ∷ cs) = let zone = at-zone g log c.zone in let more = away_again g log cs in λ i. (suc (zone i), Away) ∷ more i

rising_again : (g : GeometryFields) (log : List Act) (cs : List Cell) → AreRising cs → AreRising (zones_at g log (zones_in cs))
rising_again g log [] r = tt
rising_again g log (c ∷ cs) r =
    let long : length (zones_at g log (zones_in cs)) ≡ length cs = length-map (zones_in cs) (zone_at g log) ∙ length-map cs (λ (x : Cell). x.zone) in
    let le = r.0 in
    (omega (arith, long, at-zone g log c.zone, le), rising_again g log cs r.1)

within_again : (words : ℕ) (g : GeometryFields) (log : List Act) (cs : List Cell) → AreWithin words cs → AreWithin words (zones_at g log (zones_in cs))
within_again words g log [] r = tt
within_again words g log (c ∷ cs) r = let lt = r.0 in (omega (arith, at-zone g log c.zone, lt), within_again words g log cs r.1)

at_again : (g : GeometryFields) (log : List Act) (zs : List ℕ) → AreAt g log (zones_at g log zs)
at_again g log zs = ap (zones_at g log) (sym (zones_in-cells_at g (answered g log) zs))

-- ---- what a pass has

-- a pass that has no journal has no book
pub no_book : (v : Sight) (book : Option Book) (o : Option KeptActs) → o ≡ None → IsCarried v book o → book ≡ None
no_book v book None e h = h
no_book v book (Some j) e h = absurd (cc e)

-- a pass has this book
pub record IsInHand (v : Sight) (b : Book) (o : Option KeptActs) : Type 0 where
  pub out : o ≡ Some b.journal
  pub is : b ≡ ledger_at v.geometry b.journal
  pub room : v.spare ≤ b.journal.spare
  pub small : length b.journal.acts + b.journal.spare < 2 ^ 32
  pub cells : AreAt v.geometry b.journal.acts v.cells

in_hand_of : (v : Sight) (b : Book) (j : KeptActs) → j ≡ b.journal → b ≡ ledger_at v.geometry b.journal → v.spare ≤ j.spare → length j.acts + j.spare < 2 ^ 32 → AreAt v.geometry j.acts v.cells → IsInHand v b (Some j)
in_hand_of v b j same is room small cells = record {
  out = ap (λ (x : KeptActs). Some x) same;
  is = is;
  room = subst (λ (x : KeptActs). v.spare ≤ x.spare) same room;
  small = subst (λ (x : KeptActs). length x.acts + x.spare < 2 ^ 32) same small;
  cells = subst (λ (x : KeptActs). AreAt v.geometry x.acts v.cells) same cells;
}

pub in_hand : (v : Sight) (book : Option Book) (b : Book) (o : Option KeptActs) → book ≡ Some b → IsCarried v book o → IsInHand v b o
in_hand v book b None is h = absurd (cc (is, h))
in_hand v book b (Some j) is h =
    let same : b ≡ ledger_at v.geometry j = cc (is, h.0) in
    in_hand_of v b j (sym (ap (λ (x : Book). x.journal) same ∙ ledger-journal v.geometry j)) (ledger-own v.geometry b j same) h.1 h.2 h.3

-- a pass that has no open command has the cells of its view
pub plain_cells : (g : GeometryFields) (queue : ℕ) (o : Option Open) (view cells : List Cell) → o ≡ None → Bears g queue o view cells → cells ≡ in_order view
plain_cells g queue None view cells e h = h
plain_cells g queue (Some o) view cells e h = absurd (cc e)

-- what an open command made of its cells
pub moved_cells : (g : GeometryFields) (queue : ℕ) (o : Open) (opened : Option Open) (view cells : List Cell) → opened ≡ Some o → Bears g queue opened view cells → HasMoved g (open_act queue o) (in_order view) cells o.ready
moved_cells g queue o opened view cells e h = subst (λ (x : Option Open). Bears g queue x view cells) e h

-- what a pass has after a commit
pub carried_after : (words : ℕ) (opened : Option Open) (book : Option Book) (cells : List Cell) (me : Mine) (b b' : Book) (cells' : List Cell) (a : Act) → Carries words opened book cells me → IsInHand me.0 b me.0.journal → 0 < me.0.spare
    → b' ≡ ledger_at me.0.geometry (with_act b.journal a) → cells' ≡ zones_at me.0.geometry (b.journal.acts ++ a ∷ []) (zones_in (in_order me.0.cells)) → Carries words None (Some b') cells' (committed me.0 a, me.1)
carried_after words opened book cells me b b' cells' a c h spare book_is cells_are =
    let v : Sight = me.0 in
    let g : GeometryFields = v.geometry in
    let w : Sight = committed v a in
    let j : KeptActs = b.journal in
    let log : List Act = j.acts ++ a ∷ [] in
    let after : journal_after v.journal a ≡ Some (with_act j a) = ap (λ (o : Option KeptActs). journal_after o a) h.out in
    let logs : log ≡ log_of v ++ a ∷ [] = ap (λ (o : Option KeptActs). acts_out o ++ a ∷ []) (sym h.out) in
    let now : zones_at g log (zones_in v.cells) ≡ w.cells = ap (λ (l : List Act). zones_at g l (zones_in v.cells)) logs in
    let stand : AreAt g log w.cells = subst (AreAt g log) now (at_again g log (zones_in v.cells)) in
    let carried : IsCarried w (Some b') (Some (with_act j a)) = (ap (λ (x : Book). Some x) book_is, omega (arith, h.room, spare), omega (arith, h.small, h.room, spare, length-append j.acts (a ∷ [])), stand) in
    record {
      book_is = subst (IsCarried w (Some b')) (sym after) carried;
      cells_are = cells_are ∙ (zones-in_order g log v.cells ∙ ap in_order now);
      been = record { acts = log; stand = stand };
      empty = c.empty ∙ (ap (λ (o : Option KeptActs). emptied o v.cells) h.out ∙ (ap (λ (l : List (ℕ × Slot)). (0, Away) ∷ l) (sym (away_again g log v.cells) ∙ ap (map away) now) ∙ ap (λ (o : Option KeptActs). emptied o w.cells) (sym after)));
      rising = subst AreRising now (rising_again g log v.cells c.rising);
      within = subst (AreWithin words) now (within_again words g log v.cells c.within);
    }

-- ---- what a pass lends

-- the cells that a pass lends are those that its view says
pub held-lent : (g g' : GeometryFields) (v v' : Sight) (cells : List Cell) (a a' : Act) → g ≡ g' → cells ≡ in_order v.cells → v ≡ v' → a ≡ a' → AreLent g' a' (zones_held v') → AreLent g a (zones_in cells)
held-lent g g' v v' cells a a' same are view act lent =
    let zones : zones_in cells ≡ zones_held v' = ap zones_in are ∙ ap zones_held view in
    subst (AreLent g a) (sym zones) (subst (λ (x : Act). AreLent g x (zones_held v')) (sym act) (subst (λ (x : GeometryFields). AreLent x a' (zones_held v')) (sym same) lent))

in_order-has : (z : ℕ) (cs : List Cell) → HasZone z (in_order cs) → HasZone z cs
in_order-has z [] has = has
in_order-has z (c ∷ cs) has = ⊎_elim
    (λ (before : get_elem? (in_order cs) has.0 ≡ some has.1.0). let h = in_order-has z cs (has.0, (has.1.0, before, has.1.2)) in (suc h.0, h.1))
    (λ (last : (has.0 ≡ length (in_order cs)) × (c ≡ has.1.0)). (0, (c, refl, ap (λ (x : Cell). x.zone) last.1 ∙ has.1.2)))
    (at_end (in_order cs) c has.1.0 has.0 has.1.1)

pub held-covers : (g : GeometryFields) (log : List Act) (a : Act) (cs cells : List Cell) → cells ≡ in_order cs → Covers g log a cells → Covers g log a cs
held-covers g log a cs cells are covers z lt =
    ⊎_elim (λ (has : HasZone z cells). inl (in_order-has z cs (subst (HasZone z) are has))) (λ (same : zone_at g (log ++ a ∷ []) z ≡ zone_at g log z). inr same) (covers z lt)
