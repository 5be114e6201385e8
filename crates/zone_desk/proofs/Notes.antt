-- Making a note, and telling a pass of one, keep the rule.
use Rattle.std.proofs.Common.{◌≡◌, ℕ, Bool, true, false, cond, leb, List, length, set, refl, sym, ◌∙◌, arith, leb-true}
use mathlib.Core.Option.{some, some-ne-none}
use mathlib.Core.List.{IsPrefix}
use lib.ListN.{get_elem?}
use Rattle.atomic_table.specs.Table.{Splits, Joins}
use Rattle.atomic_table.proofs.Lists.{set_else}
use Rattle.zone_model.specs.declared.act.Act.{Act}
use Rattle.zone_model.specs.Sessions.{acts_of}
use Rattle.zone_desk.specs.Rules.{Fits, HasBook, HasCell, Rule}
use Rattle.zone_desk.specs.Sights.{note_sight, spent_sight, shorter, told}
use Rattle.zone_desk.specs.declared.plan.Plan.{Plan}
use Rattle.zone_desk.specs.declared.sight.Kind.TheVariants.{Queue, Note}
use Rattle.zone_desk.specs.declared.sight.Sight.{Sight}
use Rattle.zone_desk.proofs.Lists.{prefix_shorter, acts_of-between}
use Rattle.zone_desk.proofs.Views.{each_set, each_end, spares_set, spares_end, alone_set, alone_end, out_set, out_end, out_within}
use Rattle.zone_desk.proofs.Seats.{no_cells, no_zone, no_book, longer_either}

pub remembering : (plan : Plan) (id : ℕ) (v : Sight) → Splits (Rule plan) id v v (note_sight v.geometry v.seen)
remembering plan id v s r at =
    let f = r.each id v at in
    let right : Sight = note_sight v.geometry v.seen in
    let views' : List Sight = set s.views id v in
    let out' = out_set HasBook r.holder s.views id v v at (λ b. b) r.out_book in
    let sum = spares_set s.views id v v at in
    let sum' = spares_end views' right in
    let whole = r.sum in
    record {
      log = r.log;
      standings = r.standings;
      holder = r.holder;
      holders = r.holders;
      words = r.words;
      wide = r.wide;
      book = r.book;
      cells = r.cells;
      out_book = out_end HasBook r.holder views' right out';
      out_cells = λ z h e. out_end (HasCell z) h views' right (out_set (HasCell z) h s.views id v v at (λ b. b) (r.out_cells z h e));
      sum = omega arith;
      small = r.small;
      each = each_end (Fits plan r.log r.standings r.holder r.holders) views' right
          (each_set (Fits plan r.log r.standings r.holder r.holders) s.views id v (λ j u ne e. r.each j u e) f)
          record {
            seen = f.seen;
            heard = (r.log, refl);
            given_back = (r.log, refl);
            journal = out_within HasBook r.holder views' out';
            cells = no_cells _;
            apart = λ i j a b ea eb k. absurd (some-ne-none a (sym ea));
            queue = λ k. absurd (cc k);
            main = λ k. absurd (cc k);
            idle = λ _. (refl, refl);
            note = λ k. refl;
            spent = λ k. absurd (cc k);
          };
      alone = alone_end views' right (λ j u e k note. absurd (cc note)) (alone_set s.views id v v at (λ k. (k, refl)) r.alone);
      stands = r.stands;
      beyond = r.beyond;
    }

shorter_either : (xs ys log : List Act) → IsPrefix xs log → IsPrefix ys log → IsPrefix (shorter xs ys) log
shorter_either xs ys log p q = elim (leb (length xs) (length ys)) as (λ b. IsPrefix (cond b xs ys) log) [ true ↦ p | false ↦ q ]

-- the longer of two prefixes of a journal has the queue's acts, if the first has all of them
longer_own : (q : ℕ) (xs ys log own : List Act) → IsPrefix xs log → IsPrefix ys log → acts_of q log ≡ own → acts_of q xs ≡ own → (b : Bool) → leb (length xs) (length ys) ≡ b → acts_of q (cond b ys xs) ≡ own
longer_own q xs ys log own p r all mine true is = acts_of-between q xs ys log own (prefix_shorter xs ys log p r (leb-true (length xs) (length ys) is)) r mine all
longer_own q xs ys log own p r all mine false is = mine

pub telling : (plan : Plan) (id : ℕ) (v : Sight) (other : ℕ) (w : Sight) → v.kind ≡ Queue → w.kind ≡ Note → w.spare ≡ 0 → Joins (Rule plan) id v other w (told v w) spent_sight
telling plan id v other w is note no_spare s r at ne there' =
    let both : Sight = told v w in
    let gone : Sight = spent_sight in
    let views' : List Sight = set s.views id both in
    let there : get_elem? s.views other ≡ some w = sym (set_else s.views id other both ne) ∙ there' in
    let f = r.each id v at in
    let h = r.each other w there in
    let q = f.queue is in
    let gone_idle = h.idle (λ k. cc (k, note)) in
    let not_there = no_book plan r.log r.standings r.holder r.holders other w h gone_idle.0 in
    let sum = spares_set s.views id v both at in
    let sum' = spares_set views' other w gone there' in
    let whole = r.sum in
    record {
      log = r.log;
      standings = r.standings;
      holder = r.holder;
      holders = r.holders;
      words = r.words;
      wide = r.wide;
      book = r.book;
      cells = r.cells;
      out_book = out_set HasBook r.holder views' other w gone there' (λ b. absurd (b gone_idle.0)) (out_set HasBook r.holder s.views id v both at (λ b. b) r.out_book);
      out_cells = λ z k e. out_set (HasCell z) k views' other w gone there' (λ b. no_zone w gone_idle.1 b) (out_set (HasCell z) k s.views id v both at (λ b. b) (r.out_cells z k e));
      sum = omega arith;
      small = r.small;
      each = each_set (Fits plan r.log r.standings r.holder r.holders) views' other gone
          (λ j u nej e. each_set (Fits plan r.log r.standings r.holder r.holders) s.views id both (λ j u _ e. r.each j u e)
          record {
            seen = longer_either v.seen w.seen r.log f.seen h.seen;
            heard = shorter_either v.seen w.seen r.log f.seen h.seen;
            given_back = f.given_back;
            journal = f.journal;
            cells = f.cells;
            apart = f.apart;
            queue = λ _. (q.0, q.1, longer_own v.queue v.seen w.seen r.log v.own f.seen h.seen q.1 q.2 (leb (length v.seen) (length w.seen)) refl);
            main = f.main;
            idle = f.idle;
            note = f.note;
            spent = f.spent;
          } j u e)
          record {
            seen = (r.log, refl);
            heard = (r.log, refl);
            given_back = (r.log, refl);
            journal = not_there;
            cells = no_cells _;
            apart = λ i j a b ea eb k. absurd (some-ne-none a (sym ea));
            queue = λ k. absurd (cc k);
            main = λ k. absurd (cc k);
            idle = λ _. (refl, refl);
            note = λ k. absurd (cc k);
            spent = λ k. refl;
          };
      alone = alone_set views' other w gone there' (λ k. absurd (cc k)) (alone_set s.views id v both at (λ k. (k, refl)) r.alone);
      stands = r.stands;
      beyond = r.beyond;
    }
