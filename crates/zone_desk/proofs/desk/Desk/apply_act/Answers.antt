use Rattle.std.proofs.Common.{◌≡◌, ◌⊎◌, ◌-◌, ◌<◌, ◌+◌, false, Option, Some, [], ◌∷◌, ◌++◌, List, ℕ, length, arith, ap, sym, ◌∙◌, subst, length-append}
use Rattle.zns_types.specs.declared.fields.GeometryFields.{GeometryFields}
use Rattle.zone_cell.specs.Cells.{Cell}
use Rattle.zone_model.specs.Kept.{KeptActs}
use Rattle.zone_model.specs.Zones.{zones}
use Rattle.zone_model.specs.declared.act.Act.{Act}
use Rattle.drive_book.specs.declared.book.Book.{Book}
use Rattle.solo_drive.specs.Drives.{act_of}
use Rattle.solo_drive.specs.Parts.{zones_in}
use Rattle.zone_desk.specs.Parts.{zones_at, AreAt, Covers, wants_room, ledger_at, with_act, IsAnswered}
use Rattle.zone_desk.specs.Sights.{in_order, zones_held, acts_out, log_of, committed}
use Rattle.zone_desk.specs.Plays.{Mine}
use Rattle.zone_desk.specs.Ahead.{Open, Bears}
use Rattle.zone_desk.specs.Passes.{DeskId, Pass, knowing, IsCarried, Carries}
use Rattle.zone_desk.proofs.Parts.{covering}
use Rattle.zone_desk.proofs.Carried.{in_hand, plain_cells, carried_after, at-in_order, held-lent, held-covers}
use Rattle.zone_desk.proofs.desk.Desk.apply_act.Goals as goal

pub serve_on-requires-clause-book : goal.serve_on-requires-clause-book
serve_on-requires-clause-book c =
    let me : Mine = c.pass.inside.seat.me in
    let b : Book = c.in-Some.book in
    let desk = ap (λ (p : Pass). p.desk) c.pass.view_is ∙ (c.requires.desk ∙ sym c.self.view_is) in
    let h = in_hand me.0 c.pass.inside.book b me.0.journal c.in-Some.is c.pass.invariant.carries.book_is in
    h.is ∙ ap (λ (d : DeskId). ledger_at d.geometry b.journal) desk

pub serve_on-requires-clause-cells : goal.serve_on-requires-clause-cells
serve_on-requires-clause-cells c =
    let me : Mine = c.pass.inside.seat.me in
    let b : Book = c.in-Some.book in
    let i = c.pass.invariant in
    let desk = ap (λ (p : Pass). p.desk) c.pass.view_is ∙ (c.requires.desk ∙ sym c.self.view_is) in
    let h = in_hand me.0 c.pass.inside.book b me.0.journal c.in-Some.is i.carries.book_is in
    subst (λ (l : List Cell). AreAt c.self.inside.geometry.fields b.journal.acts l) (sym (plain_cells c.pass.inside.seat.me.0.geometry c.pass.inside.seat.me.0.queue c.pass.inside.open c.pass.inside.seat.me.0.cells c.pass.inside.cells.items (ap (λ (p : Pass). p.opened) c.pass.view_is ∙ c.requires.none_open) i.carries.cells_are))
    (at-in_order c.self.inside.geometry.fields b.journal.acts me.0.cells (subst (λ (d : DeskId). AreAt d.geometry b.journal.acts me.0.cells) desk h.cells))

pub serve_on-requires-clause-lent : goal.serve_on-requires-clause-lent
serve_on-requires-clause-lent c =
    let i = c.pass.invariant in
    let queue : c.pass.inside.queue ≡ c.args.pass.now.sight.queue = i.queue ∙ ap (λ (p : Pass). p.sight.queue) c.pass.view_is in
    held-lent c.self.inside.geometry.fields c.args.self.now.geometry c.pass.inside.seat.me.0 c.args.pass.now.sight c.pass.inside.cells.items
    (act_of c.pass.inside.queue c.args.sqe c.args.payload) (act_of c.args.pass.now.sight.queue c.args.sqe c.args.payload)
    (ap (λ (d : DeskId). d.geometry) c.self.view_is) (plain_cells c.pass.inside.seat.me.0.geometry c.pass.inside.seat.me.0.queue c.pass.inside.open c.pass.inside.seat.me.0.cells c.pass.inside.cells.items (ap (λ (p : Pass). p.opened) c.pass.view_is ∙ c.requires.none_open) i.carries.cells_are) (ap (λ (p : Pass). p.sight) c.pass.view_is) (ap (λ (n : ℕ). act_of n c.args.sqe c.args.payload) queue) c.requires.zones

pub serve_on-requires-clause-spare : goal.serve_on-requires-clause-spare
serve_on-requires-clause-spare c =
    let me : Mine = c.pass.inside.seat.me in
    let h = in_hand me.0 c.pass.inside.book c.in-Some.book me.0.journal c.in-Some.is c.pass.invariant.carries.book_is in
    omega (arith, h.room, c.requires.spare, ap (λ (p : Pass). p.sight.spare) c.pass.view_is)

pub serve_on-requires-clause-small : goal.serve_on-requires-clause-small
serve_on-requires-clause-small c =
    let me : Mine = c.pass.inside.seat.me in
    let h = in_hand me.0 c.pass.inside.book c.in-Some.book me.0.journal c.in-Some.is c.pass.invariant.carries.book_is in
    h.small

pub commit-requires-clause-geometry : goal.commit-requires-clause-geometry
commit-requires-clause-geometry c =
    let desk = ap (λ (p : Pass). p.desk) c.pass.view_is ∙ (c.requires.desk ∙ sym c.self.view_is) in
    ap (λ (d : DeskId). d.geometry) desk ∙ c.self.invariant.geometry

pub commit-requires-clause-slots : goal.commit-requires-clause-slots
commit-requires-clause-slots c =
    let desk = ap (λ (p : Pass). p.desk) c.pass.view_is ∙ (c.requires.desk ∙ sym c.self.view_is) in
    c.self.invariant.slots ∙ ap (λ (d : DeskId). d.geometry.zones + 1) (sym desk)

pub commit-requires-clause-zones : goal.commit-requires-clause-zones
commit-requires-clause-zones c =
    let i = c.pass.invariant in
    let me : Mine = c.pass.inside.seat.me in
    let old : Pass = c.args.pass.now in
    let b : Book = c.in-Some.book in
    let g : GeometryFields = c.self.inside.geometry.fields in
    let queue : c.pass.inside.queue ≡ old.sight.queue = i.queue ∙ ap (λ (p : Pass). p.sight.queue) c.pass.view_is in
    let a : Act = act_of c.pass.inside.queue c.args.sqe c.args.payload in
    let desk = ap (λ (p : Pass). p.desk) c.pass.view_is ∙ (c.requires.desk ∙ sym c.self.view_is) in
    let h = in_hand me.0 c.pass.inside.book b me.0.journal c.in-Some.is i.carries.book_is in
    let lent = held-lent g c.args.self.now.geometry me.0 old.sight c.pass.inside.cells.items a (act_of old.sight.queue c.args.sqe c.args.payload)
    (ap (λ (d : DeskId). d.geometry) c.self.view_is) (plain_cells c.pass.inside.seat.me.0.geometry c.pass.inside.seat.me.0.queue c.pass.inside.open c.pass.inside.seat.me.0.cells c.pass.inside.cells.items (ap (λ (p : Pass). p.opened) c.pass.view_is ∙ c.requires.none_open) i.carries.cells_are) (ap (λ (p : Pass). p.sight) c.pass.view_is) (ap (λ (n : ℕ). act_of n c.args.sqe c.args.payload) queue) c.requires.zones in
    let covers : Covers g b.journal.acts a me.0.cells = held-covers g b.journal.acts a me.0.cells c.pass.inside.cells.items (plain_cells c.pass.inside.seat.me.0.geometry c.pass.inside.seat.me.0.queue c.pass.inside.open c.pass.inside.seat.me.0.cells c.pass.inside.cells.items (ap (λ (p : Pass). p.opened) c.pass.view_is ∙ c.requires.none_open) i.carries.cells_are) (covering g b.journal.acts a c.pass.inside.cells.items lent c.in-Done.ensures.served.wide) in
    subst (λ (x : List ℕ). Covers me.0.geometry (log_of me.0) (act_of c.pass.inside.queue c.args.sqe x) me.0.cells) (sym c.of-bytes.ensures)
    (subst (λ (o : Option KeptActs). Covers me.0.geometry (acts_out o) a me.0.cells) (sym h.out) (subst (λ (d : DeskId). Covers d.geometry b.journal.acts a me.0.cells) (sym desk) covers))

pub invariant_of-pass-in-Done : goal.invariant_of-pass-in-Done
invariant_of-pass-in-Done c =
    let i = c.pass.invariant in
    let me : Mine = c.pass.inside.seat.me in
    let queue : ℕ = c.pass.inside.queue in
    let a : Act = act_of queue c.args.sqe c.args.payload in
    let b : Book = c.in-Some.book in
    let done = c.in-Done.ensures.served in
    let desk = ap (λ (p : Pass). p.desk) c.pass.view_is ∙ (c.requires.desk ∙ sym c.self.view_is) in
    let same : c.self.inside.geometry.fields ≡ me.0.geometry = sym (ap (λ (d : DeskId). d.geometry) desk) in
    let h = in_hand me.0 c.pass.inside.book b me.0.journal c.in-Some.is i.carries.book_is in
    let spare : 0 < me.0.spare = omega (arith, c.requires.spare, ap (λ (p : Pass). p.sight.spare) c.pass.view_is) in
    let now = c.commit.ensures.seat ∙ ap (λ (x : List ℕ). (committed me.0 (act_of queue c.args.sqe x), me.1)) c.of-bytes.ensures in
    let book = done.book_is ∙ ap (λ (g : GeometryFields). ledger_at g (with_act b.journal a)) same in
    let plain : c.pass.inside.cells.items ≡ in_order me.0.cells = (plain_cells c.pass.inside.seat.me.0.geometry c.pass.inside.seat.me.0.queue c.pass.inside.open c.pass.inside.seat.me.0.cells c.pass.inside.cells.items (ap (λ (p : Pass). p.opened) c.pass.view_is ∙ c.requires.none_open) i.carries.cells_are) in
    let cells = done.cells_are ∙ ap (λ (g : GeometryFields). zones_at g (b.journal.acts ++ a ∷ []) (zones_in c.pass.inside.cells.items)) same ∙ ap (λ (l : List Cell). zones_at me.0.geometry (b.journal.acts ++ a ∷ []) (zones_in l)) plain in
    let carried = carried_after c.pass.inside.seat.table_id.words c.pass.inside.open c.pass.inside.book c.pass.inside.cells.items me b c.serve_on.new.book c.serve_on.new.cells.items a i.carries h spare book cells in
    record {
      queue = i.queue ∙ sym (ap (λ (m : Mine). m.0.queue) now);
      served = omega (arith, i.served, length-append me.0.own (a ∷ []), ap (λ (m : Mine). length m.0.own) now);
      spare = ap (λ n. n - 1) i.spare ∙ sym (ap (λ (m : Mine). m.0.spare) now);
      small = omega (arith, i.small, i.spare, spare);
      kind = ap (λ (m : Mine). m.0.kind) now ∙ i.kind;
      carries = subst (λ d. Carries d.words c.pass.inside.open (Some c.serve_on.new.book) c.serve_on.new.cells.items c.commit.new.seat.me) (sym c.commit.ensures.table)
          (subst (Carries c.pass.inside.seat.table_id.words c.pass.inside.open (Some c.serve_on.new.book) c.serve_on.new.cells.items) (sym now) (subst (λ (o : Option Open). Carries c.pass.inside.seat.table_id.words o (Some c.serve_on.new.book) c.serve_on.new.cells.items (committed me.0 a, me.1)) (sym (ap (λ (p : Pass). p.opened) c.pass.view_is ∙ c.requires.none_open)) carried));
      fits = omega (arith, i.fits, ap (λ d. d.words) c.commit.ensures.table, c.serve_on.ensures.room);
      within = subst (λ (m : Mine). m.0.queue < m.0.geometry.queues) (sym now) i.within;
    }

pub invariant_of-pass : goal.invariant_of-pass
invariant_of-pass c =
    let i = c.pass.invariant in
    let same = c.in-Widen.ensures.served in
    record {
      queue = i.queue;
      served = i.served;
      spare = i.spare;
      small = i.small;
      kind = i.kind;
      carries = record {
        book_is = subst (λ (b : Book). IsCarried c.pass.inside.seat.me.0 (Some b) c.pass.inside.seat.me.0.journal) (sym same.same_book) (subst (λ (o : Option Book). IsCarried c.pass.inside.seat.me.0 o c.pass.inside.seat.me.0.journal) c.in-Some.is i.carries.book_is);
        cells_are = subst (Bears c.pass.inside.seat.me.0.geometry c.pass.inside.seat.me.0.queue c.pass.inside.open c.pass.inside.seat.me.0.cells) (sym same.same_cells) i.carries.cells_are;
        been = i.carries.been;
        empty = i.carries.empty;
        rising = i.carries.rising;
        within = i.carries.within;
      };
      fits = omega (arith, i.fits, c.serve_on.ensures.room);
      within = i.within;
    }

pub returns-in-Done : goal.returns-in-Done
returns-in-Done c =
    let i = c.pass.invariant in
    let me : Mine = c.pass.inside.seat.me in
    let queue : ℕ = c.pass.inside.queue in
    let a : Act = act_of queue c.args.sqe c.args.payload in
    let old : Pass = c.args.pass.now in
    let b : Book = c.in-Some.book in
    let done = c.in-Done.ensures.served in
    let h = in_hand me.0 c.pass.inside.book b me.0.journal c.in-Some.is i.carries.book_is in
    let now = c.commit.ensures.seat ∙ ap (λ (x : List ℕ). (committed me.0 (act_of queue c.args.sqe x), me.1)) c.of-bytes.ensures in
    let first : Pass = record { desk = record { table = c.pass.inside.seat.table_id; geometry = me.0.geometry }; sight = committed me.0 a; opened = c.pass.inside.open } in
    let next : Pass = record { desk = record { table = c.commit.new.seat.table_id; geometry = c.commit.new.seat.me.0.geometry }; sight = c.commit.new.seat.me.0; opened = c.pass.inside.open } in
    let viewed : next ≡ first = λ k. record { desk = record { table = c.commit.ensures.table k; geometry = (now k).0.geometry }; sight = (now k).0; opened = c.pass.inside.open } in
    let same_queue : queue ≡ old.sight.queue = i.queue ∙ ap (λ (p : Pass). p.sight.queue) c.pass.view_is in
    let same : c.self.inside.geometry.fields ≡ old.desk.geometry = ap (λ (d : DeskId). d.geometry) (c.self.view_is ∙ sym c.requires.desk) in
    let out : old.sight.journal ≡ Some b.journal = ap (λ (p : Pass). p.sight.journal) (sym c.pass.view_is) ∙ h.out in
    record {
      pass = viewed ∙ (ap (λ (p : Pass). knowing p (committed p.sight a)) c.pass.view_is ∙ ap (λ n. knowing old (committed old.sight (act_of n c.args.sqe c.args.payload))) same_queue);
      answer = λ j e.
          let journal : b.journal ≡ j = cc (out, e) in
          let Told : GeometryFields → KeptActs → ℕ → Type 0 = λ g x n. IsAnswered g x (act_of n c.args.sqe c.args.payload) c.in-Done.posted c.args.out.now c.serve_on.new.out in
          subst (λ (g : GeometryFields). Told g j old.sight.queue) same (subst (λ (x : KeptActs). Told c.self.inside.geometry.fields x old.sight.queue) journal (subst (Told c.self.inside.geometry.fields b.journal) same_queue done.answer));
      wide =
          let zones_are : zones_in c.pass.inside.cells.items ≡ zones_held old.sight = ap zones_in (plain_cells c.pass.inside.seat.me.0.geometry c.pass.inside.seat.me.0.queue c.pass.inside.open c.pass.inside.seat.me.0.cells c.pass.inside.cells.items (ap (λ (p : Pass). p.opened) c.pass.view_is ∙ c.requires.none_open) i.carries.cells_are) ∙ ap (λ (p : Pass). zones_held p.sight) c.pass.view_is in
          let acts : b.journal.acts ≡ log_of old.sight = ap acts_out (sym out) in
          let Wide : GeometryFields → List Act → ℕ → List ℕ → Type 0 = λ g log n zs. (zs ≡ zones g) ⊎ (wants_room g log (act_of n c.args.sqe c.args.payload) ≡ false) in
          subst (λ (g : GeometryFields). Wide g (log_of old.sight) old.sight.queue (zones_held old.sight)) same
          (subst (λ (log : List Act). Wide c.self.inside.geometry.fields log old.sight.queue (zones_held old.sight)) acts
          (subst (λ (n : ℕ). Wide c.self.inside.geometry.fields b.journal.acts n (zones_held old.sight)) same_queue
          (subst (Wide c.self.inside.geometry.fields b.journal.acts queue) zones_are done.wide)));
    }

pub returns-in-Widen : goal.returns-in-Widen
returns-in-Widen c =
    let i = c.pass.invariant in
    let me : Mine = c.pass.inside.seat.me in
    let queue : ℕ = c.pass.inside.queue in
    let old : Pass = c.args.pass.now in
    let b : Book = c.in-Some.book in
    let same = c.in-Widen.ensures.served in
    let h = in_hand me.0 c.pass.inside.book b me.0.journal c.in-Some.is i.carries.book_is in
    let same_queue : queue ≡ old.sight.queue = i.queue ∙ ap (λ (p : Pass). p.sight.queue) c.pass.view_is in
    let fields : c.self.inside.geometry.fields ≡ old.desk.geometry = ap (λ (d : DeskId). d.geometry) (c.self.view_is ∙ sym c.requires.desk) in
    let out : old.sight.journal ≡ Some b.journal = ap (λ (p : Pass). p.sight.journal) (sym c.pass.view_is) ∙ h.out in
    let zones_are : zones_in c.pass.inside.cells.items ≡ zones_held old.sight = ap zones_in (plain_cells c.pass.inside.seat.me.0.geometry c.pass.inside.seat.me.0.queue c.pass.inside.open c.pass.inside.seat.me.0.cells c.pass.inside.cells.items (ap (λ (p : Pass). p.opened) c.pass.view_is ∙ c.requires.none_open) i.carries.cells_are) ∙ ap (λ (p : Pass). zones_held p.sight) c.pass.view_is in
    let acts : b.journal.acts ≡ log_of old.sight = ap acts_out (sym out) in
    record {
      pass = c.pass.view_is;
      bytes = same.bytes;
      unread = same.unread;
      narrow = λ e. same.narrow (zones_are ∙ (e ∙ ap zones (sym fields)));
      wants = (λ k. wants_room (sym fields k) (sym acts k) (act_of (sym same_queue k) c.args.sqe c.args.payload)) ∙ same.wants;
    }
