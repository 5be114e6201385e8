use Rattle.std.proofs.Common.{◌≡◌, ◌-◌, ◌<◌, ◌+◌, false, Option, Some, None, [], ◌∷◌, ◌++◌, List, ℕ, length, arith, inr, ap, sym, ◌∙◌, subst, length-append, refl}
use Rattle.zns_types.specs.declared.fields.GeometryFields.{GeometryFields}
use Rattle.sqe_codec.specs.Commands.{transfer_len}
use Rattle.zone_model.specs.declared.act.Act.{Act}
use Rattle.zone_model.specs.Kept.{KeptActs}
use Rattle.zone_model.specs.Places.{command_of}
use Rattle.drive_book.specs.declared.book.Book.{Book}
use Rattle.drive_book.specs.Books.{BookStands}
use Rattle.solo_drive.specs.Ahead.{IsDue}
use Rattle.solo_drive.specs.Applying.{history_of}
use Rattle.solo_drive.specs.Drives.{act_of}
use Rattle.solo_drive.specs.Parts.{zones_in, AreLent}
use Rattle.zone_desk.specs.Ahead.{Open}
use Rattle.zone_desk.specs.Parts.{zones_at, Covers, wants_room, ledger_at, with_act, IsEntered}
use Rattle.zone_desk.specs.Sights.{in_order, acts_out, log_of, committed}
use Rattle.zone_desk.specs.Plays.{Mine}
use Rattle.zone_desk.specs.Passes.{DeskId, Pass, knowing, with_open, Carries}
use Rattle.zone_desk.proofs.Parts.{covering, ledger-book, ledger-same}
use Rattle.zone_desk.proofs.Carried.{in_hand, moved_cells, carried_after, at-in_order, held-covers}
use Rattle.zone_desk.proofs.desk.Desk.settle_act.Goals as goal

pub settle_on-posted-requires-clause-spare : goal.settle_on-posted-requires-clause-spare
settle_on-posted-requires-clause-spare c =
    let me : Mine = c.pass.inside.seat.me in
    let h = in_hand me.0 c.pass.inside.book c.in-Some.book me.0.journal c.in-Some.is c.pass.invariant.carries.book_is in
    omega (arith, h.room, c.requires.spare, ap (λ (p : Pass). p.sight.spare) c.pass.view_is)

pub settle_on-posted-requires-clause-payload : goal.settle_on-posted-requires-clause-payload
settle_on-posted-requires-clause-payload c =
    let i = c.pass.invariant in
    let me : Mine = c.pass.inside.seat.me in
    let b : Book = c.in-Some.book in
    let desk = ap (λ (p : Pass). p.desk) c.pass.view_is ∙ (c.requires.desk ∙ sym c.self.view_is) in
    let same : c.self.inside.geometry.fields ≡ me.0.geometry = sym (ap (λ (d : DeskId). d.geometry) desk) in
    let h = in_hand me.0 c.pass.inside.book b me.0.journal c.in-Some.is i.carries.book_is in
    let o : Open = record { sqe = c.args.sqe; payload = c.args.payload; ready = c.args.ready } in
    let open_is : c.pass.inside.open ≡ Some o = ap (λ (p : Pass). p.opened) c.pass.view_is ∙ c.requires.opened in
    let bears = moved_cells me.0.geometry me.0.queue o c.pass.inside.open me.0.cells c.pass.inside.cells.items open_is i.carries.cells_are in
    let there = bears.moved b.journal.acts (at-in_order me.0.geometry b.journal.acts me.0.cells h.cells) in
    let Whole : GeometryFields → ℕ → Type 0 = λ g n. length c.args.payload ≡ transfer_len g (command_of (act_of n c.args.sqe c.args.payload)) in
    subst (λ (g : GeometryFields). Whole g c.pass.inside.queue) (sym same) (subst (Whole me.0.geometry) (sym i.queue) bears.payload)

pub settle_on-posted-requires-clause-stands : goal.settle_on-posted-requires-clause-stands
settle_on-posted-requires-clause-stands c =
    let i = c.pass.invariant in
    let me : Mine = c.pass.inside.seat.me in
    let b : Book = c.in-Some.book in
    let desk = ap (λ (p : Pass). p.desk) c.pass.view_is ∙ (c.requires.desk ∙ sym c.self.view_is) in
    let same : c.self.inside.geometry.fields ≡ me.0.geometry = sym (ap (λ (d : DeskId). d.geometry) desk) in
    let h = in_hand me.0 c.pass.inside.book b me.0.journal c.in-Some.is i.carries.book_is in
    let o : Open = record { sqe = c.args.sqe; payload = c.args.payload; ready = c.args.ready } in
    let open_is : c.pass.inside.open ≡ Some o = ap (λ (p : Pass). p.opened) c.pass.view_is ∙ c.requires.opened in
    let bears = moved_cells me.0.geometry me.0.queue o c.pass.inside.open me.0.cells c.pass.inside.cells.items open_is i.carries.cells_are in
    let there = bears.moved b.journal.acts (at-in_order me.0.geometry b.journal.acts me.0.cells h.cells) in
    subst (λ (g : GeometryFields). BookStands g b) (sym same) (ledger-book me.0.geometry b h.is)

pub settle_on-posted-requires-clause-due : goal.settle_on-posted-requires-clause-due
settle_on-posted-requires-clause-due c =
    let i = c.pass.invariant in
    let me : Mine = c.pass.inside.seat.me in
    let b : Book = c.in-Some.book in
    let desk = ap (λ (p : Pass). p.desk) c.pass.view_is ∙ (c.requires.desk ∙ sym c.self.view_is) in
    let same : c.self.inside.geometry.fields ≡ me.0.geometry = sym (ap (λ (d : DeskId). d.geometry) desk) in
    let h = in_hand me.0 c.pass.inside.book b me.0.journal c.in-Some.is i.carries.book_is in
    let o : Open = record { sqe = c.args.sqe; payload = c.args.payload; ready = c.args.ready } in
    let open_is : c.pass.inside.open ≡ Some o = ap (λ (p : Pass). p.opened) c.pass.view_is ∙ c.requires.opened in
    let bears = moved_cells me.0.geometry me.0.queue o c.pass.inside.open me.0.cells c.pass.inside.cells.items open_is i.carries.cells_are in
    let there = bears.moved b.journal.acts (at-in_order me.0.geometry b.journal.acts me.0.cells h.cells) in
    let Due : GeometryFields → ℕ → Type 0 = λ g n. IsDue g (history_of g b) (act_of n c.args.sqe c.args.payload) c.args.ready in
    subst (λ (g : GeometryFields). Due g c.pass.inside.queue) (sym same) (subst (Due me.0.geometry) (sym i.queue) there.due)

pub commit-requires-clause-geometry : goal.commit-requires-clause-geometry
commit-requires-clause-geometry c =
    let desk = ap (λ (p : Pass). p.desk) c.pass.view_is ∙ (c.requires.desk ∙ sym c.self.view_is) in
    ap (λ (d : DeskId). d.geometry) desk ∙ c.self.invariant.geometry

pub commit-requires-clause-slots : goal.commit-requires-clause-slots
commit-requires-clause-slots c =
    let desk = ap (λ (p : Pass). p.desk) c.pass.view_is ∙ (c.requires.desk ∙ sym c.self.view_is) in
    c.self.invariant.slots ∙ ap (λ (d : DeskId). d.geometry.zones + 1) (sym desk)

pub commit-requires-clause-zones : goal.commit-requires-clause-zones
commit-requires-clause-zones c =
    let i = c.pass.invariant in
    let me : Mine = c.pass.inside.seat.me in
    let b : Book = c.in-Some.book in
    let desk = ap (λ (p : Pass). p.desk) c.pass.view_is ∙ (c.requires.desk ∙ sym c.self.view_is) in
    let same : c.self.inside.geometry.fields ≡ me.0.geometry = sym (ap (λ (d : DeskId). d.geometry) desk) in
    let h = in_hand me.0 c.pass.inside.book b me.0.journal c.in-Some.is i.carries.book_is in
    let o : Open = record { sqe = c.args.sqe; payload = c.args.payload; ready = c.args.ready } in
    let open_is : c.pass.inside.open ≡ Some o = ap (λ (p : Pass). p.opened) c.pass.view_is ∙ c.requires.opened in
    let bears = moved_cells me.0.geometry me.0.queue o c.pass.inside.open me.0.cells c.pass.inside.cells.items open_is i.carries.cells_are in
    let there = bears.moved b.journal.acts (at-in_order me.0.geometry b.journal.acts me.0.cells h.cells) in
    let g : GeometryFields = me.0.geometry in
    let a : Act = act_of c.pass.inside.queue c.args.sqe c.args.payload in
    let lent : AreLent g a (zones_in (in_order me.0.cells)) = subst (λ (n : ℕ). AreLent g (act_of n c.args.sqe c.args.payload) (zones_in (in_order me.0.cells))) (sym i.queue) bears.lent in
    let narrow : wants_room g b.journal.acts a ≡ false = subst (λ (x : GeometryFields). wants_room x b.journal.acts a ≡ false) same c.settle_on-posted.ensures.alone in
    let covers : Covers g b.journal.acts a me.0.cells = held-covers g b.journal.acts a me.0.cells (in_order me.0.cells) refl (covering g b.journal.acts a (in_order me.0.cells) lent (inr narrow)) in
    subst (λ (x : List ℕ). Covers g (log_of me.0) (act_of c.pass.inside.queue c.args.sqe x) me.0.cells) (sym c.of-bytes.ensures)
    (subst (λ (j : Option KeptActs). Covers g (acts_out j) a me.0.cells) (sym h.out) covers)

pub invariant_of-pass : goal.invariant_of-pass
invariant_of-pass c =
    let i = c.pass.invariant in
    let me : Mine = c.pass.inside.seat.me in
    let b : Book = c.in-Some.book in
    let desk = ap (λ (p : Pass). p.desk) c.pass.view_is ∙ (c.requires.desk ∙ sym c.self.view_is) in
    let same : c.self.inside.geometry.fields ≡ me.0.geometry = sym (ap (λ (d : DeskId). d.geometry) desk) in
    let h = in_hand me.0 c.pass.inside.book b me.0.journal c.in-Some.is i.carries.book_is in
    let o : Open = record { sqe = c.args.sqe; payload = c.args.payload; ready = c.args.ready } in
    let open_is : c.pass.inside.open ≡ Some o = ap (λ (p : Pass). p.opened) c.pass.view_is ∙ c.requires.opened in
    let bears = moved_cells me.0.geometry me.0.queue o c.pass.inside.open me.0.cells c.pass.inside.cells.items open_is i.carries.cells_are in
    let there = bears.moved b.journal.acts (at-in_order me.0.geometry b.journal.acts me.0.cells h.cells) in
    let queue : ℕ = c.pass.inside.queue in
    let a : Act = act_of queue c.args.sqe c.args.payload in
    let kept : Book = c.settle_on-posted.new.kept in
    let spare : 0 < me.0.spare = omega (arith, c.requires.spare, ap (λ (p : Pass). p.sight.spare) c.pass.view_is) in
    let now = c.commit.ensures.seat ∙ ap (λ (x : List ℕ). (committed me.0 (act_of queue c.args.sqe x), me.1)) c.of-bytes.ensures in
    let book : kept ≡ ledger_at me.0.geometry (with_act b.journal a) =
    c.settle_on-posted.ensures.kept ∙ (ledger-same c.self.inside.geometry.fields (with_act b.journal a) ∙ ap (λ (g : GeometryFields). ledger_at g (with_act b.journal a)) same) in
    let cells = subst (λ (n : ℕ). c.pass.inside.cells.items ≡ zones_at me.0.geometry (b.journal.acts ++ act_of n c.args.sqe c.args.payload ∷ []) (zones_in (in_order me.0.cells))) (sym i.queue) there.zones in
    let carried = carried_after c.pass.inside.seat.table_id.words c.pass.inside.open c.pass.inside.book c.pass.inside.cells.items me b kept c.pass.inside.cells.items a i.carries h spare book cells in
    record {
      queue = i.queue ∙ sym (ap (λ (m : Mine). m.0.queue) now);
      served = omega (arith, i.served, length-append me.0.own (a ∷ []), ap (λ (m : Mine). length m.0.own) now);
      spare = ap (λ n. n - 1) i.spare ∙ sym (ap (λ (m : Mine). m.0.spare) now);
      small = omega (arith, i.small, i.spare, spare);
      kind = ap (λ (m : Mine). m.0.kind) now ∙ i.kind;
      carries = subst (λ d. Carries d.words None (Some kept) c.pass.inside.cells.items c.commit.new.seat.me) (sym c.commit.ensures.table)
          (subst (Carries c.pass.inside.seat.table_id.words None (Some kept) c.pass.inside.cells.items) (sym now) carried);
      fits = omega (arith, i.fits, ap (λ d. d.words) c.commit.ensures.table);
      within = subst (λ (m : Mine). m.0.queue < m.0.geometry.queues) (sym now) i.within;
    }

pub returns : goal.returns
returns c =
    let i = c.pass.invariant in
    let me : Mine = c.pass.inside.seat.me in
    let b : Book = c.in-Some.book in
    let desk = ap (λ (p : Pass). p.desk) c.pass.view_is ∙ (c.requires.desk ∙ sym c.self.view_is) in
    let same : c.self.inside.geometry.fields ≡ me.0.geometry = sym (ap (λ (d : DeskId). d.geometry) desk) in
    let h = in_hand me.0 c.pass.inside.book b me.0.journal c.in-Some.is i.carries.book_is in
    let o : Open = record { sqe = c.args.sqe; payload = c.args.payload; ready = c.args.ready } in
    let open_is : c.pass.inside.open ≡ Some o = ap (λ (p : Pass). p.opened) c.pass.view_is ∙ c.requires.opened in
    let bears = moved_cells me.0.geometry me.0.queue o c.pass.inside.open me.0.cells c.pass.inside.cells.items open_is i.carries.cells_are in
    let there = bears.moved b.journal.acts (at-in_order me.0.geometry b.journal.acts me.0.cells h.cells) in
    let queue : ℕ = c.pass.inside.queue in
    let a : Act = act_of queue c.args.sqe c.args.payload in
    let old : Pass = c.args.pass.now in
    let now = c.commit.ensures.seat ∙ ap (λ (x : List ℕ). (committed me.0 (act_of queue c.args.sqe x), me.1)) c.of-bytes.ensures in
    let first : Pass = record { desk = record { table = c.pass.inside.seat.table_id; geometry = me.0.geometry }; sight = committed me.0 a; opened = None } in
    let next : Pass = record { desk = record { table = c.commit.new.seat.table_id; geometry = c.commit.new.seat.me.0.geometry }; sight = c.commit.new.seat.me.0; opened = None } in
    let viewed : next ≡ first = λ k. record { desk = record { table = c.commit.ensures.table k; geometry = (now k).0.geometry }; sight = (now k).0; opened = None } in
    let same_queue : queue ≡ old.sight.queue = i.queue ∙ ap (λ (p : Pass). p.sight.queue) c.pass.view_is in
    let fields : c.self.inside.geometry.fields ≡ old.desk.geometry = ap (λ (d : DeskId). d.geometry) (c.self.view_is ∙ sym c.requires.desk) in
    let out : old.sight.journal ≡ Some b.journal = ap (λ (p : Pass). p.sight.journal) (sym c.pass.view_is) ∙ h.out in
    let acts : b.journal.acts ≡ log_of old.sight = ap acts_out (sym out) in
    let settled = c.settle_on-posted.ensures in
    record {
      pass = viewed ∙ (ap (λ (p : Pass). with_open (knowing p (committed p.sight a)) None) c.pass.view_is ∙ ap (λ n. with_open (knowing old (committed old.sight (act_of n c.args.sqe c.args.payload))) None) same_queue);
      entered = λ j e.
          let journal : b.journal ≡ j = cc (out, e) in
          let Told : GeometryFields → KeptActs → ℕ → Type 0 = λ g x n. IsEntered g x (act_of n c.args.sqe c.args.payload) c.settle_on-posted.result in
          let here : Told c.self.inside.geometry.fields b.journal queue = record { entries = settled.entries; len = settled.len } in
          subst (λ (g : GeometryFields). Told g j old.sight.queue) fields (subst (λ (x : KeptActs). Told c.self.inside.geometry.fields x old.sight.queue) journal (subst (Told c.self.inside.geometry.fields b.journal) same_queue here));
      narrow = (λ k. wants_room (sym fields k) (sym acts k) (act_of (sym same_queue k) c.args.sqe c.args.payload)) ∙ settled.alone;
    }
