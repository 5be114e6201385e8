-- An act was served, and the book alone was given back.
use Rattle.std.proofs.Common.{◌≡◌, ℕ, ◌<◌, None, List, [], ◌∷◌, ◌++◌, refl, ap, sym, ◌∙◌, subst, arith}
use Rattle.zone_model.specs.declared.act.Act.{Act}
use Rattle.zone_model.specs.Kept.{KeptActs}
use Rattle.zone_model.specs.Answers.{answered}
use Rattle.zone_model.specs.Sessions.{acts_of}
use Rattle.drive_book.specs.declared.posted.Posted.{Posted}
use Rattle.solo_drive.specs.Parts.{zones_in}
use Rattle.solo_drive.specs.declared.applied.Applied.TheVariants as applied
use Rattle.solo_drive.proofs.Drives.{zones_in-cells_at}
use Rattle.zone_desk.specs.Parts.{IsAnswered}
use Rattle.zone_desk.specs.Sights.{in_order, zones_held, with_journal, committed, gave, gave_out}
use Rattle.zone_desk.specs.Passes.{DeskId, Pass, knowing, IsCommitted}
use Rattle.zone_desk.specs.declared.sight.Sight.{Sight}
use Rattle.zone_desk.proofs.Carried.{zones-in_order}
use Rattle.queue_controller.specs.Serving.{Serves, IsPosted, ServedOn}
use Rattle.queue_controller.specs.Keeping.{ServedKeeping, rested}

-- a commit doesn't change which zones a pass has
zones_held-committed : (v : Sight) (a : Act) (j : KeptActs) → zones_held (committed (with_journal v j) a) ≡ zones_held v
zones_held-committed v a j =
    let log : List Act = j.acts ++ a ∷ [] in
    ap zones_in (sym (zones-in_order v.geometry log v.cells)) ∙ zones_in-cells_at v.geometry (answered v.geometry log) (zones_in (in_order v.cells))

pub served-keeping : (desk : DeskId) (p p' q : Pass) (a : Act) (posted : Posted) (out out' : List ℕ) → p.desk ≡ desk → p.opened ≡ None → 0 < p.sight.spare → ServedOn p p' a out out' (applied.Done posted) → q ≡ knowing p' (gave_out p'.sight p'.sight.journal) → ServedKeeping desk a posted out out' p.sight q
served-keeping desk p p' q a posted out out' of none some on is =
    let v : Sight = p.sight in
    let j : KeptActs = on.journal in
    let done : IsCommitted (knowing p (with_journal v j)) p' a posted out out' = on.applied in
    let u : Sight = committed (with_journal v j) a in
    let now : q ≡ knowing p (gave u) = is ∙ ap (λ (x : Pass). knowing x (gave_out x.sight x.sight.journal)) done.pass in
    let between : List Act = on.fresh.seen.0 in
    let log : v.seen ++ between ≡ j.acts = on.fresh.seen.1 in
    let answer : IsAnswered p.desk.geometry j a posted out out' = done.answer j refl in
    let before : acts_of v.queue (v.seen ++ between) ≡ v.own = ap (acts_of v.queue) log ∙ on.fresh.own in
    let posted_is : IsPosted p.desk.geometry a posted out out' j.acts = record { entries = answer.entries; len = answer.len; read = answer.read } in
    let answered_is : IsPosted desk.geometry a posted out out' (v.seen ++ between) = subst (λ (d : DeskId). IsPosted d.geometry a posted out out' (v.seen ++ between)) of (subst (IsPosted p.desk.geometry a posted out out') (sym log) posted_is) in
    let serves : Serves (rested v) a (IsPosted desk.geometry a posted out out') (rested (gave u)) = record {
      between = between;
      seen = ap (λ (l : List Act). l ++ a ∷ []) (sym log);
      answered = answered_is;
      before = before;
      own = refl;
      spare = omega arith;
      queue = refl;
      idle = (refl, refl);
    } in
    subst (ServedKeeping desk a posted out out' v) (sym now) record {
      served = record { served = serves; held = record { held = refl; given_back = omega arith; given_back_log = refl } };
      holds = record { desk_is = of; no_book = refl; zones = zones_held-committed v a j; none_open = none };
    }
