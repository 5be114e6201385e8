-- A command found a zone's word held, and gave everything back.
use Rattle.std.proofs.Common.{◌≡◌, ℕ, List, [], ◌∷◌, ◌++◌, Option, refl, ap, sym, ◌∙◌, subst, append-nil}
use Rattle.zone_cell.specs.Cells.{Cell}
use Rattle.zone_model.specs.Kept.{KeptActs}
use Rattle.zone_desk.specs.Sights.{zones_held, zone_words, book_words, words_of, missed, with_cells, gave_out, given}
use Rattle.zone_desk.specs.Passes.{Pass, knowing, IsIdle}
use Rattle.zone_desk.specs.declared.sight.Sight.{Sight}
use Rattle.queue_controller.specs.Words.{Before, HasStopped}
use Rattle.queue_controller.specs.Serving.{words_for}
use Rattle.queue_controller.specs.Trying.{StoppedAt}
use Rattle.queue_controller.proofs.Taken.{before-more}

pub stopped : (p q t : Pass) (zs : List ℕ) (word : ℕ) → IsIdle p.sight → HasStopped zs word p q → t ≡ knowing q (given q.sight) → StoppedAt (words_for zs) word p.sight t.sight
stopped p q t zs word idle s back =
    let v : Sight = p.sight in
    let cells : List Cell = q.sight.cells in
    let x : Sight = missed (with_cells v cells) word in
    let is : q.sight ≡ x = ap (λ (y : Pass). y.sight) s.pass in
    let gave : given x ≡ with_cells x [] = ap (λ (o : Option KeptActs). with_cells (gave_out x o) []) idle.0 in
    let last : t.sight ≡ with_cells x [] = ap (λ (y : Pass). y.sight) back ∙ (ap given is ∙ gave) in
    let held : zone_words (zones_held q.sight) ≡ words_of (with_cells v cells) = sym (ap (λ (o : Option KeptActs). zone_words (zones_held q.sight) ++ book_words o) idle.0 ∙ append-nil (zone_words (zones_held q.sight))) in
    let more = before-more (zone_words (zones_held q.sight)) (zone_words zs) (1 ∷ []) word s.before in
    subst (StoppedAt (words_for zs) word v) (sym last)
    record {
      found = record { found = refl; last = refl };
      held = subst (λ (l : List ℕ). Before l word (words_for zs)) held more;
      unserved = record { seen = refl; own = refl; spare = refl; queue = refl; idle = (idle.0, refl) };
      given_back = refl;
      given_back_log = refl;
    }
