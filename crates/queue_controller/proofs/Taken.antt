-- The words of zones are taken one after another.
use Rattle.std.proofs.Common.{◌≡◌, ℕ, zero, suc, ◌+◌, ◌-◌, ◌<◌, ◌≤◌, List, [], ◌∷◌, ◌++◌, length, refl, ap, sym, ◌∙◌, subst, arith, inl, inr, append_assoc}
use Rattle.std.specs.List.{range_with_len}
use Rattle.std.proofs.lemmas.List.FromFn.{length-range_with_len}
use mathlib.Core.List.{map-append}
use Rattle.zns_types.specs.declared.fields.GeometryFields.{GeometryFields}
use Rattle.zone_cell.specs.Cells.{Cell}
use Rattle.zns_types.specs.Geometry.{IsGeometry}
use Rattle.zone_model.specs.declared.act.Act.{Act}
use Rattle.zone_model.specs.Local.{IsRange}
use Rattle.zone_model.proofs.LocalFacts.{reach_is_range}
use Rattle.solo_drive.specs.Parts.{AreLent}
use Rattle.zone_desk.specs.Sights.{in_order, zones_held, zone_words, missed, with_cells}
use Rattle.zone_desk.specs.Passes.{DeskId, Pass, knowing, IsAbove, MayTake, HasTakenZone}
use Rattle.queue_controller.specs.Words.{HoldsNothing, Before, HasStopped}

-- ---- numbers in a row

range_end : (from n : ℕ) → range_with_len from n ++ (from + n) ∷ [] ≡ range_with_len from (suc n)
range_end from zero = ap (λ (k : ℕ). k ∷ []) (omega arith)
range_end from (suc n) = let e : from + suc n ≡ from + 1 + n = omega arith in ap (λ l. from ∷ l) (ap (λ (k : ℕ). range_with_len (from + 1) n ++ k ∷ []) e ∙ range_end (from + 1) n)

range_more : (from z : ℕ) → from ≤ z → range_with_len from (z - from) ++ z ∷ [] ≡ range_with_len from (z + 1 - from)
range_more from z le =
    let last : z ≡ from + (z - from) = omega arith in
    let count : suc (z - from) ≡ z + 1 - from = omega arith in
    ap (λ (k : ℕ). range_with_len from (z - from) ++ k ∷ []) last ∙ (range_end from (z - from) ∙ ap (range_with_len from) count)

-- if `count` numbers from the first on are a range of zones, they lie within the drive's
pub range-within : (g : GeometryFields) (first count : ℕ) → IsRange g (range_with_len first count) → 1 ≤ count → first + count ≤ g.zones
range-within g first zero is some = absurd (omega arith)
range-within g first (suc n) is some = by_count is.count is.all
  where
    long : (m : ℕ) → range_with_len first (suc n) ≡ range_with_len is.first m → suc n ≡ m
    long m e = sym (length-range_with_len first (suc n)) ∙ (ap length e ∙ length-range_with_len is.first m)

    by_count : (m : ℕ) → range_with_len first (suc n) ≡ range_with_len is.first m → first + suc n ≤ g.zones
    by_count zero e = absurd (cc e)
    by_count (suc m) e = let head : first ≡ is.first = cc e in let same = long (suc m) e in let all = long is.count is.all in let within = is.within in omega arith

-- ---- the loop

-- a pass that has the zones from `first` on, up to but not including `zone`, and may take that one's word next
pub record Takes (p : Pass) (first zone : ℕ) (q : Pass) : Type 0 where
  pub view : q ≡ knowing p (with_cells p.sight q.sight.cells)
  pub zones : zones_held q.sight ≡ range_with_len first (zone - first)
  pub above : IsAbove (zone + 2) q.sight.cells

pub takes-none : (p : Pass) (first : ℕ) → p.sight.cells ≡ [] → Takes p first first p
takes-none p first none =
    let n : first - first ≡ 0 = omega arith in
    record {
      view = refl;
      zones = ap (λ (cs : List Cell). zones_held (with_cells p.sight cs)) none ∙ ap (range_with_len first) (sym n);
      above = subst (IsAbove (first + 2)) (sym none) tt;
    }

pub may-take : (desk : DeskId) (p : Pass) (first zone : ℕ) (q : Pass) → Takes p first zone q → HoldsNothing desk p → zone < desk.geometry.zones → MayTake desk.geometry q (zone + 2)
may-take desk p first zone q t free lt =
    record {
      before_book = ap (λ (x : Pass). x.sight.journal) t.view ∙ free.idle.0;
      within = (omega arith, omega arith);
      rising = λ ne. t.above;
      none_open = λ ne. ap (λ (x : Pass). x.opened) t.view ∙ free.none_open;
    }

pub takes-more : (p q q' : Pass) (first zone : ℕ) → first ≤ zone → Takes p first zone q → HasTakenZone zone q q' → Takes p first (zone + 1) q'
takes-more p q q' first zone le t taken =
    let c : Cell = taken.0 in
    let at : c.zone ≡ zone = taken.1 in
    let is = taken.2 in
    let cells : q'.sight.cells ≡ c ∷ q.sight.cells = ap (λ (x : Pass). x.sight.cells) is in
    let held : zones_held q'.sight ≡ zones_held q.sight ++ c.zone ∷ [] = ap (λ (x : Pass). zones_held x.sight) is ∙ map-append (λ (x : Cell). x.zone) (in_order q.sight.cells) (c ∷ []) in
    record {
      view = is ∙ (ap (λ (x : Pass). knowing x (with_cells x.sight (c ∷ q.sight.cells))) t.view ∙ ap (λ (l : List Cell). knowing p (with_cells p.sight l)) (sym cells));
      zones = held ∙ ((λ i. t.zones i ++ at i ∷ []) ∙ range_more first zone le);
      above = subst (IsAbove (zone + 1 + 2)) (sym cells) (omega arith);
    }

-- ---- a reach

-- lent zones are a range
pub lent-range : (g : GeometryFields) (a : Act) (zs : List ℕ) → IsGeometry g → AreLent g a zs → IsRange g zs
lent-range g a zs is (inl own) = subst (IsRange g) (sym own) (reach_is_range g is a)
lent-range g a zs is (inr all) = subst (IsRange g) (sym all) record { first = 0; count = g.zones; all = refl; within = omega arith }

-- ---- a word that was found held

zone-word : (first n k : ℕ) → k < n → Before (zone_words (range_with_len first k)) (first + k + 2) (zone_words (range_with_len first n))
zone-word first zero k h = absurd (omega arith)
zone-word first (suc n) zero h = let e : first ≡ first + 0 = omega arith in (zone_words (range_with_len (first + 1) n), ap (λ (x : ℕ). (x + 2) ∷ zone_words (range_with_len (first + 1) n)) e)
zone-word first (suc n) (suc k) h =
    let t = zone-word (first + 1) n k (omega arith) in
    let e : first + 1 + k + 2 ≡ first + suc k + 2 = omega arith in
    (t.0, ap (λ l. (first + 2) ∷ l) (t.1 ∙ ap (λ (x : ℕ). zone_words (range_with_len (first + 1) k) ++ x ∷ t.0) e))

-- the zones before it are taken
pub stops-at : (p q q' : Pass) (first end zone : ℕ) → first ≤ zone → zone < end → Takes p first zone q → q' ≡ knowing q (missed q.sight (zone + 2)) → HasStopped (range_with_len first (end - first)) (zone + 2) p q'
stops-at p q q' first end zone low high t is =
    let w = zone-word first (end - first) (zone - first) (omega arith) in
    let word : first + (zone - first) + 2 ≡ zone + 2 = omega arith in
    let cells : q'.sight.cells ≡ q.sight.cells = ap (λ (x : Pass). x.sight.cells) is in
    let held : zones_held q'.sight ≡ range_with_len first (zone - first) = ap (λ (x : Pass). zones_held x.sight) is ∙ t.zones in
    record {
      pass = is ∙ (ap (λ (x : Pass). knowing x (missed x.sight (zone + 2))) t.view ∙ ap (λ (l : List Cell). knowing p (missed (with_cells p.sight l) (zone + 2))) (sym cells));
      before = (w.0, w.1 ∙ (λ i. zone_words (sym held i) ++ word i ∷ w.0));
    }

-- a longer list begins with the same words
pub before-more : (held words more : List ℕ) (word : ℕ) → Before held word words → Before held word (words ++ more)
before-more held words more word b = (b.0 ++ more, ap (λ l. l ++ more) b.1 ∙ append_assoc held (word ∷ b.0) more)
