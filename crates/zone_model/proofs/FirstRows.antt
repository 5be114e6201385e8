-- The first row that holds.
use Rattle.std.proofs.Common.{◌≡◌, Bool, true, false, cond, List, [], ◌∷◌, Some, refl, ap}
use Rattle.std.specs.Prelude.{unwrap_or}
use Rattle.zns_types.specs.declared.fields.GeometryFields.{GeometryFields}
use Rattle.zns_types.specs.Statuses.{Status, success, is_success}
use Rattle.zns_types.specs.Rows.{Row, first_holding}
use Rattle.drive_rules.specs.Tables.{first_refusal}
use Rattle.zone_model.specs.declared.act.Act.{Act}
use Rattle.zone_model.specs.Places.{Place, command_of}
use Rattle.zone_model.specs.Answers.{all_rows, table_of, status}
use Rattle.zone_model.specs.Laws.{FirstHolds}

-- with one more row in front, which doesn't hold
before_first : (r : Row Status) (rs : List (Row Status)) (code : Status) → r.holds ≡ false → FirstHolds rs code → FirstHolds (r ∷ rs) code
before_first r rs code fails first = record {
  earlier = r ∷ first.earlier;
  row = first.row;
  later = first.later;
  order = ap (λ (more : List (Row Status)). r ∷ more) first.order;
  none_earlier = rw fails first.none_earlier;
  holds = first.holds;
  answers = first.answers;
}

first_holds : (rs : List (Row Status)) → is_success (first_refusal rs) ≡ false → FirstHolds rs (first_refusal rs)
first_holds [] refused = absurd (cc refused)
first_holds (r ∷ rs) refused = by_first r.holds refl refused (first_holds rs)
  where
    by_first : (b : Bool) → r.holds ≡ b → is_success (unwrap_or (cond b (Some r.answer) (first_holding rs)) success) ≡ false → (is_success (first_refusal rs) ≡ false → FirstHolds rs (first_refusal rs))
        → FirstHolds (r ∷ rs) (unwrap_or (cond b (Some r.answer) (first_holding rs)) success)
    by_first true holds refused k = record { earlier = []; row = r; later = rs; order = refl; none_earlier = refl; holds = holds; answers = refl }
    by_first false fails refused k = before_first r rs (first_refusal rs) fails (k refused)

pub first_refusal_holds : (g : GeometryFields) (h : List Place) (a : Act) → is_success (status g h a) ≡ false → FirstHolds (all_rows g h (table_of g h (command_of a))) (status g h a)
unfolding status
first_refusal_holds g h a refused = first_holds (all_rows g h (table_of g h (command_of a))) refused
