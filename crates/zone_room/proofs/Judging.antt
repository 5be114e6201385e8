-- Whether another zone can give way matters only where one has to.
use Rattle.std.proofs.Common.{◌≡◌, ℕ, Bool, true, false, cond, List, [], ◌∷◌, ◌++◌, Option, Some, None, refl, sym, ap, ◌∙◌, ◌⊎◌, inl, inr}
use Rattle.std.specs.Prelude.{◌&&◌, not, is_some, is_none}
use Rattle.std.proofs.lemmas.List.{append_assoc}
use Rattle.std.proofs.lemmas.Bool.{and_cases}
use Rattle.zns_types.specs.declared.fields.GeometryFields.{GeometryFields}
use Rattle.zns_types.specs.Rows.{Row, first_holding}
use Rattle.zns_types.specs.Statuses.{Status}
use Rattle.zns_types.proofs.RowLemmas.{first_holding-append_some, first_holding-append_none}
use Rattle.zone_limits.specs.declared.limits.Limits.{Limits}
use Rattle.zone_limits.specs.declared.limits.Need.{Need}
use Rattle.zone_limits.specs.Resources.{no_active_left, no_open_left, no_window_left, need_rows, evicts}
use Rattle.drive_rules.specs.Tables.{wants_room}

-- the rows after the want of an active resource
later_rows : GeometryFields → Limits → Need → Bool → List (Row Status)
later_rows g n need evictable = no_open_left g n need evictable ∷ no_window_left g n need ∷ []

-- if an earlier row holds, no later one matters
earlier_row : (g : GeometryFields) (n : Limits) (rows : List (Row Status)) (need : Need) (evictable : Bool) (s : Status) → first_holding (rows ++ no_active_left g n need ∷ []) ≡ Some s → first_holding (rows ++ need_rows g n need evictable) ≡ Some s
unfolding later_rows
earlier_row g n rows need evictable s e =
    ap first_holding (sym (append_assoc rows (no_active_left g n need ∷ []) (later_rows g n need evictable))) ∙ first_holding-append_some (rows ++ no_active_left g n need ∷ []) (later_rows g n need evictable) s e

some_is : (o : Option Status) → is_none o ≡ false → (s : Status) × (o ≡ Some s)
some_is (Some s) e = (s, refl)
some_is None e = absurd cc

-- below the open limit, or if no open resource is needed
same_rows : (g : GeometryFields) (n : Limits) (need : Need) (a b : Bool) → evicts g n need ≡ false → need_rows g n need a ≡ need_rows g n need b
same_rows g n need a b e = rw e refl

pub wants_judged : (g : GeometryFields) (n : Limits) (rows : List (Row Status)) (need : Need) (e : Option ℕ)
    → first_holding (rows ++ need_rows g n need (is_some e)) ≡ first_holding (rows ++ need_rows g n need (is_some (cond (wants_room g n rows need) e None)))
wants_judged g n rows need e = by_case (wants_room g n rows need) refl
  where
    by_row : is_none (first_holding (rows ++ no_active_left g n need ∷ [])) ≡ false → first_holding (rows ++ need_rows g n need (is_some e)) ≡ first_holding (rows ++ need_rows g n need false)
    by_row is =
        let found = some_is (first_holding (rows ++ no_active_left g n need ∷ [])) is in
        earlier_row g n rows need (is_some e) found.0 found.1 ∙ sym (earlier_row g n rows need false found.0 found.1)

    unwanted : (is_none (first_holding (rows ++ no_active_left g n need ∷ [])) ≡ false) ⊎ (evicts g n need ≡ false) → first_holding (rows ++ need_rows g n need (is_some e)) ≡ first_holding (rows ++ need_rows g n need false)
    unwanted (inl row) = by_row row
    unwanted (inr below) = ap (λ (more : List (Row Status)). first_holding (rows ++ more)) (same_rows g n need (is_some e) false below)

    by_case : (b : Bool) → wants_room g n rows need ≡ b → first_holding (rows ++ need_rows g n need (is_some e)) ≡ first_holding (rows ++ need_rows g n need (is_some (cond b e None)))
    by_case true is = refl
    by_case false is = unwanted (and_cases _ _ is)

-- ---- for rows that let a deed pass, and for rows that refuse it

is_none_one : (r : Row Status) → is_none (first_holding (r ∷ [])) ≡ not r.holds
is_none_one r = by_case r.holds
  where
    by_case : (b : Bool) → is_none (cond b (Some r.answer) None) ≡ not b
    by_case true = refl
    by_case false = refl

pub wants-admitted : (g : GeometryFields) (n : Limits) (rows : List (Row Status)) (need : Need) → first_holding rows ≡ None → wants_room g n rows need ≡ (not (no_active_left g n need).holds && evicts g n need)
wants-admitted g n rows need none =
    ap (λ (o : Option Status). is_none o && evicts g n need) (first_holding-append_none rows (no_active_left g n need ∷ []) none) ∙ ap (λ (b : Bool). b && evicts g n need) (is_none_one (no_active_left g n need))

pub wants-refused : (g : GeometryFields) (n : Limits) (rows : List (Row Status)) (need : Need) (s : Status) → first_holding rows ≡ Some s → wants_room g n rows need ≡ false
wants-refused g n rows need s e = rw (first_holding-append_some rows (no_active_left g n need ∷ []) s e) refl
