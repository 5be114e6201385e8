-- The resources that zones use in total, after the use of one or two of them has changed.
use Rattle.std.proofs.Common.{◌≡◌, ◌≢◌, ℕ, ◌<◌, ◌≤◌, Bool, true, false, cond, refl, sym, ap, ◌∙◌, inl, inr}
use Rattle.std.specs.Prelude.{◌==◌, ◌⊎◌}
use Rattle.std.proofs.lemmas.Bool.{cases_eq, eq-eqb, ne_eqb}
use Rattle.zns_types.specs.declared.fields.GeometryFields.{GeometryFields}
use Rattle.zone_limits.specs.declared.limits.Limits.{Limits}
use Rattle.zone_limits.specs.declared.limits.Need.{Need}
use Rattle.zone_limits.specs.Resources.{recounted}
use Rattle.zone_model.specs.Zones.{counted}
use Rattle.zone_model.proofs.Ranges.{count-same, count-set, count-used, count-unused, count_below}

pub counted-same : (g : GeometryFields) (old new : ℕ → Need) → ((x : ℕ) → x < g.zones → new x ≡ old x) → counted g new ≡ counted g old
unfolding counted
counted-same g old new same = rw (
  count-same (λ x. (new x).active) (λ x. (old x).active) g.zones (λ x lt. ap (λ (u : Need). u.active) (same x lt)),
  count-same (λ x. (new x).opened) (λ x. (old x).opened) g.zones (λ x lt. ap (λ (u : Need). u.opened) (same x lt)),
  count-same (λ x. (new x).window) (λ x. (old x).window) g.zones (λ x lt. ap (λ (u : Need). u.window) (same x lt)),
) refl

-- the total after the use of one zone has changed
pub counted-set : (g : GeometryFields) (old new : ℕ → Need) (z : ℕ) → z < g.zones → ((x : ℕ) → x ≢ z → new x ≡ old x) → counted g new ≡ recounted (old z) (new z) (counted g old)
unfolding counted
counted-set g old new z lt same = rw (
  count-set (λ x. (new x).active) (λ x. (old x).active) z g.zones lt (λ x other. ap (λ (u : Need). u.active) (same x other)),
  count-set (λ x. (new x).opened) (λ x. (old x).opened) z g.zones lt (λ x other. ap (λ (u : Need). u.opened) (same x other)),
  count-set (λ x. (new x).window) (λ x. (old x).window) z g.zones lt (λ x other. ap (λ (u : Need). u.window) (same x other)),
) refl

-- the total after the uses of two zones have changed
pub counted-set_two : (g : GeometryFields) (old new : ℕ → Need) (y z : ℕ) → y ≢ z → y < g.zones → z < g.zones → ((x : ℕ) → x ≢ y → x ≢ z → new x ≡ old x)
    → counted g new ≡ recounted (old z) (new z) (recounted (old y) (new y) (counted g old))
counted-set_two g old new y z apart y_lt z_lt same =
    counted-set g mid new z z_lt (λ x other. off_z x other (cases_eq x y))
    ∙ rw (mid-other z (λ e. apart (sym e)), sym (mid-here y refl)) (ap (recounted (old z) (new z)) (counted-set g old mid y y_lt mid-other))
  where
    -- only the first has changed
    mid : ℕ → Need
    mid x = cond (x == y) (new x) (old x)

    mid-other : (x : ℕ) → x ≢ y → mid x ≡ old x
    mid-other x other = rw (ne_eqb x y other) refl

    mid-here : (x : ℕ) → x ≡ y → mid x ≡ new x
    mid-here x here = rw (eq-eqb x y here) refl

    off_z : (x : ℕ) → x ≢ z → (x ≡ y) ⊎ (x ≡ y → ⊥) → new x ≡ mid x
    off_z x other (inl here) = sym (mid-here x here)
    off_z x other (inr there) = same x there other ∙ sym (mid-other x there)

-- ---- one zone among them

-- a zone that uses a resource is counted, and a zone that doesn't is left out
pub record CountsOne (zones n : ℕ) (uses : Bool) : Type 0 where
  pub used : uses ≡ true → 1 ≤ n
  pub unused : uses ≡ false → n < zones

pub record CountsUse (g : GeometryFields) (n : Limits) (u : Need) : Type 0 where
  pub active : CountsOne g.zones n.active u.active
  pub opened : CountsOne g.zones n.opened u.opened
  pub windows : CountsOne g.zones n.windows u.window

counted-one : (test : ℕ → Bool) (z n : ℕ) → z < n → CountsOne n (count_below test n) (test z)
counted-one test z n lt = record { used = count-used test z n lt; unused = count-unused test z n lt }

-- the total counts what each zone uses
pub counted-use : (g : GeometryFields) (use_by : ℕ → Need) (z : ℕ) → z < g.zones → CountsUse g (counted g use_by) (use_by z)
unfolding counted
counted-use g use_by z lt = record {
  active = counted-one (λ x. (use_by x).active) z g.zones lt;
  opened = counted-one (λ x. (use_by x).opened) z g.zones lt;
  windows = counted-one (λ x. (use_by x).window) z g.zones lt;
}
