-- The granules that an implicit commit moves the pointer by.
use Rattle.std.proofs.Common.{◌≡◌, ℕ, ◌+◌, ◌*◌, ◌-◌, ◌%◌, ◌/◌, ◌≤◌, max, sym, refl, arith, ◌∙◌}
use Rattle.std.proofs.Math.Nat.{add-mul}
use Rattle.std.proofs.lemmas.Grind.{div_ceil_times}
use Rattle.std.specs.Int.{div_ceil}
use Rattle.zns_types.specs.declared.fields.GeometryFields.{GeometryFields}
use Rattle.zrwa_commit.specs.Least.{least_multiple}
use Rattle.zrwa_commit.specs.Windows.{FewestGranules}
use Rattle.zrwa_commit.proofs.LeastLemmas.{fewer_granules, granules_of, least_multiple-between}

-- the granules that the blocks past the area take
abbrev pub past_area : GeometryFields → ℕ → ℕ → ℕ
past_area g p end = div_ceil (end - (p + g.window)) g.granule

pub past_area-fewest : (g : GeometryFields) (p end : ℕ) → 1 ≤ g.granule → FewestGranules g p end (p + past_area g p end * g.granule)
past_area-fewest g p end pos =
    let x = end - (p + g.window) in
    let k = past_area g p end in
    let bounds = div_ceil_times x g.granule pos in
    record {
      granules = k;
      moved = refl;
      fewest = record { holds = omega (arith, bounds.0); below = λ m enough. fewer_granules g.granule k m (omega (arith, bounds.1)) };
    }

pub past_area-least : (g : GeometryFields) (p end : ℕ) → 1 ≤ g.granule → p % g.granule ≡ 0 → p + past_area g p end * g.granule ≡ least_multiple g.granule (max p (end - g.window))
past_area-least g p end pos on =
    let x = end - (p + g.window) in
    let k = past_area g p end in
    let bounds = div_ceil_times x g.granule pos in
    let sum : (p / g.granule + k) * g.granule ≡ p + k * g.granule = add-mul (p / g.granule) k g.granule ∙ rw (granules_of g.granule p on) refl in
    sym (least_multiple-between g.granule (max p (end - g.window)) (p / g.granule + k) pos (omega (arith, bounds.0)) (omega (arith, bounds.1)) ∙ sum)
