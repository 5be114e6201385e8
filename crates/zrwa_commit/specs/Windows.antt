-- Random write areas of zones: Technical Proposal 4076. The write pointer is the offset of the area's first block; the
-- blocks before it are committed. All offsets are in blocks, from the start of the zone.
use Rattle.std.specs.Prelude.{◌≡◌, ℕ, ◌+◌, ◌-◌, ◌*◌, ◌%◌, ◌≤◌, Bool, not, ◌&&◌, ◌||◌, ◌==◌, nat_lt, nat_le, List, [], ◌∷◌}
use Rattle.zns_types.specs.declared.fields.GeometryFields.{GeometryFields}
use Rattle.zns_types.specs.Statuses.{Status, zone_boundary_error, invalid_field}
use Rattle.zns_types.specs.Rows.{Row, when}
use Rattle.zrwa_commit.specs.Least.{IsLeast}

-- A write starts at or after the pointer, and goes into the area or at most as far again past it.
abbrev pub is_admitted : GeometryFields → ℕ → ℕ → ℕ → Bool
is_admitted g pointer from end = nat_le pointer from && nat_le end (pointer + 2 * g.window)

-- with this many granules committed, a write up to end lies in the area
abbrev pub Suffices : GeometryFields → ℕ → ℕ → ℕ → Type 0
Suffices g pointer end granules = end ≤ pointer + granules * g.granule + g.window

-- The new pointer after an implicit commit: a write moves the area by the fewest granules that let it end inside.
pub record FewestGranules (g : GeometryFields) (pointer end new : ℕ) : Type 0 where
  pub granules : ℕ
  pub moved : new ≡ pointer + granules * g.granule
  pub fewest : IsLeast (Suffices g pointer end) granules

-- the last block to commit lies outside the area, or past the capacity
abbrev pub commit_bounds : GeometryFields → ℕ → ℕ → Bool
commit_bounds g pointer last = nat_lt last pointer || nat_lt (pointer + g.window - 1) last || nat_le g.capacity last

-- the blocks to commit aren't whole granules
abbrev pub cuts_granule : GeometryFields → ℕ → ℕ → Bool
cuts_granule g pointer last = not ((last - pointer + 1) % g.granule == 0)

-- What refuses an explicit commit, in order of precedence.
abbrev pub commit_rows : GeometryFields → ℕ → ℕ → List (Row Status)
commit_rows g pointer last =
    when (commit_bounds g pointer last) zone_boundary_error
    ∷ when (cuts_granule g pointer last) invalid_field
    ∷ []
