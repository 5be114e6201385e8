-- A pass that took the words of zones.
use Rattle.std.specs.Prelude.{◌≡◌, ℕ, List, ◌∷◌, ◌++◌, Option, Some, None}
use Rattle.zns_types.specs.declared.fields.GeometryFields.{GeometryFields}
use Rattle.zns_types.specs.Geometry.{IsGeometry}
use Rattle.zone_model.specs.Local.{IsRange}
use Rattle.zone_desk.specs.Sights.{zones_held, zone_words, missed, with_cells}
use Rattle.zone_desk.specs.Passes.{DeskId, Pass, knowing, IsIdle}

-- a pass of the desk that holds no word, and has no open command
pub record HoldsNothing (desk : DeskId) (p : Pass) : Type 0 where
  pub desk_is : p.desk ≡ desk
  pub idle : IsIdle p.sight
  pub none_open : p.opened ≡ None

-- if the geometry is a drive's, these are a range of its zones
abbrev pub AreInRow : GeometryFields → List ℕ → Type 0
AreInRow g zs = IsGeometry g → IsRange g zs

-- The pass has the cells of these zones. Nothing else changed.
pub record HasZones (zs : List ℕ) (p p' : Pass) : Type 0 where
  pub pass : p' ≡ knowing p (with_cells p.sight p'.sight.cells)
  pub zones : zones_held p'.sight ≡ zs

-- the list begins with these words, and goes on with this one
abbrev pub Before : List ℕ → ℕ → List ℕ → Type 0
Before held word words = (rest : List ℕ) × (words ≡ held ++ word ∷ rest)

-- The word of one of these zones was found held, and the pass has the zones before it. Nothing else changed.
pub record HasStopped (zs : List ℕ) (word : ℕ) (p p' : Pass) : Type 0 where
  pub pass : p' ≡ knowing p (missed (with_cells p.sight p'.sight.cells) word)
  pub before : Before (zone_words (zones_held p'.sight)) word (zone_words zs)

-- each zone's word was taken, or one was found held
abbrev pub TriesZones : List ℕ → Pass → Pass → Option ℕ → Type 0
TriesZones zs p p' None = HasZones zs p p'
TriesZones zs p p' (Some word) = HasStopped zs word p p'
