-- Deeds that the zone itself didn't refuse when they were done.
use Rattle.std.specs.Prelude.{◌≡◌, ◌≤◌, Bool, true, false, List, [], ◌∷◌}
use Rattle.zns_types.specs.declared.fields.GeometryFields.{GeometryFields}
use Rattle.drive_rules.specs.declared.deed.Deed.{Deed}
use Rattle.drive_rules.specs.declared.deed.Deed.TheVariants as deed
use Rattle.drive_rules.specs.Deeds.{Admits, blocks_of}
use Rattle.zone_history.specs.Histories.{Done, sight_of}

-- the deed writes blocks
abbrev pub is_write : Deed → Bool
is_write (deed.Write from blocks) = true
is_write (deed.Append blocks) = true
is_write _ = false

-- After the deeds `ds` no row of the zone refuses `d`, and a write has at least one block.
pub record IsAdmitted (g : GeometryFields) (ds : List Done) (d : Deed) : Type 0 where
  pub rows : Admits g (sight_of g ds) d
  pub some : is_write d ≡ true → 1 ≤ blocks_of d

-- each deed was admitted after the earlier ones
abbrev pub AreAdmitted : GeometryFields → List Done → Type 0
AreAdmitted g [] = Unit {0}
AreAdmitted g (d ∷ ds) = IsAdmitted g ds d.deed × AreAdmitted g ds
