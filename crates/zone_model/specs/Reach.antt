-- The zones that an act may read or change.
use Rattle.std.specs.Prelude.{ℕ, ◌+◌, nat_lt, nat_le, if◌then◌else◌, List, [], ◌∷◌}
use Rattle.zns_types.specs.declared.fields.GeometryFields.{GeometryFields}
use Rattle.zns_types.specs.Geometry.{all_blocks, zone_of}
use Rattle.sqe_codec.specs.declared.cmd.Cmd.{Cmd}
use Rattle.sqe_codec.specs.declared.cmd.Cmd.TheVariants as cmd
use Rattle.zone_model.specs.declared.act.Act.{Act}
use Rattle.zone_model.specs.Places.{command_of}
use Rattle.zone_model.specs.Zones.{zones}
use Rattle.drive_rules.specs.Tables.{zones_between, last_zone}

-- the zone of a block, if the namespace has the block
abbrev pub zone_with : GeometryFields → ℕ → List ℕ
zone_with g lba = if nat_lt lba (all_blocks g) then zone_of g lba ∷ [] else []

-- the zones of blocks, if the namespace has them all
abbrev pub zones_with : GeometryFields → ℕ → ℕ → List ℕ
zones_with g slba blocks = if nat_le (slba + blocks) (all_blocks g) then zones_between (zone_of g slba) (last_zone g slba blocks) else []

abbrev pub reach_of : GeometryFields → Cmd → List ℕ
reach_of g (cmd.Write nsid slba blocks) = zones_with g slba blocks
reach_of g (cmd.Read nsid slba blocks) = zones_with g slba blocks
reach_of g (cmd.Append nsid zslba blocks) = zone_with g zslba
reach_of g (cmd.Send nsid slba act all option) = if all then zones g else zone_with g slba
reach_of g (cmd.Receive nsid slba bytes act filter partial) = zones g
reach_of g (cmd.Excursion nsid slba kind) = zone_with g slba
reach_of g _ = []

-- An act's zones, rising, without a zone that it closes for another.
abbrev pub reach : GeometryFields → Act → List ℕ
reach g a = reach_of g (command_of a)
