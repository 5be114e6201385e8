-- A pass that gave all parts back holds no word.
use Rattle.std.proofs.Common.{◌≡◌, Option, Some, None, [], refl}
use Rattle.zone_model.specs.Kept.{KeptActs}
use Rattle.zone_desk.specs.Sights.{with_cells, gave_out, given}
use Rattle.zone_desk.specs.Passes.{IsIdle}
use Rattle.zone_desk.specs.declared.sight.Sight.{Sight}

idle-out : (v : Sight) (o : Option KeptActs) → v.journal ≡ o → IsIdle (with_cells (gave_out v o) [])
idle-out v None none = (none, refl)
idle-out v (Some j) out = (refl, refl)

pub idle-given : (v : Sight) → IsIdle (given v)
idle-given v = idle-out v v.journal refl
