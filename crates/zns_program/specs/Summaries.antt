-- The summary of a session that was served in its own order.
use Rattle.std.specs.Prelude.{ℕ, not, List, [], ◌∷◌, ◌++◌, map, length, sum, count_by, codes}
use Rattle.std.specs.Fmt.{decimal}
use Rattle.zns_types.specs.declared.fields.GeometryFields.{GeometryFields}
use Rattle.zone_model.specs.Places.{Place, took}
use Rattle.zone_model.specs.Zones.{pointer, zones, active, opened, windows}
use Rattle.zone_model.specs.Answers.{answered}
use Rattle.zone_model.specs.Sessions.{Recorded}
use Rattle.zns_program.specs.declared.summing.Totals.{Totals}
use Rattle.text_lines.specs.Texts.{line}

-- the sum of all zones' pointers, as offsets; the pointer of a Full zone counts as its capacity
abbrev pub pointers : GeometryFields → List Place → ℕ
pointers g h = sum (map (pointer g h) (zones g))

-- what became of a history's acts, and what the drive then holds
abbrev pub totals : GeometryFields → List Place → Totals
totals g h = record {
  commands = length h;
  success = count_by took h;
  refused = count_by (λ p. not (took p)) h;
  active = active g h;
  opened = opened g h;
  windows = windows g h;
  pointers = pointers g h;
}

-- a line for each number
abbrev pub lines_of : Totals → List ℕ
lines_of t =
    line (codes "commands" ∷ decimal t.commands ∷ [])
    ++ line (codes "success" ∷ decimal t.success ∷ [])
    ++ line (codes "refused" ∷ decimal t.refused ∷ [])
    ++ line (codes "active" ∷ decimal t.active ∷ [])
    ++ line (codes "open" ∷ decimal t.opened ∷ [])
    ++ line (codes "windows" ∷ decimal t.windows ∷ [])
    ++ line (codes "pointers" ∷ decimal t.pointers ∷ [])

unfoldable pub summary : Recorded → List ℕ
summary s = lines_of (totals s.geometry (answered s.geometry s.acts))
