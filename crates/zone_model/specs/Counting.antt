-- How many resources are in use after an act, by what it does to the zones that it changes.
use Rattle.std.specs.Prelude.{◌≡◌, ℕ, ◌<◌, true, List, Option, Some, None}
use Rattle.zns_types.specs.declared.fields.GeometryFields.{GeometryFields}
use Rattle.zns_types.specs.Statuses.{is_success}
use Rattle.zone_limits.specs.declared.limits.Limits.{Limits}
use Rattle.zone_limits.specs.Resources.{recounted}
use Rattle.drive_rules.specs.declared.aim.Aim.{Aim}
use Rattle.drive_rules.specs.Deeds.{closed_use}
use Rattle.drive_rules.specs.Aims.{aim_of}
use Rattle.zone_model.specs.declared.act.Act.{Act}
use Rattle.zone_model.specs.Places.{Place, command_of}
use Rattle.zone_model.specs.Zones.{uses, counts}
use Rattle.zone_model.specs.Answers.{status, evicted, zone_deed, and_then}

-- the counts after a zone, if any, was closed
abbrev pub after_close : GeometryFields → List Place → Option ℕ → Limits → Limits
after_close g h None n = n
after_close g h (Some y) n = recounted (uses g h y) (closed_use (uses g h y)) n

-- An act that does a deed to one zone first closes the zone that gives way, and then counts what its own zone uses.
abbrev pub OneIsCounted : Type 0
OneIsCounted = (g : GeometryFields) (h : List Place) (a : Act) (aim : Aim) → aim_of g (command_of a) ≡ Some aim → aim.zone < g.zones → is_success (status g h a) ≡ true
    → counts g (and_then g h a) ≡ recounted (uses g h aim.zone) (uses g (and_then g h a) aim.zone) (after_close g h (evicted g h a) (counts g h))

-- An act that does nothing to any zone leaves the counts unchanged.
abbrev pub IdleIsUncounted : Type 0
IdleIsUncounted = (g : GeometryFields) (h : List Place) (a : Act) → ((z : ℕ) → zone_deed g h a z ≡ None) → counts g (and_then g h a) ≡ counts g h
