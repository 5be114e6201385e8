use Rattle.std.proofs.Common.{◌≡◌, ℕ, ◌+◌, ◌-◌, ◌≤◌, subst, arith}
use Rattle.zns_types.specs.declared.fields.GeometryFields.{GeometryFields}
use Rattle.zns_types.specs.Geometry.{IsGeometry}
use Rattle.zone_model.specs.Local.{IsRange}
use Rattle.solo_drive.specs.Reaching.{zones_of}
use Rattle.solo_drive.specs.declared.reach.Reach.{Reach}
use Rattle.solo_drive.specs.declared.reach.Reach.TheVariants.{Range}
use Rattle.queue_controller.specs.Words.{AreInRow}
use Rattle.queue_controller.proofs.Taken.{range-within}
use Rattle.queue_controller.proofs.words.bounds.Goals as goal

-- the zones from the first to the last are the drive's
last-within : (f : GeometryFields) (x : Reach) (first last : ℕ) → IsGeometry f → AreInRow f (zones_of f x) → x ≡ Range first last → first ≤ last → last + 1 ≤ f.zones
last-within f x first last valid row is order =
    let range = subst (λ (y : Reach). IsRange f (zones_of f y)) is (row valid) in
    let within : first + (last + 1 - first) ≤ f.zones = range-within f first (last + 1 - first) range (omega arith) in
    omega (arith, within)

pub overflow_add-result : goal.overflow_add-result
overflow_add-result c =
    let valid = c.args.g.now.valid in
    let within = last-within c.args.g.now.fields c.args.reach c.in-Range.first c.in-Range.last valid c.requires c.in-Range.is c.if-first-last.false in
    let few = valid.zones.few_zones in
    omega (arith, within, few)

pub returns-else-first-last-clause-within : goal.returns-else-first-last-clause-within
returns-else-first-last-clause-within c = last-within c.args.g.now.fields c.args.reach c.in-Range.first c.in-Range.last c.args.g.now.valid c.requires c.in-Range.is c.if-first-last.false

pub returns-else-first-last-clause-few : goal.returns-else-first-last-clause-few
returns-else-first-last-clause-few c =
    let valid = c.args.g.now.valid in
    let within = last-within c.args.g.now.fields c.args.reach c.in-Range.first c.in-Range.last valid c.requires c.in-Range.is c.if-first-last.false in
    let few = valid.zones.few_zones in
    omega (arith, within, few)
