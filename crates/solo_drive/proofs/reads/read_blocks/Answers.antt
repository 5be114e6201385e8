use Rattle.std.proofs.Common.{◌≡◌, ◌+◌, ◌-◌, ◌*◌, ◌++◌, ℕ, List, drop, refl, sym, ap, ◌∙◌}
use Rattle.zns_types.specs.Geometry.{zone_of}
use Rattle.drive_rules.specs.Tables.{last_zone}
use Rattle.drive_book.specs.declared.outcome.Outcome.{Outcome}
use Rattle.drive_book.specs.Outcomes.{plain_success}
use Rattle.solo_drive.specs.Reading.{blocks_from}
use Rattle.solo_drive.proofs.LentReads.{offline-is, read-refused, read-done}
use Rattle.solo_drive.proofs.reads.read_blocks.Goals as goal

pub returns-then-any_offline : goal.returns-then-any_offline
returns-then-any_offline c =
    let g = c.args.g.now.fields in
    let cells = c.args.cells.now in
    let to_is : c.zone_of-to.result ≡ last_zone g c.args.slba c.args.blocks = c.zone_of-to.ensures.exact ∙ ap (λ (n : ℕ). zone_of g (c.args.slba + n - 1)) c.from.ensures in
    let is = offline-is g c.args.first cells c.args.slba c.args.blocks c.zone_of-from.result c.zone_of-to.result c.any_offline.result c.requires.reach c.zone_of-from.ensures.exact to_is c.any_offline.ensures in
    read-refused g c.args.first cells c.args.slba c.args.blocks c.args.out.now c.args.out.now c.refused.result (sym is ∙ c.if-any_offline.true) c.refused.ensures refl

pub returns : goal.returns
returns c =
    let g = c.args.g.now.fields in
    let cells = c.args.cells.now in
    let out = c.args.out.now in
    let len = c.block_len.result in
    let to_is : c.zone_of-to.result ≡ last_zone g c.args.slba c.args.blocks = c.zone_of-to.ensures.exact ∙ ap (λ (n : ℕ). zone_of g (c.args.slba + n - 1)) c.from.ensures in
    let is = offline-is g c.args.first cells c.args.slba c.args.blocks c.zone_of-from.result c.zone_of-to.result c.any_offline.result c.requires.reach c.zone_of-from.ensures.exact to_is c.any_offline.ensures in
    let given = ap (λ (x : Outcome). record x { len = c.args.blocks * len }) c.done.ensures ∙ ap (λ (n : ℕ). record plain_success { len = c.args.blocks * n }) c.block_len.ensures.exact in
    let read =
    ap (λ (front : List ℕ). front ++ drop (c.args.blocks * len) out) c.copy_blocks.ensures
    ∙ ap (λ (n : ℕ). blocks_from g c.args.first cells c.args.slba c.args.blocks ++ drop (c.args.blocks * n) out) c.block_len.ensures.exact in
    read-done g c.args.first cells c.args.slba c.args.blocks out (c.copy_blocks.new.out ++ drop (c.args.blocks * len) out) _ (sym is ∙ c.if-any_offline.false) given read
