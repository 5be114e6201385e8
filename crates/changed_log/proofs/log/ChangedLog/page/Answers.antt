use Rattle.std.proofs.Common.{◌≡◌, ℕ, ◌+◌, ◌*◌, ◌-◌, List, ◌++◌, length, take, drop, ap, ◌∙◌, arith}
use Rattle.std.specs.Prelude.{replicate}
use Rattle.byteorder.specs.Endian.{little_bytes}
use Rattle.drive_rules.specs.Reports.{changed_page}
use Rattle.changed_log.specs.Logs.{marked_zones, first_blocks}
use Rattle.changed_log.proofs.FirstBlocks.{page-listed, page-overflow}
use Rattle.changed_log.proofs.log.ChangedLog.page.Goals as goal

pub returns-then-number-gt511 : goal.returns-then-number-gt511
returns-then-number-gt511 c =
    page-overflow c.args.g.now.fields (marked_zones c.self.inside.noted) c.put_number.new.out (length c.args.out.now) c.requires.len (omega (arith, c.count-number.ensures.number)) c.put_number.ensures
    ∙ ap (λ (zs : List ℕ). changed_page c.args.g.now.fields zs) c.self.view_is

pub returns-else-number-gt511 : goal.returns-else-number-gt511
returns-else-number-gt511 c =
    let g = c.args.g.now.fields in
    let zones = marked_zones c.self.inside.noted in
    let len = length c.args.out.now in
    let head : c.put_number-else-number-gt511.new.out ≡ little_bytes 2 (length zones) ++ replicate (len - 2) 0 =
    c.put_number-else-number-gt511.ensures ∙ ap (λ (n : ℕ). little_bytes 2 n ++ replicate (len - 2) 0) c.count-number.ensures.number in
    let made = c.list_firsts.ensures ∙ ap (λ (xs : List ℕ). take 8 xs ++ (first_blocks g zones ++ drop (8 + 8 * length zones) xs)) head in
    page-listed g zones c.list_firsts.new.out len c.requires.len (omega (arith, c.count-number.ensures.number)) made ∙ ap (λ (zs : List ℕ). changed_page g zs) c.self.view_is
