use Rattle.std.proofs.Common.{◌≡◌, ◌-◌, length, take, drop, map, ℕ, List, ◌∙◌, ap, sym, ◌++◌}
use Rattle.std.proofs.lemmas.List.{length-take-le, take_rest, drop-map}
use Rattle.zns_types.specs.Geometry.{zone_of}
use Rattle.zone_cell.specs.Cells.{Cell, descriptor_of}
use Rattle.drive_rules.specs.Reports.{report}
use Rattle.mgmt_receive.specs.Receiving.{report_of}
use Rattle.mgmt_receive.proofs.reporting.report.Goals as goal

pub returns : goal.returns
returns c =
    let g = c.args.g.now.fields in
    let cells = c.args.cells.now in
    let out = c.args.out.now in
    let bytes = c.args.bytes in
    let kind = c.args.filter in
    let partial = c.args.partial in
    let from = c.zone_of-from.result in
    let len : length (take bytes out) ≡ bytes = length-take-le bytes out c.requires.room in
    let ds : map (descriptor_of g) (drop from cells) ≡ drop (zone_of g c.args.slba) (map (descriptor_of g) cells) =
    sym (drop-map (descriptor_of g) from cells) ∙ ap (λ (z : ℕ). drop z (map (descriptor_of g) cells)) c.zone_of-from.ensures.exact in
    let made : c.fill_report.new.out ≡ report_of g cells c.args.slba bytes kind partial =
    c.fill_report.ensures ∙ ap (λ (n : ℕ). report n kind partial (map (descriptor_of g) (take (length cells - from) (drop from cells)))) len
    ∙ ap (λ (rest : List Cell). report bytes kind partial (map (descriptor_of g) rest)) (take_rest cells from)
    ∙ ap (report bytes kind partial) ds in
    ap (λ (first : List ℕ). first ++ drop bytes out) made
