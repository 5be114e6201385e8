use Rattle.std.proofs.Common.{◌∷◌, [], ◌++◌, List, map, zero-add, sym, ap, ◌∙◌}
use Rattle.std.specs.List.{range_with_len}
use Rattle.std.proofs.lemmas.List.FromFn.{map-range_with_len_more}
use Rattle.zone_cell.specs.Cells.{Cell, fresh}
use Rattle.solo_drive.proofs.solo.fresh_cells.Goals as goal

pub loop-zone-preserved : goal.loop-zone-preserved
loop-zone-preserved c =
    let g = c.args.g.now.fields in
    let z = c.loop-zone.zone in
    c.in_ok-push.ensures.items
    ∙ ap (λ (cells : List Cell). cells ++ c.in_ok-cell.cell ∷ []) c.loop-zone.invariant
    ∙ ap (λ (cell : Cell). map (fresh g) (range_with_len 0 z) ++ cell ∷ []) c.in_ok-cell.ensures.fresh
    ∙ sym (map-range_with_len_more (fresh g) 0 z z (zero-add z))
