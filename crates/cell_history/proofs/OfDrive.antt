-- The cell of a zone of a drive is a cell of that drive.
use Rattle.std.proofs.Common.{refl}
use Rattle.std.proofs.lemmas.List.FromFn.{length-map-range_with_len}
use Rattle.zone_history.specs.Histories.{block_of}
use Rattle.zone_history.proofs.Ways.{window-parts, window_active}
use Rattle.zone_history.proofs.Standing.{stands, window_granular}
use Rattle.cell_history.specs.Cells.{cell_of, CellIsOfDrive}

pub cell-of_drive : CellIsOfDrive
unfolding cell_of
cell-of_drive g z ds is lt a = record {
  zone = lt;
  len = refl;
  blocks = length-map-range_with_len (block_of g ds) 0 g.capacity;
  windows = λ there. (stands g is ds a).windows (window-parts g ds there).1;
  granular = λ there. window_granular g ds is a there;
  active = λ there. window_active g ds there;
}
