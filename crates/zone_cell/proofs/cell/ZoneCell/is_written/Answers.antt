use Rattle.std.proofs.Common.{◌∙◌, arith}
use Rattle.std.proofs.lemmas.Bool.{le-ltb}
use Rattle.zone_cell.proofs.Views.{marked_block, past_blocks}
use Rattle.zone_cell.proofs.cell.ZoneCell.is_written.Goals as goal

pub returns-then-block-from : goal.returns-then-block-from
returns-then-block-from c = c.is_written.ensures ∙ marked_block c.self.inside c.args.self.now c.args.block c.self.view_is (omega arith)

pub returns-else-block-from : goal.returns-else-block-from
returns-else-block-from c = le-ltb c.args.block c.from.result (omega arith) ∙ past_blocks c.self.inside c.args.self.now c.args.block c.self.view_is (omega arith)
