use Rattle.std.proofs.Common.{◌∙◌, refl}
use Rattle.std.specs.Prelude.{false}
use Rattle.std.proofs.lemmas.List.{length-replicate}
use Rattle.zone_cell.proofs.Blocks.{length-kept, kept-none}
use Rattle.zone_cell.proofs.cell.ZoneCell.new.Goals as goal

pub returns-clause-fresh : goal.returns-clause-fresh
returns-clause-fresh c = rw (c.in_ok-written.ensures, kept-none c.block_len.result c.fields.result.now.capacity c.in_ok-bytes.bytes.items, c.block_len.ensures.exact, c.fields.ensures) refl

pub returns-clause-kept : goal.returns-clause-kept
returns-clause-kept c = record {
  zone = c.requires;
  len = c.block_len.ensures.exact;
  blocks = length-kept c.block_len.result c.in_ok-bytes.bytes.items c.in_ok-written.written ∙ rw (c.in_ok-written.ensures, c.fields.ensures) (length-replicate c.args.g.now.fields.capacity false);
  windows = λ on. absurd cc;
  granular = λ on. absurd cc;
  active = λ on. absurd cc;
}
