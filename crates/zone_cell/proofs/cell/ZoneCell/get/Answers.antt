use Rattle.std.proofs.Common.{◌≡◌, ◌*◌, ℕ, length, refl, arith, None, get_or}
use Rattle.std.proofs.lemmas.Nat.{mul-le}
use Rattle.drive_rules.specs.Blocks.{seen_block}
use Rattle.zone_cell.proofs.Pieces.{filled_more}
use Rattle.zone_cell.proofs.cell.ZoneCell.get.Goals as goal

pub loop-i-preserved : goal.loop-i-preserved
loop-i-preserved c =
    let cell = c.args.self.now in
    let len = c.block_len-len.result in
    let room : length c.args.out.now ≡ c.args.count * len = rw (← c.block_len-len.ensures.exact) at c.requires.room in
    let within = mul-le c.loop-i.i len c.args.count len (omega arith) (omega arith) in
    filled_more (λ (b : ℕ). seen_block cell.block_len (get_or cell.blocks b None)) c.args.from c.loop-i.i len _ c.loop-i.out c.args.out.now c.get_block.new.out c.loop-i.auto.out (omega (arith, within)) refl c.loop-i.invariant
    c.get_block.ensures
