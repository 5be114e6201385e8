use Rattle.std.proofs.Common.{◌≡◌, sym, ap, ◌∙◌, length, arith}
use Rattle.written_blocks.proofs.MarkLists.{length-marks_of, holes-rest}
use Rattle.written_blocks.proofs.written.Written.holes.Goals as goal

pub count_bits-set-requires-clause-within : goal.count_bits-set-requires-clause-within
count_bits-set-requires-clause-within c =
    let len : length c.args.self.now ≡ c.self.inside.blocks = ap length (sym c.self.view_is) ∙ length-marks_of c.self.inside.blocks c.self.inside.words.items in
    omega (arith, c.self.invariant, c.requires.within, c.deref.ensures.len)

pub returns : goal.returns
returns c =
    let blocks = c.self.inside.blocks in
    let words = c.self.inside.words in
    let len : length c.args.self.now ≡ blocks = ap length (sym c.self.view_is) ∙ length-marks_of blocks words.items in
    let set = rw c.deref.ensures.value at c.count_bits-set.ensures.exact in
    rw (← c.self.view_is) (holes-rest blocks words.items c.args.from c.args.to c.count_bits-set.result c.requires.order (omega (arith, c.requires.within)) set)
