use Rattle.std.proofs.Common.{◌≡◌, sym, ap, ◌∙◌, length, Bool, List, arith}
use Rattle.std.proofs.lemmas.List.{with_items_is}
use Rattle.written_blocks.specs.Marks.{marked, marks_of}
use Rattle.written_blocks.proofs.MarkLists.{length-marks_of, marks_of-marked}
use Rattle.written_blocks.proofs.written.Written.mark.Goals as goal

pub set_bits-requires-clause-within : goal.set_bits-requires-clause-within
set_bits-requires-clause-within c =
    let len : length c.args.self.now ≡ c.self.inside.blocks = ap length (sym c.self.view_is) ∙ length-marks_of c.self.inside.blocks c.self.inside.words.items in
    omega (arith, c.self.invariant, c.requires, c.deref_mut.ensures.len)

pub returns-clause-after : goal.returns-clause-after
returns-clause-after c =
    let blocks = c.self.inside.blocks in
    let words = c.self.inside.words in
    let set = c.set_bits.new.words in
    let from = c.args.from in
    let count = c.args.count in
    let len : length c.args.self.now ≡ blocks = ap length (sym c.self.view_is) ∙ length-marks_of blocks words.items in
    let kept = with_items_is words set (omega (arith, c.set_bits.auto.words, c.deref_mut.ensures.len)) in
    ap (marks_of blocks) kept
    ∙ marks_of-marked blocks words.items set from count (omega (arith, c.requires)) (λ b. rw (← c.deref_mut.ensures.value) (c.set_bits.ensures b))
    ∙ ap (λ (marks : List Bool). marked marks from count) c.self.view_is

pub returns-clause-len : goal.returns-clause-len
returns-clause-len c =
    let blocks = c.self.inside.blocks in
    length-marks_of blocks _ ∙ sym (length-marks_of blocks c.self.inside.words.items) ∙ ap length c.self.view_is
