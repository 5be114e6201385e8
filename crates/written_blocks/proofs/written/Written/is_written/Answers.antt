use Rattle.std.proofs.Common.{◌≡◌, ◌/◌, sym, ap, ◌∙◌, length, arith, false, slice_index}
use Rattle.std.proofs.lemmas.List.{get_or_read}
use Rattle.std.proofs.lemmas.Nat.Bits.{shr_and_one}
use Rattle.written_blocks.proofs.MarkLists.{length-marks_of, get_or-marks_of}
use Rattle.written_blocks.proofs.written.Written.is_written.Goals as goal

pub index-word-requires : goal.index-word-requires
index-word-requires c =
    let len : length c.args.self.now ≡ c.self.inside.blocks = ap length (sym c.self.view_is) ∙ length-marks_of c.self.inside.blocks c.self.inside.words.items in
    omega (arith, c.self.invariant, c.requires)

pub returns : goal.returns
returns c =
    let blocks = c.self.inside.blocks in
    let words = c.self.inside.words in
    let len : length c.args.self.now ≡ blocks = ap length (sym c.self.view_is) ∙ length-marks_of blocks words.items in
    let word : c.index-word.result.now ≡ slice_index words.items (c.args.block / 64) = get_or_read words.items _ _ (omega (arith, c.self.invariant, c.requires, words.ok.0)) c.index-word.ensures 0 in
    rw (← c.self.view_is, get_or-marks_of blocks words.items c.args.block false (omega (arith, c.requires)), shr_and_one, word)
