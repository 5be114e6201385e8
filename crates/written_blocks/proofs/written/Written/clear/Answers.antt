use Rattle.std.proofs.Common.{◌≡◌, ℕ, sym, ap, ◌∙◌, length, slice_index, false, inl, inr, arith}
use Rattle.std.specs.Prelude.{replicate}
use Rattle.std.proofs.lemmas.List.{with_items_is, get_or_past}
use Rattle.std.proofs.lemmas.Bool.{cases_lt}
use Rattle.written_blocks.specs.Marks.{marks_of}
use Rattle.written_blocks.proofs.MarkLists.{length-marks_of, marks_of-zeros}
use Rattle.written_blocks.proofs.written.Written.clear.Goals as goal

pub returns : goal.returns
returns c =
    let blocks = c.self.inside.blocks in
    let words = c.self.inside.words in
    let zeros = c.loop-word.word-items in
    let len : length c.args.self.now ≡ blocks = ap length (sym c.self.view_is) ∙ length-marks_of blocks words.items in
    let kept = with_items_is words zeros (omega (arith, c.loop-word.auto.word-items, c.deref_mut-word-items.ensures.len)) in
    let each : (i : ℕ) → slice_index zeros i ≡ 0 = λ i. elim (cases_lt i c.loop-word.word-index) [
      | inl done ↦ c.loop-word.invariant i done
      | inr past ↦ get_or_past zeros i 0 (omega (arith, c.loop-word.auto.word-items, c.loop-word-test.false))
    ] in
    ap (marks_of blocks) kept ∙ marks_of-zeros blocks zeros each ∙ ap (λ n. replicate n false) (sym len)
