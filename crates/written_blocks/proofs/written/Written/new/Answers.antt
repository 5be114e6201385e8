use Rattle.std.proofs.Common.{◌≡◌, rules}
use Rattle.std.specs.Prelude.{replicate}
use Rattle.written_blocks.proofs.MarkLists.{marks_of-zeros, slice_index-zeros}
use Rattle.written_blocks.proofs.written.Written.new.Goals as goal

pub returns : goal.returns
returns c =
    let zeros : c.in_ok-words.words.items ≡ replicate c.div_ceil.result 0 = search rules in
    marks_of-zeros c.args.blocks c.in_ok-words.words.items (λ i. rw zeros (slice_index-zeros c.div_ceil.result i))
