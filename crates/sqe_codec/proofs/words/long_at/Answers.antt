-- The two dwords are the halves of the eight bytes.
use Rattle.std.proofs.Common.{◌≡◌, arith, sym, ◌∙◌}
use Rattle.std.proofs.lemmas.Grind.{common_steps}
use Rattle.zns_types.specs.Fields.{long}
use Rattle.sqe_codec.proofs.Halves.{halves}
use Rattle.sqe_codec.proofs.words.long_at.Goals as goal

pub returns-clause-halves : goal.returns-clause-halves
returns-clause-halves c =
    let value : c.read_u64.result ≡ long c.args.k c.args.bytes.now = grind (arith, common_steps) in
    halves c.args.k c.args.bytes.now ∙ sym value
