use Rattle.zns_program.proofs.Made.{made_output}
use Rattle.zns_program.proofs.plain.output_of.Goals as goal

pub returns-in-Gen-clause-output : goal.returns-in-Gen-clause-output
returns-in-Gen-clause-output g c =
    rw c.in-Gen.is (made_output c.in-Gen.number c.in-Gen.count (g.S.Source.left c.args.source.now) (g.S.Source.faults c.args.source.now) c.made_summary.result c.made_summary.ensures.makes)
