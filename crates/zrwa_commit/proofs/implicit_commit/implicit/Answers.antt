use Rattle.std.proofs.Common.{arith}
use Rattle.zrwa_commit.proofs.Granules.{past_area-fewest, past_area-least}
use Rattle.zrwa_commit.proofs.implicit_commit.implicit.Goals as goal

pub returns-clause-fewest : goal.returns-clause-fewest
returns-clause-fewest c =
    let granules = c.args.g.now.valid.windows.granules c.requires.windows in
    let fewest = past_area-fewest c.args.g.now.fields c.args.p c.args.end granules.granule in
    grind (arith, fewest)

pub returns-clause-least : goal.returns-clause-least
returns-clause-least c =
    let granules = c.args.g.now.valid.windows.granules c.requires.windows in
    λ on.
    let least = past_area-least c.args.g.now.fields c.args.p c.args.end granules.granule on in
    cc
