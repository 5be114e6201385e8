use Rattle.std.proofs.Common.{ap, ◌∙◌, not}
use Rattle.mgmt_receive.proofs.Given.{all_counted, both_counted}
use Rattle.mgmt_receive.proofs.counts.count_all.Goals as goal

pub returns-then-is_none : goal.returns-then-is_none
returns-then-is_none c = all_counted c.args.wanted c.args.cells.now (c.is_none.ensures ∙ ap not c.if-is_none.true)

pub returns : goal.returns
returns c = both_counted c.args.wanted c.args.cells.now c.args.gave.seen c.args.gave.given c.count_wanted.result c.requires.given c.count_wanted.ensures
