use Rattle.changed_log.specs.Logs.{marked_below}
use Rattle.changed_log.proofs.FirstBlocks.{Listed}
use Rattle.changed_log.proofs.listing.list_firsts.Given as goal

abbrev pub invariant-loop-zone : goal.invariant-loop-zone
invariant-loop-zone l = Listed l.g.fields (marked_below l.marks l.zone) l.initial.out l.out l.at
