use Rattle.std.proofs.Common.{take, length}
use Rattle.mgmt_receive.specs.Receiving.{Given}
use Rattle.mgmt_receive.proofs.descriptors.give_all.Given as goal

abbrev pub invariant-loop-i : goal.invariant-loop-i
invariant-loop-i l = Given l.g.fields l.wanted (take l.i l.cells) (length l.initial.out) l.given l.out
