use Rattle.std.proofs.Common.{arith, rules, ◌≡◌, ℕ, ◌+◌, Option, List, length, drop, ap}
use Rattle.zns_program.specs.Tails.{TailBytes, StaysIn}
use Rattle.zns_program.proofs.Tails.{stays_then, stays_taken}
use Rattle.zns_program.proofs.tail.Tail.drain.Goals as goal

-- the held bytes were taken, and then more was read
stays_drained : (left mid now : Option (List ℕ)) (first held taken read : TailBytes) (all : List ℕ) → all ≡ held.held → StaysIn left mid first held → taken.held ≡ drop (length all) held.held → taken.at ≡ held.at + length all → StaysIn mid now taken read
    → StaysIn left now first read
stays_drained left mid now first held taken read all same one rest at two =
    stays_then left mid now first taken read (stays_then left mid mid first held taken one (stays_taken mid held taken (length all) (omega (arith, ap length same)) rest at)) two

pub loop-alloc-preserved : goal.loop-alloc-preserved
loop-alloc-preserved g c =
    let left = g.S.Source.left c.args.source.now in
    let mid = g.S.Source.left c.loop-alloc.source in
    let now = g.S.Source.left c.fill-in-loop-alloc.new.source in
    record {
      stays = stays_drained left mid now c.args.self.now c.loop-alloc.self c.skip.new.self c.fill-in-loop-alloc.new.self c.held-in-loop-alloc.result.now c.held-in-loop-alloc.ensures c.loop-alloc.invariant.stays c.skip.ensures.held c.skip.ensures.at
          c.fill-in-loop-alloc.ensures.stays;
      few = search rules;
      end = c.in_ok-fill-2.ensures.end;
      short = c.in_ok-fill-2.ensures.short;
      faults = omega (arith, c.loop-alloc.invariant.faults, c.fill-in-loop-alloc.ensures.never_falls);
    }

pub returns-in_err-fill-2-clause-stays : goal.returns-in_err-fill-2-clause-stays
returns-in_err-fill-2-clause-stays g c =
    let left = g.S.Source.left c.args.source.now in
    let mid = g.S.Source.left c.loop-alloc.source in
    let now = g.S.Source.left c.fill-in-loop-alloc.new.source in
    stays_drained left mid now c.args.self.now c.loop-alloc.self c.skip.new.self c.fill-in-loop-alloc.new.self c.held-in-loop-alloc.result.now c.held-in-loop-alloc.ensures c.loop-alloc.invariant.stays c.skip.ensures.held c.skip.ensures.at
    c.fill-in-loop-alloc.ensures.stays
